-- How a link's change count goes up. Document 01: every change "adds 1 to the link's count ..; after 65,535 comes 0".
use Rattle.std.specs.Prelude.{◌≡◌, ℕ, zero, suc, ◌+◌, ◌%◌, ◌<◌, ◌≢◌}

-- the count after one change, where counts run from 0 to m - 1
abbrev pub next : ℕ → ℕ → ℕ
next m c = (c + 1) % m

-- how many counts there are: 16 bits
abbrev pub size : ℕ
size = 65536

-- the count after d changes
unfoldable pub changes : (ℕ → ℕ) → ℕ → ℕ → ℕ
changes bump zero c = c
changes bump (suc d) c = bump (changes bump d c)

-- What demand 3's premise rests on, of any size m: after d changes, 0 < d < m, the count is another one; after m changes it is the same.
abbrev pub Another : ℕ → Type 0
Another m = (c d : ℕ) → c < m → 0 < d → d < m → changes (next m) d c ≢ c

abbrev pub TheSame : ℕ → Type 0
TheSame m = (c : ℕ) → c < m → changes (next m) m c ≡ c
