-- A record's 16 bytes cut out of an image: its parts are those at its place in the image.
-- Assumes nothing.
use mathlib.Core.Path.{◌≡◌, ◌∙◌, ap}
use mathlib.Core.List.{List}
use Prim.Native.Nat.{ℕ, ◌+◌, ◌<◌}
use native.Mathlib.Nat.{add-zero}
use native.Mathlib.Omega.{arith}
use lib.ListN.{take, drop}
use Rattle.std.proofs.lemmas.List.{get_or-take, get_or-drop}
use Rattle.layout.specs.Layout.{byte, two, private_at, shared_at}

abbrev pub cut_out : List ℕ → ℕ → List ℕ
cut_out b at = take 16 (drop at b)

-- a byte of it
cut_byte : (b : List ℕ) (at j : ℕ) → j < 16 → byte (cut_out b at) j ≡ byte b (at + j)
cut_byte b at j h = get_or-take 16 (drop at b) j 0 h ∙ get_or-drop at b j 0

-- its first byte, and the second of a number of two
cut_first : (b : List ℕ) (at : ℕ) → byte (cut_out b at) 0 ≡ byte b at
cut_first b at = cut_byte b at 0 (omega arith) ∙ ap (byte b) (add-zero at)

cut_next : (b : List ℕ) (at j : ℕ) → j + 1 < 16 → byte (cut_out b at) (j + 1) ≡ byte b (at + j + 1)
cut_next b at j h = cut_byte b at (j + 1) h ∙ ap (byte b) (let same : at + (j + 1) ≡ at + j + 1 = omega arith in same)

-- its two parts
pub private_there : (b : List ℕ) (at : ℕ) → private_at (cut_out b at) 0 ≡ private_at b at
unfolding private_at two
private_there b at =
    rw (
      cut_first b at,
      cut_byte b at 1 (omega arith),
      cut_byte b at 2 (omega arith),
      cut_byte b at 3 (omega arith),
      cut_byte b at 4 (omega arith),
      cut_byte b at 6 (omega arith),
      cut_next b at 6 (omega arith),
      cut_byte b at 14 (omega arith),
    )

pub shared_there : (b : List ℕ) (at : ℕ) → shared_at (cut_out b at) 0 ≡ shared_at b at
unfolding shared_at two
shared_there b at =
    rw (
      cut_byte b at 8 (omega arith),
      cut_byte b at 9 (omega arith),
      cut_byte b at 10 (omega arith),
      cut_next b at 10 (omega arith),
      cut_byte b at 12 (omega arith),
      cut_byte b at 13 (omega arith),
    )
