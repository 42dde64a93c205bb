-- The records as the code cuts them out of an image, one by one: they are right where the rules hold of each place.
-- Assumes nothing.
use Prim.Native.Nat.{ℕ, zero, suc, ◌+◌, ◌*◌, ◌<◌}
use mathlib.Core.Path.{◌≡◌, refl, sym, ◌∙◌, ap, ap₂}
use mathlib.Core.Bool.{Bool, ◌&&◌, and_assoc, and-true}
use mathlib.Core.List.{List}
use native.Mathlib.Nat.{add-zero}
use native.Mathlib.Omega.{arith}
use lib.ListN.{take, drop}
use Rattle.std.specs.List.{list_all}
use Rattle.std.specs.Simd.{first_chunks}
use Rattle.std.proofs.lemmas.List.{drop-drop}
use Rattle.stage.specs.Sound.{every, sound_link, sound_private, sound_shared}
use Rattle.layout.specs.Layout.{byte, private_at, shared_at}
use Rattle.soundness.specs.SoundImage.{sound_zeros}
use Rattle.soundness.specs.Parts.{record_right}

-- a rule of every number, by the first of them and the others
every_front : (k : ℕ) (f : ℕ → Bool) → every (suc k) f ≡ (f 1 && every k (λ p. f (suc p)))
unfolding every
every_front zero f = sym (and-true (f 1))
every_front (suc k) f = ap (λ (b : Bool). b && f (suc (suc k))) (every_front k f) ∙ and_assoc (f 1) (every k (λ p. f (suc p))) (f (suc (suc k)))

-- a rule of all chunks of 16 bytes, where it comes to a rule of their numbers
pub chunks_every : (f : List ℕ → Bool) (k : ℕ) (g : ℕ → Bool) (xs : List ℕ) → ((i : ℕ) → i < k → f (take 16 (drop (16 * i) xs)) ≡ g (suc i))
    → list_all f (first_chunks 16 k xs) ≡ every k g
unfolding every
chunks_every f zero g xs e = refl
chunks_every f (suc k) g xs e =
    ap₂ (λ (a b : Bool). a && b) (e 0 (omega arith)) (chunks_every f k (λ p. g (suc p)) (drop 16 xs)
    (λ i h. ap f (ap (λ (l : List ℕ). take 16 l) (drop-drop (16 * i) 16 xs ∙ ap (λ (m : ℕ). drop m xs) (let same : 16 + 16 * i ≡ 16 * suc i = omega arith in same))) ∙ e (suc i) (omega arith)))
    ∙ sym (every_front k g)

-- the rules of a record, and of the same bytes where they lie in an image; no rule asks the counts
pub record_is : (n : ℕ) (r b : List ℕ) (at : ℕ) → ((j : ℕ) → j < 16 → byte r j ≡ byte b (at + j))
    → record_right n r ≡ (sound_zeros b at && sound_private n (private_at b at) && sound_shared n (shared_at b at))
unfolding record_right sound_zeros sound_private sound_shared sound_link private_at shared_at
record_is n r b at e =
    let z : byte r 0 ≡ byte b at = e 0 (omega arith) ∙ ap (byte b) (add-zero at) in
    rw (
      z,
      e 1 (omega arith),
      e 2 (omega arith),
      e 3 (omega arith),
      e 4 (omega arith),
      e 5 (omega arith),
      e 8 (omega arith),
      e 9 (omega arith),
      e 13 (omega arith),
      e 14 (omega arith),
      e 15 (omega arith),
    )
