-- Tests of every element of a list, and of every number from 1 on.
-- Assumes nothing.
use Prim.Native.Nat.{ℕ, zero, suc, ◌≤◌}
use mathlib.Core.Path.{◌≡◌, refl}
use mathlib.Core.Bool.{Bool, true, false, ◌&&◌, and_assoc, and_comm, and-true}
use mathlib.Core.List.{List, [], ◌∷◌}
use native.Mathlib.Omega.{arith}
use lib.Dec.{eqb, leb-zero, leb-suc-zero, eqb-zero-suc, eqb-suc-zero}
use Rattle.std.specs.List.{list_all}
use Rattle.stage.specs.Calls.{within}
use Rattle.stage.specs.Sound.{every, each}

pub and_left_comm : (a b c : Bool) → (a && (b && c)) ≡ (b && (a && c))
and_left_comm true b c = refl
and_left_comm false true c = refl
and_left_comm false false c = refl

-- two conjunctions of the same tests, sorted alike
pub ruleset sorted = (and_assoc, and_comm, and_left_comm)

-- between 0 and 0 is 0, whichever way round that is asked
pub only_zero : (x : ℕ) → (within 0 0 x ≡ eqb 0 x) × (within 0 0 x ≡ eqb x 0)
only_zero zero = (refl, refl)
only_zero (suc x) = (rw (leb-zero, leb-suc-zero, eqb-zero-suc), rw (leb-zero, leb-suc-zero, eqb-suc-zero))

module _ (f g : ℕ → Bool) where
  pub all_are : ((x : ℕ) → f x ≡ g x) → (l : List ℕ) → list_all f l ≡ each g l
  unfolding each
  all_are e [] = refl
  all_are e (x ∷ l) = rw (e x, all_are e l)

  pub every_same : (n : ℕ) → ((p : ℕ) → 1 ≤ p → p ≤ n → f p ≡ g p) → every n f ≡ every n g
  unfolding every
  every_same zero same = refl
  every_same (suc k) same = rw (every_same k (λ p low high. same p low (omega arith)), same (suc k) (omega arith) (omega arith))

  pub every_and : (n : ℕ) → every n (λ p. f p && g p) ≡ (every n f && every n g)
  unfolding every
  every_and zero = refl
  every_and (suc k) = rw (every_and k) (simp sorted)
