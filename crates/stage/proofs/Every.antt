-- What holds of every module, and of each entry. Assumes nothing.
use Prim.Native.Nat.{ℕ, zero, suc, ◌≤◌}
use mathlib.Core.Path.{◌≡◌, refl, sym, subst}
use mathlib.Core.Bool.{Bool, true}
use mathlib.Core.List.{List, [], ◌∷◌, ◌++◌}
use mathlib.Core.Logic.{⊎_elim}
use native.Mathlib.Omega.{arith}
use Rattle.laws.proofs.Cases.{equal, both_hold, both_are}
use Rattle.stage.specs.Sound.{every, each}

pub every_gives : (n : ℕ) (f : ℕ → Bool) → every n f ≡ true → (p : ℕ) → 1 ≤ p → p ≤ n → f p ≡ true
unfolding every
every_gives zero f e p low high = absurd (omega arith)
every_gives (suc k) f e p low high =
    let a = both_hold (every k f) (f (suc k)) e in
    ⊎_elim (λ same. subst (λ (q : ℕ). f q ≡ true) (sym same) a.1) (λ other. every_gives k f a.0 p low (omega arith)) (equal p (suc k))

pub every_holds : (n : ℕ) (f : ℕ → Bool) → ((p : ℕ) → 1 ≤ p → p ≤ n → f p ≡ true) → every n f ≡ true
unfolding every
every_holds zero f all = refl
every_holds (suc k) f all = both_are (every_holds k f (λ p low high. all p low (omega arith))) (all (suc k) (omega arith) (omega arith))

pub each_append : (f : ℕ → Bool) (l : List ℕ) (x : ℕ) → each f l ≡ true → f x ≡ true → each f (l ++ x ∷ []) ≡ true
unfolding each
each_append f [] x e here = both_are here refl
each_append f (y ∷ l) x e here = let a = both_hold (f y) (each f l) e in both_are a.0 (each_append f l x a.1 here)
