-- A call is refused, or accepted with none of its tests holding. Assumes nothing.
use Prim.Native.Nat.{ℕ, ◌≤◌}
use mathlib.Core.Path.{◌≡◌, refl, ◌∙◌, ap}
use mathlib.Core.Bool.{Bool, false, cond, not}
use mathlib.Core.List.{List, [], ◌∷◌}
use borrow.Author.Tests.{leb-true, not-false}
use lib.Dec.{leb}
use Rattle.laws.proofs.Cases.{choose, both_hold, cond_map}
use Rattle.stage.specs.Calls.{refusing, within}
use Rattle.stage.specs.declared.Refusal.{Refusal}

abbrev pub Unrefused : List (Bool × Refusal) → Type 0
Unrefused [] = Unit {0}
Unrefused (e ∷ others) = (e.0 ≡ false) × Unrefused others

pub refused_or :
    {A : Type 0} (P : A → Type 0) (tests : List (Bool × Refusal)) (refused : Refusal → A) (accepted : A)
    → ((k : Refusal) → P (refused k)) → (Unrefused tests → P accepted) → P (refusing tests refused accepted)
unfolding refusing
refused_or P [] refused accepted no_k yes_k = yes_k tt
refused_or P (e ∷ others) refused accepted no_k yes_k =
    choose P e.0 (λ t. no_k e.1) (λ f. refused_or P others refused accepted no_k (λ u. yes_k (f, u)))

-- what a number that was not refused as outside a range is
pub is_within : (a b x : ℕ) → not (within a b x) ≡ false → (a ≤ x) × (x ≤ b)
is_within a b x e =
    let f = both_hold (leb a x) (leb x b) (not-false (within a b x) e) in
    (leb-true a x f.0, leb-true x b f.1)

-- f of what a call comes to
pub refusing_map : {A B : Type 0} (f : A → B) (tests : List (Bool × Refusal)) (refused : Refusal → A) (accepted : A)
    → f (refusing tests refused accepted) ≡ refusing tests (λ k. f (refused k)) (f accepted)
unfolding refusing
refusing_map f [] refused accepted = refl
refusing_map f (e ∷ others) refused accepted =
    cond_map f e.0 (refused e.1) (refusing others refused accepted)
    ∙ ap (λ x. cond e.0 (f (refused e.1)) x) (refusing_map f others refused accepted)
