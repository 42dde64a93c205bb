-- Lists of modules: with one more at the end, and without one. Assumes nothing.
use Prim.Native.Nat.{ℕ}
use mathlib.Core.Path.{◌≡◌, refl, subst}
use mathlib.Core.List.{List, [], ◌∷◌, ◌++◌}
use mathlib.Core.Logic.{◌⊎◌, inl, inr, ⊎_elim, ◌≢◌}
use lib.Dec.{eqb}
use borrow.Author.Tests.{eqb-true, eqb-false}
use Rattle.laws.proofs.Cases.{choose}
use Rattle.line.specs.Corollaries.{OneOf, Ahead, without}

-- p at the end -------------------------------------------------------------------------------------------------------------------

module _ (p : ℕ) where
  pub one_append : (q : ℕ) (s : List ℕ) → OneOf q (s ++ p ∷ []) → OneOf q s ⊎ (q ≡ p)
  one_append q [] (inr i) = elim i [ ]
  one_append q [] (inl e) = inr e
  one_append q (x ∷ s) (inl e) = inl (inl e)
  one_append q (x ∷ s) (inr i) = ⊎_elim (λ j. inl (inr j)) inr (one_append q s i)

  pub append_one : (q : ℕ) (s : List ℕ) → OneOf q s ⊎ (q ≡ p) → OneOf q (s ++ p ∷ [])
  append_one q [] (inl x'') = elim x'' [ ]
  append_one q [] (inr e) = inl e
  append_one q (x ∷ s) (inl (inl e)) = inl e
  append_one q (x ∷ s) (inl (inr i)) = inr (append_one q s (inl i))
  append_one q (x ∷ s) (inr e) = inr (append_one q s (inr e))

  -- who is ahead of somebody was there before p, and the other was too, or is p
  pub ahead_append : (a b : ℕ) (s : List ℕ) → Ahead a b (s ++ p ∷ []) → OneOf a s × (Ahead a b s ⊎ (b ≡ p))
  ahead_append a b [] (inr i) = elim i [ ]
  ahead_append a b [] (inl z) = absurd z.1
  ahead_append a b (x ∷ s) (inl z) = (inl z.0, ⊎_elim (λ i. inl (inl (z.0, i))) inr (one_append b s z.1))
  ahead_append a b (x ∷ s) (inr i) = let r = ahead_append a b s i in (inr r.0, ⊎_elim (λ j. inl (inr j)) inr r.1)

  -- without p ----------------------------------------------------------------------------------------------------------------------

  -- what holds of the empty list, where p is first, and where another is, holds of every list without p
  removing :
      (P : List ℕ → List ℕ → Type 0)
      → P [] []
      → ((s : List ℕ) → P (p ∷ s) s)
      → ((x : ℕ) (s : List ℕ) → p ≢ x → P s (without p s) → P (x ∷ s) (x ∷ without p s))
      → (s : List ℕ)
      → P s (without p s)
  unfolding without
  removing P none gone on [] = none
  removing P none gone on (x ∷ s) =
      choose (P (x ∷ s)) (eqb p x) (λ e. subst (λ (y : ℕ). P (y ∷ s) s) (eqb-true p x e) (gone s))
      (λ e. on x s (eqb-false p x e) (removing P none gone on s))

  pub one_without : (q : ℕ) (s : List ℕ) → OneOf q (without p s) → OneOf q s
  one_without q = removing (λ s r. OneOf q r → OneOf q s) (λ i. i) (λ s. inr) (λ x s n ih. ⊎_elim inl (λ i. inr (ih i)))

  pub without_one : (q : ℕ) → q ≢ p → (s : List ℕ) → OneOf q s → OneOf q (without p s)
  without_one q other =
      removing (λ s r. OneOf q s → OneOf q r) (λ i. i) (λ s. ⊎_elim (λ e. absurd (other e)) (λ i. i)) (λ x s n ih. ⊎_elim inl (λ i. inr (ih i)))

  pub ahead_without : (a b : ℕ) (s : List ℕ) → Ahead a b (without p s) → Ahead a b s
  ahead_without a b =
      removing (λ s r. Ahead a b r → Ahead a b s) (λ i. i) (λ s. inr)
      (λ x s n ih. ⊎_elim (λ z. inl (z.0, one_without b s z.1)) (λ i. inr (ih i)))

  -- who is still there was there twice
  pub twice : (s : List ℕ) → OneOf p (without p s) → Ahead p p s
  twice = removing (λ s r. OneOf p r → Ahead p p s) (λ i. i) (λ s i. inl (refl, i)) (λ x s n ih. ⊎_elim (λ e. absurd (n e)) (λ i. inr (ih i)))
