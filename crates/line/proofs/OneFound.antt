-- What is found from the lock word is one list, and counts do not matter to it. Assumes nothing.
use Prim.Native.Nat.{ℕ}
use mathlib.Core.Path.{◌≡◌, refl, sym, ◌∙◌, ap, ap₂, subst⁻¹}
use mathlib.Core.List.{List, [], ◌∷◌}
use mathlib.Core.Logic.{◌≢◌}
use Rattle.stage.specs.Table.{Table}
use Rattle.line.specs.Demand3.{Leads, left_off, Found}
use Rattle.line.proofs.WrapCalls.{wrap}

module _ (t : Table) where
  leads_one : (q : ℕ) (l l' : List ℕ) → Leads t q l → Leads t q l' → l ≡ l'
  unfolding Leads
  leads_one q [] [] a b = refl
  leads_one q [] (y ∷ l') a b = absurd (b.1 (sym b.0 ∙ a))
  leads_one q (x ∷ l) [] a b = absurd (a.1 (sym a.0 ∙ b))
  leads_one q (x ∷ l) (y ∷ l') a b =
      let e : x ≡ y = sym a.0 ∙ b.0 in
      ap₂ (λ (z : ℕ) (m : List ℕ). z ∷ m) e
      (leads_one (t.shared x).link.pointer l l' a.2 (subst⁻¹ (λ (z : ℕ). Leads t (t.shared z).link.pointer l') e b.2))

  pub found_one : (l l' : List ℕ) → Found t l → Found t l' → l ≡ l'
  found_one l l' a b = sym a.2 ∙ ap (left_off t) (leads_one t.lock a.0 b.0 a.1 b.1) ∙ b.2

  module _ (m : ℕ) where
    leads_wraps : (q : ℕ) (l : List ℕ) → Leads (wrap m t) q l ≡ Leads t q l
    unfolding Leads
    leads_wraps q [] = refl
    leads_wraps q (x ∷ l) = ap (λ (A : Type 0). (q ≡ x) × (x ≢ 0) × A) (leads_wraps (t.shared x).link.pointer l)

    left_off_wraps : (l : List ℕ) → left_off (wrap m t) l ≡ left_off t l
    unfolding left_off
    left_off_wraps [] = refl
    left_off_wraps (x ∷ l) = refl

    pub found_wraps : (l : List ℕ) → Found (wrap m t) l ≡ Found t l
    found_wraps l = λ i. (met : List ℕ) × leads_wraps t.lock met i × (left_off_wraps met i ≡ l)
