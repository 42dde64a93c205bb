-- What the invariant says at once of one state. Assumes nothing.
use Prim.Native.Nat.{ℕ, ◌≤◌}
use mathlib.Core.Path.{◌≡◌, refl, sym, ◌∙◌, ap, subst, subst⁻¹}
use mathlib.Core.List.{List, [], ◌∷◌}
use mathlib.Core.Logic.{◌≢◌, ◌⊎◌, inl, inr, ⊎_elim}
use lib.Dec.{T}
use native.Mathlib.Omega.{arith}
use Rattle.laws.proofs.Only.{among, disjoint, included, either}
use Rattle.stage.specs.Rows.{last}
use Rattle.stage.specs.declared.Private.{Private}
use Rattle.stage.specs.declared.Shared.{Shared}
use Rattle.line.specs.PlainLine.{Place}
use Rattle.stage.proofs.ByStage.{by_stage}
use Rattle.line.proofs.Invariant.{Stands, Seeks, Holder, Inv, outs, seekers, holders, leavers, members, settled}
use Rattle.line.proofs.Places.{In, head}

-- a module is away from the line, in it, or leaving
pub kinds : (k : ℕ) → k ≤ last → T (among k outs) ⊎ (T (among k members) ⊎ T (among k leavers))
kinds =
    by_stage (λ k. T (among k outs) ⊎ (T (among k members) ⊎ T (among k leavers)))
    (inl tt) (inl tt) (inl tt) (inr (inl tt)) (inl tt) (inl tt) (inl tt) (inl tt) (inl tt) (inl tt) (inl tt)
    (inr (inl tt)) (inr (inl tt)) (inr (inl tt)) (inr (inl tt)) (inr (inr tt)) (inr (inr tt)) (inr (inr tt)) (inr (inr tt)) (inr (inl tt))

pub seeks_not : (g : ℕ → ℕ) (sh : ℕ → Shared) (q k : ℕ) (me : Private) (its : Shared) → T (among k settled) → Seeks g sh q k me its
seeks_not g sh q k me its m =
    record {
      given = λ t. absurd (disjoint settled seekers tt k m t);
      nil = λ t. absurd (disjoint settled (2 ∷ []) tt k m t);
      locked = λ t. absurd (disjoint settled (5 ∷ 6 ∷ 7 ∷ 8 ∷ 9 ∷ 10 ∷ []) tt k m t);
      copied = λ t. absurd (disjoint settled (9 ∷ []) tt k m t);
      knows = λ t. absurd (disjoint settled (6 ∷ 7 ∷ 8 ∷ 9 ∷ []) tt k m t);
    }

module _ {g : ℕ → ℕ} {private : ℕ → Private} {sh : ℕ → Shared} {lock : ℕ} {l : List Place} {h : ℕ} (i : Inv g private sh lock l h) where
  -- what is known of a module at a known stage
  pub stands_at : (q k : ℕ) → (private q).stage ≡ k → Stands l h q k (sh q).locked
  stands_at q k e = subst (λ (j : ℕ). Stands l h q j (sh q).locked) e (i.stands q)

  pub seeks_at : (q k : ℕ) → (private q).stage ≡ k → Seeks g sh q k (private q) (sh q)
  seeks_at q k e = subst (λ (j : ℕ). Seeks g sh q j (private q) (sh q)) e (i.seeks q)

  pub holder_at : (q k : ℕ) → (private q).stage ≡ k → q ≡ h → Holder q k (private q) (sh q) lock l
  holder_at q k e q_h =
      subst (λ (j : ℕ). Holder q j (private q) (sh q) lock l) e
      (subst (λ (z : ℕ). Holder z (private z).stage (private z) (sh z) lock l) (sym q_h) i.holder)

  -- whoever is in the line is at one of its stages
  pub member : (q : ℕ) → In q l → T (among (private q).stage members)
  member q into =
      let k = (private q).stage in
      ⊎_elim (λ o. absurd ((i.stands q).out o into))
      (⊎_elim (λ m. m) (λ x. absurd ((holder_at q k refl ((i.stands q).holds (included leavers holders tt k x))).away x into)))
      (kinds k (i.stands q).known)

  pub not_nil : (q : ℕ) → In q l → q ≢ 0
  not_nil q into e = subst (λ (k : ℕ). T (among k members)) (ap (λ (z : ℕ). (private z).stage) e ∙ i.nobody) (member q into)

  -- a member of the line seeks nothing, whatever the shared parts become
  pub member_seeks : (sh' : ℕ → Shared) (q : ℕ) → In q l → Seeks g sh' q (private q).stage (private q) (sh' q)
  member_seeks sh' q into = seeks_not g sh' q (private q).stage (private q) (sh' q) (included members settled tt (private q).stage (member q into))

  -- where somebody is in the line, its first is
  pub head_in : (q : ℕ) → l ≢ [] → head l ≡ q → In q l
  head_in q some e = go l some e
    where
      go : (m : List Place) → m ≢ [] → head m ≡ q → In q m
      go [] some' e' = absurd (some' refl)
      go (x ∷ m) some' e' = inl (sym e')

  -- a line whose first is nil is empty
  pub empty : head l ≡ 0 → l ≡ []
  empty e = go l e (λ q. not_nil q)
    where
      go : (m : List Place) → head m ≡ 0 → ((q : ℕ) → In q m → q ≢ 0) → m ≡ []
      go [] e' n = refl
      go (x ∷ m) e' n = absurd (n x.module (inl refl) e')

  -- a lock word of 0 is a free lock: nobody is in the line, and h holds nothing
  pub free : lock ≡ 0 → (l ≡ []) × T (among (private h).stage outs)
  free z =
      let k = (private h).stage in
      let some_h : h ≡ 0 → T (among k leavers) → ⊥ =
      λ e x. disjoint leavers outs tt k x (subst⁻¹ (λ (j : ℕ). T (among j outs)) (ap (λ (q : ℕ). (private q).stage) e ∙ i.nobody) tt) in
      ⊎_elim (λ o. ((i.holder.free o).0, o))
      (⊎_elim
      (λ m. let f = i.holder.first m in absurd (not_nil h (head_in h f.1 f.2) (sym f.0 ∙ z)))
      (λ x. ⊎_elim
      (λ c. absurd (some_h (sym (i.holder.closing c).0 ∙ z) x))
      (λ c. let f = i.holder.handing c in absurd (not_nil (head l) (head_in (head l) f.2 refl) (sym f.0 ∙ z)))
      (either (15 ∷ 16 ∷ []) (17 ∷ 18 ∷ []) k x)))
      (kinds k (i.stands h).known)

  -- a module that waits with Locked 0 is the holder
  pub freed_first : (q : ℕ) → (private q).stage ≡ 12 → (sh q).locked ≡ 0 → q ≡ h
  freed_first q e z = ⊎_elim (λ a. a.0) (λ a. absurd (omega (arith, z, a.1))) ((stands_at q 12 e).waits tt).1
