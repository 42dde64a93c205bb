-- One module changes the record of another, which is in the line. Assumes nothing.
use Prim.Native.Nat.{ℕ, ◌≤◌}
use mathlib.Core.Path.{◌≡◌, refl, ap, subst⁻¹}
use mathlib.Core.List.{List}
use mathlib.Core.Logic.{inl, inr, ⊎_elim}
use lib.Dec.{T}
use native.Mathlib.Nat.{le_refl}
use Rattle.laws.proofs.Cases.{equal}
use Rattle.laws.proofs.Only.{among}
use Rattle.stage.proofs.Update.{upd_other, upd_all}
use Rattle.stage.specs.Table.{upd}
use Rattle.stage.specs.declared.Private.{Private}
use Rattle.stage.specs.declared.Shared.{Shared}
use Rattle.line.specs.PlainLine.{Place}
use Rattle.line.proofs.Calm.{Onward, Calm, seeks_on}
use Rattle.line.proofs.Facts.{seeks_not}
use Rattle.line.proofs.Invariant.{Seeks, Inv, settled}
use Rattle.line.proofs.Places.{In, behind}

module _ {g : ℕ → ℕ} {private : ℕ → Private} {sh : ℕ → Shared} {lock : ℕ} {l : List Place} {h : ℕ} (i : Inv g private sh lock l h)
    (p x : ℕ) (me' : Private) (its' : Shared) (into : In x l)
    (link : Onward (sh x).link its'.link)
    (raised : (sh x).priority ≤ its'.priority)
    (kept : In x (behind l) → its'.priority ≡ (sh x).priority) where
  pub other_calm : Calm l sh (upd sh x its')
  other_calm =
      record {
        links = upd_all sh x its' (λ q s. Onward (sh q).link s.link) link (λ q n. inl refl);
        raised = upd_all sh x its' (λ q s. In q l → (sh q).priority ≤ s.priority) (λ _. raised) (λ q n _. le_refl _);
        kept = upd_all sh x its' (λ q s. In q (behind l) → s.priority ≡ (sh q).priority) kept (λ q n _. refl);
      }

  pub other_seeks :
      T (among me'.stage settled)
      → (q : ℕ) → Seeks g (upd sh x its') q (upd private p me' q).stage (upd private p me' q) (upd sh x its' q)
  other_seeks still q =
      upd_all private p me' (λ q me. Seeks g sh' q me.stage me (sh' q)) (seeks_not g sh' p me'.stage me' (sh' p) still)
      (λ q n. seeks_on i sh' other_calm q
      (⊎_elim (λ e. inr (subst⁻¹ (λ (z : ℕ). In z l) e into))
      (λ n'. let same = upd_other sh x its' q n' in
      inl (ap (λ (s : Shared). s.priority) same, ap (λ (s : Shared). s.locked) same, ap (λ (s : Shared). s.link.pointer) same))
      (equal q x)))
      q
    where
      sh' : ℕ → Shared
      sh' = upd sh x its'
