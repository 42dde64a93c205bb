-- One module changes its own record, and the line and the holder stay. Assumes nothing.
use Prim.Native.Nat.{ℕ, ◌≤◌}
use mathlib.Core.Path.{◌≡◌, refl, sym, ◌∙◌, ap, subst, subst⁻¹}
use mathlib.Core.List.{List}
use mathlib.Core.Logic.{◌≢◌, inl}
use native.Mathlib.Nat.{le_refl, le_of_eq}
use Rattle.link.specs.Operations.{OPEN}
use Rattle.stage.proofs.Update.{upd_other, upd_all, upd_both}
use Rattle.stage.specs.Table.{upd}
use Rattle.stage.specs.declared.Private.{Private}
use Rattle.stage.specs.declared.Shared.{Shared}
use Rattle.line.specs.PlainLine.{Place}
use Rattle.line.proofs.Calm.{Onward, Calm, seeks_on, urgent_on}
use Rattle.line.proofs.Invariant.{Stands, Seeks, Holder, Inv}
use Rattle.line.proofs.Places.{In, behind, in_behind, chain_map}

module _ {g : ℕ → ℕ} {private : ℕ → Private} {sh : ℕ → Shared} {lock : ℕ} {l : List Place} {h : ℕ} (i : Inv g private sh lock l h)
    (p : ℕ) (me' : Private) (its' : Shared) (link : Onward (sh p).link its'.link)
    (line : In p l → (its'.link.pointer ≡ (sh p).link.pointer) × (its'.priority ≡ (sh p).priority)) where
  -- its link unchanged or onward, and in the line the pointer and the priority kept: a change that the line bears
  pub own_calm : Calm l sh (upd sh p its')
  own_calm =
      record {
        links = upd_all sh p its' (λ q s. Onward (sh q).link s.link) link (λ q n. inl refl);
        raised = upd_all sh p its' (λ q s. In q l → (sh q).priority ≤ s.priority) (λ into. le_of_eq (sym (line into).1)) (λ q n into. le_refl _);
        kept =
            upd_all sh p its' (λ q s. In q (behind l) → s.priority ≡ (sh q).priority) (λ into. (line (in_behind l p into)).1) (λ q n into. refl);
      }

  -- what does not depend on the line or the holder
  module _ (some : p ≢ 0) where
    pub own_seeks : Seeks g (upd sh p its') p me'.stage me' its' → (q : ℕ) → Seeks g (upd sh p its') q (upd private p me' q).stage (upd private p me' q) (upd sh p its' q)
    own_seeks seek =
        upd_both private sh p me' its' (λ q me its. Seeks g (upd sh p its') q me.stage me its) seek
        (λ q n. let same = upd_other sh p its' q n in
        subst (λ (s : Shared). Seeks g (upd sh p its') q (private q).stage (private q) s) same
        (seeks_on i (upd sh p its') own_calm q
        (inl (ap (λ (s : Shared). s.priority) same, ap (λ (s : Shared). s.locked) same, ap (λ (s : Shared). s.link.pointer) same))))

    pub own_nobody : (upd private p me' 0).stage ≡ 0
    own_nobody = ap (λ (me : Private). me.stage) (upd_other private p me' 0 (λ e. some (sym e))) ∙ i.nobody

    pub own_marks : its'.link.mark ≤ 1 → (q : ℕ) → (upd sh p its' q).link.mark ≤ 1
    own_marks two = upd_all sh p its' (λ q s. s.link.mark ≤ 1) two (λ q n. i.marks q)

    pub own_bytes : its'.priority ≤ 255 → (q : ℕ) → (upd sh p its' q).priority ≤ 255
    own_bytes byte = upd_all sh p its' (λ q s. s.priority ≤ 255) byte (λ q n. i.bytes q)

  pub kept :
      (lock' : ℕ)
      → (p ≢ h → lock' ≡ lock)
      → p ≢ 0
      → (its'.link.mark ≡ OPEN → In p l)
      → its'.link.mark ≤ 1
      → its'.priority ≤ 255
      → Stands l h p me'.stage its'.locked
      → Seeks g (upd sh p its') p me'.stage me' its'
      → (p ≡ h → Holder p me'.stage me' its' lock' l)
      → Inv g (upd private p me') (upd sh p its') lock' l h
  kept lock' locks some mark two byte stand seek hold =
      record {
        stands = upd_both private sh p me' its' (λ q me its. Stands l h q me.stage its.locked) stand (λ q n. i.stands q);
        seeks = own_seeks some seek;
        holder =
            upd_both private sh p me' its' (λ q me its. q ≡ h → Holder q me.stage me its lock' l) hold
            (λ q n e. subst (λ (z : ℕ). Holder z (private z).stage (private z) (sh z) lock' l) (sym e)
            (subst⁻¹ (λ (z : ℕ). Holder h (private h).stage (private h) (sh h) z l) (locks (λ z. n (e ∙ sym z))) i.holder))
            h refl;
        nobody = own_nobody some;
        distinct = i.distinct;
        chain =
            chain_map (λ q. (sh q).link.pointer) (λ q. (upd sh p its' q).link.pointer) l
            (upd_all sh p its' (λ q s. In q l → s.link.pointer ≡ (sh q).link.pointer) (λ into. (line into).0) (λ q n into. refl))
            i.chain;
        sorted = i.sorted;
        urgent = urgent_on i (upd sh p its') own_calm;
        opens = upd_all sh p its' (λ q s. s.link.mark ≡ OPEN → In q l) mark (λ q n. i.opens q);
        marks = own_marks some two;
        bytes = own_bytes some byte;
      }
