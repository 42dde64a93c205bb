-- The rows in which a module that is away from the line stays away from it. Assumes nothing.
use Prim.Native.Nat.{ℕ, ◌≤◌}
use mathlib.Core.Path.{◌≡◌, refl, sym, ◌∙◌, subst, subst⁻¹}
use mathlib.Core.List.{List}
use mathlib.Core.Logic.{◌≢◌, inl}
use lib.Dec.{T}
use Rattle.laws.proofs.Only.{among}
use Rattle.stage.proofs.Update.{upd_kept}
use Rattle.stage.specs.Rows.{last}
use Rattle.stage.specs.Table.{upd}
use Rattle.stage.specs.declared.Private.{Private}
use Rattle.stage.specs.declared.Shared.{Shared}
use Rattle.line.specs.PlainLine.{Place}
use Rattle.line.proofs.Calm.{Onward}
use Rattle.line.proofs.Facts.{holder_at}
use Rattle.line.proofs.Invariant.{Seeks, Inv, outs}
use Rattle.line.proofs.Kept.{kept}
use Rattle.line.proofs.Places.{In}
use Rattle.line.proofs.Tables.{out_stands, out_holder}

module _ {g : ℕ → ℕ} {private : ℕ → Private} {sh : ℕ → Shared} {lock : ℕ} {l : List Place} {h : ℕ} (i : Inv g private sh lock l h)
    (p : ℕ) (some : p ≢ 0) (o : T (among (private p).stage outs)) where
  pub not_in : In p l → ⊥
  not_in = (i.stands p).out o

  -- its record changes: the link's mark stays and its count does not fall
  pub seek :
      (me' : Private) (its' : Shared)
      → me'.stage ≤ last
      → T (among me'.stage outs)
      → Onward (sh p).link its'.link
      → its'.link.mark ≡ (sh p).link.mark
      → its'.priority ≤ 255
      → Seeks g (upd sh p its') p me'.stage me' its'
      → Inv g (upd private p me') (upd sh p its') lock l h
  seek me' its' known o' link mark byte seeks =
      kept i p me' its' link (λ into. absurd (not_in into)) lock (λ _. refl) some (λ e. i.opens p (sym mark ∙ e))
      (subst⁻¹ (λ (k : ℕ). k ≤ 1) mark (i.marks p)) byte
      (out_stands l h p me'.stage its'.locked known o' not_in) seeks
      (λ e. out_holder p me'.stage me' its' lock l o' ((holder_at i p (private p).stage refl e).free o))

  -- no record changes
  pub look :
      (me' : Private)
      → me'.stage ≤ last
      → T (among me'.stage outs)
      → Seeks g sh p me'.stage me' (sh p)
      → Inv g (upd private p me') sh lock l h
  look me' known o' seeks =
      subst (λ (s : ℕ → Shared). Inv g (upd private p me') s lock l h) (upd_kept sh p)
      (seek me' (sh p) known o' (inl refl) refl (i.bytes p) (subst⁻¹ (λ (s : ℕ → Shared). Seeks g s p me'.stage me' (sh p)) (upd_kept sh p) seeks))
