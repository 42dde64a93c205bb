-- Every step keeps the invariant. Assumes nothing.
use Prim.Native.Nat.{ℕ, suc}
use mathlib.Core.Path.{◌≡◌, refl, sym, subst₂}
use mathlib.Core.Logic.{◌≢◌}
use Rattle.stage.proofs.Update.{upd_kept}
use Rattle.stage.specs.Rows.{find, rows, no_step_row, looked, looks_at, stepped}
use Rattle.stage.specs.declared.Private.{Private}
use Rattle.stage.specs.declared.Shared.{Shared}
use Rattle.line.specs.History.{Course, stepping}
use Rattle.line.proofs.After.{After}
use Rattle.stage.proofs.ByStage.{by_stage}
use Rattle.line.proofs.Handing.{row17_keeps, row18_keeps, row19_keeps}
use Rattle.line.proofs.HoldingRows.{row3_keeps, row11_keeps, row12_keeps, row15_keeps, row16_keeps}
use Rattle.line.proofs.Invariant.{Inv}
use Rattle.line.proofs.Joining.{row9_keeps}
use Rattle.line.proofs.Leaving.{row14_keeps}
use Rattle.line.proofs.SeekingRows.{row1_keeps, row4_keeps, row5_keeps, row6_keeps, row7_keeps, row8_keeps, row10_keeps}
use Rattle.line.proofs.Taking.{row2_keeps}

module _ (o : Course) {private : ℕ → Private} {sh : ℕ → Shared} {lock : ℕ} {h : ℕ} (i : Inv o.given private sh lock o.line h) (p : ℕ) (some : p ≢ 0) where
  no_step : After o private sh p p (no_step_row suc p (private p) (sh p) lock)
  unfolding stepping
  no_step =
      (h, subst₂ (λ (f : ℕ → Private) (f' : ℕ → Shared). Inv o.given f f' lock o.line h) (sym (upd_kept private p)) (sym (upd_kept sh p)) i)

  pub step_keeps :
      After o private sh p (looks_at p (private p)) (stepped suc p (private p) (sh (looks_at p (private p))) lock)
  unfolding looks_at stepped find rows
  step_keeps =
      by_stage
      (λ k. (private p).stage ≡ k
      → After o private sh p (looked (find rows k).looks p (private p)) ((find rows k).row suc p (private p) (sh (looked (find rows k).looks p (private p))) lock))
      (λ _. no_step)
      (row1_keeps o i p some)
      (row2_keeps o i p some)
      (row3_keeps o i p some)
      (row4_keeps o i p some)
      (row5_keeps o i p some)
      (row6_keeps o i p some)
      (row7_keeps o i p some)
      (row8_keeps o i p some)
      (row9_keeps o i p some)
      (row10_keeps o i p some)
      (row11_keeps o i p some)
      (row12_keeps o i p some)
      (λ _. no_step)
      (row14_keeps o i p some)
      (row15_keeps o i p some)
      (row16_keeps o i p some)
      (row17_keeps o i p some)
      (row18_keeps o i p some)
      (row19_keeps o i p some)
      (private p).stage (i.stands p).known refl
