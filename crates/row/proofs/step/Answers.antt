-- `step` is the row of its stage, way by way in the order of the table; a number that is no stage is past the table.
-- Assumes nothing.
use mathlib.Core.Path.{refl, ◌∙◌, sym}
use Rattle.stage.specs.Rows.{find, rows}
use Rattle.row.proofs.AfterSwap.{by_swap}
use Rattle.row.proofs.step.Goals as goal

pub returns-in-Ok : goal.returns-in-Ok
unfolding find rows
returns-in-Ok c = let start = c.args in
    sym (c.after_swap-after.ensures start.me start.its _ _) ∙ by_swap _ _ _ _ _ c.in-9.is _ (sym c.swap.ensures ∙ c.in-Ok.is)

pub returns-in-Err : goal.returns-in-Err
unfolding find rows
returns-in-Err c = let start = c.args in
    sym (c.after_swap-after-in-Err.ensures start.me start.its _ _ refl) ∙ by_swap _ _ _ _ _ c.in-9.is _ (sym c.swap.ensures ∙ c.in-Err.is)
