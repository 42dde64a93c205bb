-- `row_of` refuses where the log is full and the row would admit; past that it stores the step and says its answer.
-- Assumes nothing.
use mathlib.Core.Path.{sym, ◌∙◌}
use Rattle.image.proofs.Replies.{row_full, row_steps}
use Rattle.image.proofs.row_of.Goals as goal

pub returns-then-overfills : goal.returns-then-overfills
returns-then-overfills c =
    row_full _ _ _ c.look-l.ensures _ c.module_of-m.ensures.1 c.requires.1 (sym c.overfills.ensures ∙ c.if-overfills.true)

pub store-requires : goal.store-requires
store-requires c = record { looks = c.look-l.ensures; room = sym c.overfills.ensures ∙ c.if-overfills.false }

pub returns : goal.returns
returns c =
    row_steps _ _ _ c.look-l.ensures _ c.module_of-m.ensures.1 c.requires.1 (sym c.overfills.ensures ∙ c.if-overfills.false)
    c.store.ensures
