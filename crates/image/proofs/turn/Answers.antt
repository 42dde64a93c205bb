-- `turn` refuses what `find` refuses; past that it is the step of the module whose turn is next, and moves the marker on where it is accepted.
-- Assumes nothing.
use Rattle.std.proofs.Common.{rules}
use Rattle.image.proofs.Turns.{no_turn, nobody_steps, is_known, moves_on, stays}
use Rattle.image.proofs.turn.Goals as goal

pub returns-in_err-last : goal.returns-in_err-last
returns-in_err-last c = no_turn _ _ _ c.in_err-last.ensures (search rules)

pub returns-in_default : goal.returns-in_default
returns-in_default c = nobody_steps _ _ _ c.in_ok-last.ensures c.in_default.ensures

pub step_of-requires : goal.step_of-requires
step_of-requires c = is_known _ _ _ c.in_ok-last.ensures _ c.in-Some.ensures

pub returns-in_err-number : goal.returns-in_err-number
returns-in_err-number c = stays _ _ _ c.in_ok-last.ensures _ _ c.in-Some.ensures c.in_err-number.ensures (search rules)

pub returns : goal.returns
returns c = moves_on _ _ _ c.in_ok-last.ensures _ _ c.in-Some.ensures c.in_ok-number.ensures (search rules) c.from.ensures
