-- `put_log` writes where the entries leave room for the four bytes of `log` and the newline.
-- Assumes nothing.
use native.Mathlib.Omega.{arith}
use Rattle.lines.specs.Text.{log_text}
use Rattle.lines.proofs.Putting.{line_unwritten, line_written}
use Rattle.lines.proofs.Text.put_log.Goals as goal

pub returns-in_default : goal.returns-in_default
unfolding log_text
returns-in_default c = line_unwritten _ _ _ (omega (arith, c.in_default.ensures))

pub returns-in_default-2 : goal.returns-in_default-2
unfolding log_text
returns-in_default-2 c = line_unwritten _ _ _ (omega (arith, c.in_default.ensures))

pub returns : goal.returns
unfolding log_text
returns c = line_written c.put.ensures c.put_entries.ensures c.put-2.ensures
