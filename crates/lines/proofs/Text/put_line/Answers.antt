-- `put_line` puts the parts of a line where they have room.
-- Assumes nothing.
use native.Mathlib.Omega.{arith}
use Rattle.lines.proofs.Putting.{line_unwritten, line_written}
use Rattle.lines.proofs.Text.put_line.Goals as goal

pub returns-then-room-word : goal.returns-then-room-word
returns-then-room-word c = line_unwritten _ _ _ (omega arith)

pub returns : goal.returns
returns c = line_written c.put.ensures c.put_decimal.ensures c.put-2.ensures
