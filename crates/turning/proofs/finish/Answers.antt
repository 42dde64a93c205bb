-- `finish` answers a line that has begun, and puts the end.
-- Assumes nothing.
use native.Mathlib.Omega.{arith}
use borrow.Author.Rules.{rules}
use Rattle.lines.proofs.Texts.{reply_short}
use Rattle.lines.proofs.Putting.{room_left}
use Rattle.turning.proofs.Ending.{finish_none, finish_line, put_left}
use Rattle.turning.proofs.finish.Goals as goal
use Rattle.turning.proofs.finish.Goals.{then-not-is_empty, else-not-is_empty}

pub put_end-requires : goal.put_end-requires
put_end-requires c =
    elim c.if-not-is_empty.branch [
      | then-not-is_empty w ↦ rw w.text-is (room_left 6 1037 (reply_short _) c.requires w.put_reply.ensures)
      | else-not-is_empty w ↦ rw w.text-is (grind arith)
    ]

pub returns : goal.returns
returns c =
    put_left {out' = c.put_end.new.text.buffer.now} (search rules)
    (rw (← c.line-line.ensures)
    (elim c.if-not-is_empty.branch [
      | then-not-is_empty w ↦
          finish_line _ _ (grind arith) w.turn.ensures (omega (arith, c.requires)) w.put_reply.ensures
          (rw (w.image-is, w.text-is) at c.put_end.ensures)
      | else-not-is_empty w ↦
          finish_none _ _ (grind arith)
          (rw (w.image-is, w.text-is) at c.put_end.ensures)
    ]))
