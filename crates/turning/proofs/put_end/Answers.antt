-- `put_end` puts the line of the lock word, and that of the log after it.
-- Assumes nothing.
use native.Mathlib.Omega.{arith}
use Rattle.lines.proofs.Texts.{lock_short}
use Rattle.lines.proofs.Putting.{room_left}
use Rattle.turning.proofs.Ending.{end_put}
use Rattle.turning.proofs.put_end.Goals as goal

pub put_held-requires : goal.put_held-requires
put_held-requires c = room_left 9 1028 (lock_short _) c.requires c.put_lock.ensures

pub returns : goal.returns
returns c = end_put _ c.lock_word.ensures (omega arith) c.put_lock.ensures c.put_held.ensures
