-- `put_entries` puts entry after entry. The invariant: the text of those passed is put.
-- Assumes nothing.
use mathlib.Core.Path.{refl}
use native.Mathlib.Omega.{arith}
use Rattle.lines.proofs.Entries.{entries_more}
use Rattle.lines.proofs.Putting.{put_then}
use Rattle.lines.proofs.Text.put_entries.Goals as goal

pub loop-x-preserved : goal.loop-x-preserved
loop-x-preserved c = put_then c.loop-x.invariant (put_then c.put.ensures c.put_decimal.ensures refl) (entries_more _ _ (omega arith))
