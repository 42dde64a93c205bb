-- `put_records` copies one fresh record a turn: after k turns the first k are there.
-- Assumes nothing.
use Rattle.std.proofs.Common.{sym, ◌∙◌, ap, length, arith}
use Rattle.std.proofs.lemmas.Slice.{put_mid-paste}
use Rattle.stage.specs.Table.{idle, untouched}
use Rattle.layout.proofs.Changes.{length_record}
use Rattle.whole.proofs.Fresh.{record_more}
use Rattle.whole.proofs.put_records.Goals as goal

pub loop-k-preserved : goal.loop-k-preserved
loop-k-preserved c =
    let start = c.args in
    let so_far = c.loop-k in
    let fresh = c.fresh_record-fresh.ensures in
    record_more start.image.now start.first start.n so_far.k (omega arith) fresh so_far.invariant
    (put_mid-paste _ _ _ _ _ 16 c.copy_from_slice.ensures.after (omega arith) (sym (ap length fresh ∙ length_record idle untouched)))
