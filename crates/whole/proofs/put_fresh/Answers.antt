-- `put_fresh` writes records, log and trailer one behind the other.
-- Assumes nothing.
use Rattle.std.proofs.Common.{refl, sym, ap, length, arith}
use Rattle.std.proofs.lemmas.Slice.{put_mid-paste}
use Rattle.layout.specs.Layout.{log_of, trailer_of}
use Rattle.whole.proofs.Fresh.{fresh_put}
use Rattle.whole.proofs.put_fresh.Goals as goal

pub returns : goal.returns
unfolding log_of trailer_of
returns c =
    let trailer = c.fresh_trailer.ensures in
    fresh_put _ _ c.requires.1 (rw c.from-count.ensures at c.put_records.ensures)
    refl (put_mid-paste _ _ _ _ _ 256 c.copy_from_slice.ensures.after (omega arith) refl)
    trailer (put_mid-paste _ _ _ _ _ 12 c.copy_from_slice-2.ensures.after (omega arith) (sym (ap length trailer)))
