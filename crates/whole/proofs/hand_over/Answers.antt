-- The entries that `hand_over` copies are the log of the table, and what was behind them in the buffer stays.
-- Assumes nothing.
use Rattle.std.proofs.Common.{◌∙◌, sym, arith}
use Rattle.std.proofs.Math.Seq.{length-take-le}
use Rattle.whole.proofs.Taken.{few, handed}
use Rattle.whole.proofs.hand_over.Goals as goal

pub slice_bounds-entries-end : goal.slice_bounds-entries-end
slice_bounds-entries-end c =
    let within = few _ c.requires.0 _ c.requires.1 in
    omega arith

pub slice_bounds-copy_from_slice-end-3 : goal.slice_bounds-copy_from_slice-end-3
slice_bounds-copy_from_slice-end-3 c =
    let within = few _ c.requires.0 _ c.requires.1 in
    sym (length-take-le _ _ (omega arith))

pub copy_from_slice-requires : goal.copy_from_slice-requires
copy_from_slice-requires c =
    let within = few _ c.requires.0 _ c.requires.1 in
    length-take-le _ _ (omega arith) ∙ sym (length-take-le _ _ (omega arith))

pub returns : goal.returns
returns c = handed _ c.requires.0 _ (c.from-held.ensures ∙ c.requires.1) _ c.log_bytes-entries.ensures c.copy_from_slice.ensures.after
