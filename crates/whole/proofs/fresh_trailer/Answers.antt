-- The array of `fresh_trailer` is the trailer of a fresh table.
-- Assumes nothing.
use Rattle.std.proofs.Common.{◌∙◌, arith}
use Rattle.whole.proofs.Fresh.{trailer_is}
use Rattle.whole.proofs.fresh_trailer.Goals as goal

pub returns : goal.returns
returns c =
    trailer_is _ _ c.requires (c.copy_from_slice.ensures.after ∙ c.to_be_bytes.ensures) (omega arith)
    (c.copy_from_slice-2.ensures.after ∙ c.to_be_bytes-2.ensures)
