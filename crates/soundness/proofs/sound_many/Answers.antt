-- `sound_many` looks up one of the five rows.
-- Assumes nothing.
use Rattle.soundness.proofs.Tables.{row_below}
use Rattle.soundness.proofs.sound_many.Goals as goal

pub bounds-row : goal.bounds-row
bounds-row c = row_below _ _ _ c.from.ensures c.from-row.ensures

pub bounds-greatest-row : goal.bounds-greatest-row
bounds-greatest-row c = row_below _ _ _ c.from.ensures c.from-row.ensures
