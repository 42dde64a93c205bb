-- `sound_many` makes the records' lanes one after the other: all so far, and one more.
use Rattle.std.proofs.Common.{◌≡◌, length, take}
use Rattle.std.specs.List.{list_all}
use Rattle.stage.specs.Calls.{within}
use Rattle.soundness.specs.Parts.{record_right}
use Rattle.soundness.proofs.sound_many.Given as goal

abbrev pub invariant-loop-record : goal.invariant-loop-record
invariant-loop-record l =
    (length l.off ≡ 16) × (list_all (within 0 0) l.off ≡ list_all (record_right l.n) (take l.record-index l.records))
