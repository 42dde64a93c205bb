-- `all_within` asks all bytes so far, and one more.
use Rattle.std.proofs.Common.{◌≡◌, take}
use Rattle.std.specs.List.{list_all}
use Rattle.stage.specs.Calls.{within}
use Rattle.soundness.proofs.all_within.Given as goal

abbrev pub invariant-loop-x : goal.invariant-loop-x
invariant-loop-x l = l.ok ≡ list_all (within l.low l.high) (take l.x-index l.part)
