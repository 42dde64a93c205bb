-- `farther` makes one record's 16 lanes: all so far, and one more.
use Rattle.std.proofs.Common.{◌≡◌, ◌&&◌, length, get_or}
use Rattle.std.specs.List.{list_all}
use Rattle.stage.specs.Calls.{within}
use Rattle.soundness.specs.Parts.{below}
use Rattle.soundness.proofs.farther.Given as goal

abbrev pub invariant-loop-k : goal.invariant-loop-k
invariant-loop-k l =
    (length l.off ≡ 16)
    × (list_all (within 0 0) l.off ≡ (list_all (within 0 0) l.initial.off && below l.k (λ j. within (get_or l.least j 0) (get_or l.greatest j 0) (get_or l.bytes j 0))))
