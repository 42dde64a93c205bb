-- `first_able` has passed nobody who can step.
use Rattle.std.proofs.Common.{◌≡◌, ◌-◌}
use Rattle.image.specs.Inside.{first_able}
use Rattle.image.proofs.first_able.Given as goal

abbrev pub invariant-loop-q : goal.invariant-loop-q
invariant-loop-q l = first_able l.image l.p (l.end - l.p) ≡ first_able l.image l.q (l.end - l.q)
