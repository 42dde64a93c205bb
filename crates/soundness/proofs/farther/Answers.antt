-- `farther` makes one record's 16 lanes: all so far, and one more.
-- Assumes nothing.
use Prim.Native.Nat.{max}
use mathlib.Core.Path.{◌≡◌, refl, ◌∙◌, ap, ap₂}
use native.Mathlib.Omega.{arith}
use lib.ListN.{length-set}
use Rattle.soundness.specs.Parts.{lanes_right}
use Rattle.soundness.proofs.Lanes.{lanes_more}
use Rattle.soundness.proofs.farther.Goals as goal

pub loop-k-preserved : goal.loop-k-preserved
loop-k-preserved c = (
  simp length-set (omega arith),
  lanes_more _ c.loop-k.off c.args.off _ _ _ _ _ c.loop-k.invariant.1 (omega arith) refl
      (c.max-in-loop-k.ensures ∙ ap₂ max (c.max.ensures ∙ ap (max _) c.saturating_sub.ensures) c.saturating_sub-in-loop-k.ensures),
)

pub returns-clause-lanes : goal.returns-clause-lanes
unfolding lanes_right
returns-clause-lanes c = let e : c.loop-k.k ≡ 16 = omega arith in rw e at c.loop-k.invariant.1
