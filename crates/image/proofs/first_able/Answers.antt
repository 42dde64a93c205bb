-- `first_able` has passed nobody who can step.
-- Assumes nothing.
use mathlib.Core.Path.{sym, ◌∙◌, ap}
use mathlib.Core.Bool.{not}
use native.Mathlib.Omega.{arith}
use Rattle.image.proofs.Turns.{none_left, passes, skips, rests_at}
use Rattle.image.proofs.first_able.Goals as goal

pub returns-then-not-rests : goal.returns-then-not-rests
returns-then-not-rests c =
    sym (c.loop-q.invariant
    ∙ passes _ _ _ c.loop-q-test.true
    (ap not (rests_at _ _ _ _ c.requires.framed (omega arith) (omega arith) c.place-at.ensures ∙ sym c.rests.ensures ∙ c.if-not-rests.true)))

pub loop-q-preserved : goal.loop-q-preserved
loop-q-preserved c =
    c.loop-q.invariant
    ∙ skips _ _ _ c.loop-q-test.true
    (ap not (rests_at _ _ _ _ c.requires.framed (omega arith) (omega arith) c.place-at.ensures ∙ sym c.rests.ensures ∙ c.if-not-rests.false))

pub returns : goal.returns
returns c = sym (c.loop-q.invariant ∙ none_left _ _ _ c.loop-q-test.false)
