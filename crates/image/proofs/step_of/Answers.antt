-- `step_of` refuses stages 0 and 13; stage 9 is a swap in place, and every other stage a row by value.
-- Assumes nothing.
use mathlib.Core.Path.{◌≡◌, ◌∙◌, ap, sym}
use native.Mathlib.Omega.{arith}
use Rattle.layout.specs.Layout.{byte, record_at}
use Rattle.image.proofs.Named.{no_step}
use Rattle.image.proofs.Turns.{rests_at}
use Rattle.image.proofs.step_of.Goals as goal

pub returns-then-rests : goal.returns-then-rests
returns-then-rests c =
    no_step _ _ c.requires (rests_at _ _ _ _ c.frame_of.ensures c.requires.1 (omega (arith, c.frame_of.ensures.n_is, c.requires.2)) c.place-at.ensures ∙ sym c.rests.ensures ∙ c.if-rests.true)

pub swap_of-requires : goal.swap_of-requires
swap_of-requires c = (
  c.requires,
  ap (byte c.args.image.now) (let z : record_at c.args.image.now c.args.number ≡ c.place-at.result = omega (arith, c.frame_of.ensures.first_is, c.place-at.ensures) in z) ∙ c.if-stage-eq-SWAP.true,
)

pub row_of-requires : goal.row_of-requires
row_of-requires c = (
  c.requires,
  rests_at _ _ _ _ c.frame_of.ensures c.requires.1 (omega (arith, c.frame_of.ensures.n_is, c.requires.2)) c.place-at.ensures ∙ sym c.rests.ensures ∙ c.if-rests.false,
)
