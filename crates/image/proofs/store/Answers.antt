-- What `store` leaves is the image of the table after the step, with an admission and without one.
-- Assumes nothing.
use mathlib.Core.Path.{◌∙◌, ap, sym}
use native.Mathlib.Omega.{arith}
use Rattle.std.specs.Prelude.{is_some}
use Rattle.image.proofs.Events.{admits_is, is_admitted, room_for}
use Rattle.image.proofs.Stored.{kept_put, admitted_put}
use Rattle.image.proofs.store.Goals as goal

pub admit-requires : goal.admit-requires
admit-requires c =
    let put = c.put_parts in
    omega (arith, put.auto.image, c.requires.looks, room_for _ _ c.args.m.frame.held (sym c.in-Some.ensures) c.requires.room)

pub returns-in-Some : goal.returns-in-Some
returns-in-Some c =
    let some = sym c.in-Some.ensures in
    admitted_put _ _ _ c.requires.looks (λ i. (c.slice_known-1.given i).fits) _ c.put_parts.ensures c.admit.ensures (is_admitted _ _ some) (room_for _ _ _ some c.requires.room)

pub returns-in_default : goal.returns-in_default
returns-in_default c =
    kept_put _ _ _ c.requires.looks (λ i. (c.slice_known-1.given i).fits) c.put_parts.ensures (admits_is _ ∙ ap is_some (sym c.in_default.ensures))
