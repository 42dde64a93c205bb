-- `swap_of` swaps the two links where they lie, and stores the stage that follows.
-- Assumes nothing.
use mathlib.Core.Path.{refl}
use native.Mathlib.Omega.{arith}
use Rattle.std.proofs.Common.{rules}
use Rattle.image.proofs.Swapping.{prev_read, step_there}
use Rattle.image.proofs.swap_of.Goals as goal

pub place-requires : goal.place-requires
place-requires c =
    let frame = c.frame_of-first.ensures in
    let known = prev_read _ _ c.requires.0 c.requires.1 (λ i. (c.type_inv.image i).fits) c.place-at.result (omega (arith, frame.first_is, c.place-at.ensures)) in
    omega (arith, frame.first_is, frame.fits, known)

pub link_in-its-requires : goal.link_in-its-requires
link_in-its-requires c =
    let frame = c.frame_of-first.ensures in
    let known = prev_read _ _ c.requires.0 c.requires.1 (λ i. (c.type_inv.image i).fits) c.place-at.result (omega (arith, frame.first_is, c.place-at.ensures)) in
    omega (arith, frame.first_is, frame.fits, known, c.place.ensures)

pub returns : goal.returns
returns c =
    let frame = c.frame_of-first.ensures in
    step_there _ _ c.requires.0 c.requires.1 (λ i. (c.slice_known-2-1.given i).fits) c.place-at.result c.place.result _ _ _ _ _
    (omega (arith, frame.first_is, c.place-at.ensures)) (omega (arith, frame.first_is, c.place.ensures)) c.link_in-its.ensures c.link_in.ensures
    c.swap-done.ensures (search rules) c.after_swap-after.ensures refl
