-- `begin_release_of` refuses a stage; past it, it stores the private part begun.
-- Assumes nothing.
use Rattle.image.proofs.Named.{not_inside, releases}
use Rattle.image.proofs.Stored.{release_begun}
use Rattle.image.proofs.begin_release_of.Goals as goal

pub returns-then-stage-ne-INSIDE : goal.returns-then-stage-ne-INSIDE
returns-then-stage-ne-INSIDE c = not_inside _ _ c.requires c.if-stage-ne-INSIDE.true

pub returns : goal.returns
returns c =
    let known = c.slice_known-1 in
    releases _ _ c.requires c.if-stage-ne-INSIDE.false
    (release_begun _ _ c.requires (λ i. (known.given i).fits) _ c.begun_release.ensures c.put_private.ensures)
