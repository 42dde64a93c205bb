-- `begin_acquisition_of` refuses a priority, then a stage; past both it stores the two parts begun.
-- Assumes nothing.
use Rattle.std.proofs.Common.{◌<◌, ◌≤◌, ◌⊎◌, rules}
use Rattle.image.proofs.Named.{no_priority, not_idle, acquires}
use Rattle.image.proofs.Refusals.{outside}
use Rattle.image.proofs.Stored.{acquisition_begun}
use Rattle.image.proofs.begin_acquisition_of.Goals as goal

pub returns-then-not-contains : goal.returns-then-not-contains
returns-then-not-contains c =
    let o : (c.args.priority < 1) ⊎ (254 < c.args.priority) = search rules in
    no_priority _ _ c.requires _ (outside _ _ _ o)

pub returns-then-stage-ne0 : goal.returns-then-stage-ne0
returns-then-stage-ne0 c =
    let least : 1 ≤ c.args.priority = search rules in
    let most : c.args.priority ≤ 254 = search rules in
    not_idle _ _ c.requires _ least most c.if-stage-ne0.true

pub returns : goal.returns
returns c =
    let least : 1 ≤ c.args.priority = search rules in
    let most : c.args.priority ≤ 254 = search rules in
    acquires _ _ c.requires _ least most c.if-stage-ne0.false
    (acquisition_begun _ _ c.requires (λ i. (c.slice_known-1.given i).fits) _ _ _ _ c.begun_acquisition.ensures c.shared_at-its.ensures c.with_priority.ensures
    c.put_private.ensures c.put_shared.ensures)
