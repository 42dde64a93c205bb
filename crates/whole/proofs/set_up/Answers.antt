-- `set_up` refuses a number, then a short buffer; past both it writes a fresh image.
-- Assumes nothing.
use Rattle.std.proofs.Common.{◌≤◌, ◌<◌, ◌⊎◌, rules, arith}
use Rattle.whole.proofs.Fresh.{no_number, no_room, sets_up}
use Rattle.image.proofs.Refusals.{outside}
use Rattle.whole.proofs.set_up.Goals as goal

pub returns-then-not-contains : goal.returns-then-not-contains
returns-then-not-contains c =
    let o : (c.args.n < 1) ⊎ (64 < c.args.n) = search rules in
    no_number _ _ (outside _ _ _ o)

pub returns-then-image-n : goal.returns-then-image-n
returns-then-image-n c =
    let least : 1 ≤ c.args.n = search rules in
    let most : c.args.n ≤ 64 = search rules in
    no_room _ _ least most (omega arith)

pub returns : goal.returns
returns c =
    let least : 1 ≤ c.args.n = search rules in
    let most : c.args.n ≤ 64 = search rules in
    sets_up _ _ least most c.if-image-n.false c.put_fresh.ensures
