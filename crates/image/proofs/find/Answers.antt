-- `find` refuses an unsound image, then a number that is no module's; past both it has a module's number.
-- Assumes nothing.
use Rattle.std.proofs.Common.{◌<◌, ◌⊎◌, inl, inr, rules, arith}
use Rattle.laws.proofs.Said.{said}
use Rattle.image.proofs.Refusals.{outside, no_module}
use Rattle.image.proofs.find.Goals as goal

pub returns-then-not-contains : goal.returns-then-not-contains
returns-then-not-contains c =
    let o : (c.args.p < 1) ⊎ (c.from.result < c.args.p) = search rules in
    let n = c.frame_of-n.ensures.n_is in
    no_module _ _ _ (search said) (outside _ _ _ (elim o [ inl low ↦ inl low | inr high ↦ inr (omega (arith, n, c.from.ensures, high)) ]))
