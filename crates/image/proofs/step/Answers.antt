-- `step` refuses what `find` refuses, and is `step_of` for the module found.
-- Assumes nothing.
use Rattle.std.proofs.Common.{rules}
use Rattle.image.proofs.Named.{step_refused}
use Rattle.image.proofs.Refusals.{not_found}
use Rattle.image.proofs.step.Goals as goal

pub returns-in_err-number : goal.returns-in_err-number
returns-in_err-number c = not_found _ _ _ _ (step_refused _ _) _ c.in_err-number.ensures (search rules)
