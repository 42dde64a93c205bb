-- `begin_release` refuses what `find` refuses, and is `begin_release_of` for the module found.
-- Assumes nothing.
use Rattle.std.proofs.Common.{rules}
use Rattle.image.proofs.Named.{release_refused}
use Rattle.image.proofs.Refusals.{not_found}
use Rattle.image.proofs.begin_release.Goals as goal

pub returns-in_err-number : goal.returns-in_err-number
returns-in_err-number c = not_found _ _ _ _ (release_refused _ _) _ c.in_err-number.ensures (search rules)
