-- `module_of` reads the private part at the place of the module's record.
-- Assumes nothing.
use mathlib.Core.Path.{refl}
use native.Mathlib.Omega.{arith}
use Rattle.image.proofs.Modules.{is_module}
use Rattle.image.proofs.module_of.Goals as goal

pub returns : goal.returns
returns c =
    (is_module _ _ _ _ _ c.frame_of-frame.ensures (omega arith) (omega arith) c.place-at.ensures c.private_at.ensures, refl)
