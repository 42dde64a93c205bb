-- `look` runs the stage table's row on the one shared part that it looks at, which is a module's.
-- Assumes nothing.
use native.Mathlib.Omega.{arith}
use Rattle.image.proofs.Modules.{sees, looks}
use Rattle.image.proofs.look.Goals as goal

pub place-at-requires : goal.place-at-requires
place-at-requires c = omega (arith, sees _ _ c.requires, c.looks_at.ensures)

pub shared_at-requires : goal.shared_at-requires
shared_at-requires c = omega (arith, sees _ _ c.requires, c.looks_at.ensures)

pub returns : goal.returns
returns c =
    looks _ _ c.requires _ _ _
    c.looks_at.ensures c.place-at.ensures (cc (c.step.ensures, c.shared_at.ensures))
