-- `put_held` takes the log, which has room in 256 bytes, and puts the line of as many entries as were taken.
-- Assumes nothing.
use mathlib.Core.Path.{◌≡◌}
use native.Mathlib.Omega.{arith}
use lib.ListN.{take}
use Rattle.lines.proofs.Entries.{log_short}
use Rattle.lines.proofs.Putting.{writes_put}
use Rattle.turning.specs.Program.{held_log}
use Rattle.turning.proofs.Ending.{held_short, helds}
use Rattle.turning.proofs.put_held.Goals as goal

pub returns : goal.returns
returns c =
    let log_is : take c.taken_of-held.result c.take_log.new.log ≡ held_log c.args.image.now = grind (arith, helds) in
    writes_put (omega (arith, log_short (held_log c.args.image.now), held_short c.args.image.now)) (rw log_is at c.put_log.ensures)
