-- `take_log` refuses an unsound image, then a short buffer; past both it hands the entries over and clears the log.
-- Assumes nothing.
use native.Mathlib.Omega.{arith}
use Rattle.laws.proofs.Said.{said}
use Rattle.whole.proofs.Taken.{untaken, short, takes}
use Rattle.whole.proofs.take_log.Goals as goal

pub returns-then-not-sound-clause-does : goal.returns-then-not-sound-clause-does
returns-then-not-sound-clause-does c =
    (untaken c.args.image.now c.args.log.now (search said)).0

pub returns-then-not-sound-clause-log_after : goal.returns-then-not-sound-clause-log_after
returns-then-not-sound-clause-log_after c =
    (untaken c.args.image.now c.args.log.now (search said)).1

pub returns-then-log-from-clause-does : goal.returns-then-log-from-clause-does
returns-then-log-from-clause-does c =
    (short c.args.image.now c.args.log.now (search said) _ c.held_of-held.ensures (omega (arith, c.from.ensures, c.if-log-from.true))).0

pub returns-then-log-from-clause-log_after : goal.returns-then-log-from-clause-log_after
returns-then-log-from-clause-log_after c =
    (short c.args.image.now c.args.log.now (search said) _ c.held_of-held.ensures (omega (arith, c.from.ensures, c.if-log-from.true))).1

pub returns-clause-does : goal.returns-clause-does
returns-clause-does c =
    (takes c.args.image.now c.args.log.now (search said) _ c.held_of-held.ensures _ (omega (arith, c.from.ensures, c.if-log-from.false)) c.taken.ensures
    c.clear_log.ensures c.hand_over.ensures).0

pub returns-clause-log_after : goal.returns-clause-log_after
returns-clause-log_after c =
    (takes c.args.image.now c.args.log.now (search said) _ c.held_of-held.ensures _ (omega (arith, c.from.ensures, c.if-log-from.false)) c.taken.ensures
    c.clear_log.ensures c.hand_over.ensures).1
