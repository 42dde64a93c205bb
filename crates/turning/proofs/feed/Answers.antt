-- `feed` puts an answer of at most six bytes.
-- Assumes nothing.
use Rattle.turning.proofs.Feeding.{reply_near}
use Rattle.turning.proofs.feed.Goals as goal

pub returns-then-x-eq10-clause-at_bound : goal.returns-then-x-eq10-clause-at_bound
returns-then-x-eq10-clause-at_bound c = reply_near _ c.put_reply.ensures c.requires
