-- the word follows from the mark
use Rattle.acng_request.proofs.reply.put_connection.Goals as goal

pub returns-then-close-clause-text : goal.returns-then-close-clause-text
returns-then-close-clause-text c = rw c.if-close.true c.put.ensures.text

pub returns-else-close-clause-text : goal.returns-else-close-clause-text
returns-else-close-clause-text c = rw c.if-close.false c.put-else-close.ensures.text
