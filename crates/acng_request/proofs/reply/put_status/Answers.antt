-- the reasons of a file's statuses
use Rattle.std.specs.Fmt.{digits}
use Rattle.acng_request.proofs.reply.put_status.Goals as goal

pub returns-in-200-clause-text : goal.returns-in-200-clause-text
unfolding digits
returns-in-200-clause-text c = rw c.in-200.is c.put.ensures.text

pub returns-in-206-clause-text : goal.returns-in-206-clause-text
unfolding digits
returns-in-206-clause-text c = rw c.in-206.is c.put-in-206.ensures.text

pub returns-in-304-clause-text : goal.returns-in-304-clause-text
unfolding digits
returns-in-304-clause-text c = rw c.in-304.is c.put-in-304.ensures.text
