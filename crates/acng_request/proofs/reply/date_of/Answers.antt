-- the date's text, from `httpdate`
use Rattle.acng_request.proofs.reply.date_of.Goals as goal

pub returns : goal.returns
returns c = rw c.in-Some.is (c.in-Ok.date, c.in-Ok.ensures.value, c.to_bytes.ensures)
