-- the pieces stand one after another
use Rattle.std.proofs.Common.{append_assoc}
use Rattle.acng_request.proofs.reply.put_range.Goals as goal

pub returns-clause-text : goal.returns-clause-text
returns-clause-text c =
    rw (c.put_number_line.ensures.text, c.put_number-stopped.ensures.text, c.put-dashed.ensures.text, c.put_number-begun.ensures.text, c.put-named.ensures.text)
    (simp append_assoc)
