-- the line stands on this status
use Rattle.std.proofs.lemmas.Bool.{ne_eqb}
use Rattle.acng_request.proofs.reply.put_type.Goals as goal

pub returns-clause-text : goal.returns-clause-text
returns-clause-text c = rw (ne_eqb c.args.status 304 c.if-status-eq304.false) c.put_kind.ensures.text
