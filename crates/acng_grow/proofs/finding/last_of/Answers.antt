use Rattle.std.proofs.Common.{rules}
use Rattle.acng_grow.proofs.Looked.{agreed}
use Rattle.acng_grow.proofs.finding.last_of.Goals as goal

pub returns-clause-path : goal.returns-clause-path
returns-clause-path g c = (agreed c.args.asked.now c.args.body.now (search rules)).0
