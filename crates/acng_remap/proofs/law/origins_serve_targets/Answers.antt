use Rattle.acng_remap.proofs.Serving.{serves_targets}
use Rattle.acng_remap.proofs.law.origins_serve_targets.Goals as goal

pub returns : goal.returns
returns c = serves_targets c.args.conf.now c.groups-groups.ensures.names
