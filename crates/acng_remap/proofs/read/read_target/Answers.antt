use Rattle.acng_remap.proofs.Origins.{given_origin}
use Rattle.acng_remap.proofs.read.read_target.Goals as goal

pub returns-in-None-clause-origins : goal.returns-in-None-clause-origins
returns-in-None-clause-origins c = given_origin c.args.conf.now.groups c.args.target.now c.read_form.result c.read_form.ensures
