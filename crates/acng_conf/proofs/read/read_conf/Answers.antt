use Rattle.std.proofs.Common.{◌≡◌, Ok, rules}
use Rattle.acng_conf.specs.Readings.{reading}
use Rattle.acng_conf.proofs.Bounds.{bounded}
use Rattle.acng_conf.proofs.read.read_conf.Goals as goal

pub returns-in-Ok-finish-clause-bounded : goal.returns-in-Ok-finish-clause-bounded
returns-in-Ok-finish-clause-bounded c =
    let is : reading c.args.text.now c.args.lists.now ≡ Ok c.in-Ok-finish.conf = search rules in
    bounded c.args.text.now c.args.lists.now c.in-Ok-finish.conf is
