use Rattle.std.proofs.Common.{rules}
use Rattle.percent_encoding.specs.Percent.{percent_decode}
use Rattle.acng_conf.proofs.Plain.{plain_from_front}
use Rattle.acng_conf.proofs.place.push_plain.Goals as goal

pub loop-b-init : goal.loop-b-init
loop-b-init c =
    let whole = plain_from_front (percent_decode c.args.path.now) in
    search rules
