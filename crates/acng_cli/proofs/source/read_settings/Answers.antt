use Rattle.std.proofs.Common.{◌∙◌, ap}
use Rattle.acng_conf.specs.Readings.{reading}
use Rattle.acng_cli.proofs.Enough.{enough}
use Rattle.acng_cli.proofs.source.read_settings.Goals as goal

pub returns-in-Ok-clause-read : goal.returns-in-Ok-clause-read
returns-in-Ok-clause-read g c =
    enough (g.I.Source.left c.args.source.now) (g.I.Source.left c.read_all.new.source) c.in_ok-text.text.items c.args.lists.now c.in-Ok.read
    c.in_ok-text.ensures.consumed c.in_ok-text.ensures.enough
    (c.in-Ok.ensures ∙ ap (λ t. reading t c.args.lists.now) c.as_slice.ensures.value)
