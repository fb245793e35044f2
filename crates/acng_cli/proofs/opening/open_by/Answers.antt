use Rattle.std.proofs.Common.{◌≡◌, Result, Ok, IfSome, refl, subst, ap, ◌∙◌}
use Rattle.acng_conf.specs.Readings.{reading}
use Rattle.acng_conf.specs.Settings.{Settings}
use Rattle.acng_conf.specs.declared.fault.ConfFault.{ConfFault}
use Rattle.acng_cli.proofs.Starts.{says_so}
use Rattle.acng_cli.proofs.opening.open_by.Goals as goal

pub returns-in-Ok-Ok-clause-opened : goal.returns-in-Ok-Ok-clause-opened
returns-in-Ok-Ok-clause-opened g c =
    let text = g.I.Source.left c.args.conf.now in
    let lists = c.args.lists.now in
    let read : Result Settings ConfFault = Ok c.in-Ok-Ok.conf in
    c.start_desk.ensures.opened _ (g.I.Source.faults c.args.conf.now) (g.I.Source.faults c.read_settings.new.source) refl refl
    (says_so text lists read (subst (λ (r : Result Settings ConfFault). IfSome text (λ t. r ≡ reading t lists)) c.in-Ok-Ok.field-0-is c.in-Ok-Ok.ensures.read))
