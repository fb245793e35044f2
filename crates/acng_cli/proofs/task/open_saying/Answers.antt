use Rattle.std.proofs.Common.{◌≡◌, Result, Ok, IfSome, refl, subst}
use Rattle.acng_conf.specs.Readings.{reading}
use Rattle.acng_conf.specs.Settings.{Settings}
use Rattle.acng_conf.specs.declared.fault.ConfFault.{ConfFault}
use Rattle.acng_cli.proofs.Starts.{says_so}
use Rattle.acng_cli.proofs.Tasks.{opens}
use Rattle.acng_cli.proofs.task.open_saying.Goals as goal

pub returns-in-Ok-Ok-clause-opened : goal.returns-in-Ok-Ok-clause-opened
returns-in-Ok-Ok-clause-opened g c =
    let text = g.I.Source.left c.args.conf.now in
    let lists = c.args.lists.now in
    let before = g.I.Source.faults c.args.conf.now in
    let after = g.I.Source.faults c.read_settings.new.source in
    let read : Result Settings ConfFault = Ok c.in-Ok-Ok.conf in
    let says = says_so text lists read
    (subst (λ (r : Result Settings ConfFault). IfSome text (λ t. r ≡ reading t lists)) c.in-Ok-Ok.field-0-is c.in-Ok-Ok.ensures.read) in
    opens g.S.Site g.K.Keeper.tells g.W.Sink
    (λ k. record { kept = g.K.Keeper.kept k; next_id = g.K.Keeper.next k; faults = g.K.Keeper.faults k }) _ before after c.args.keeper
    c.args.words c.args.out.now c.start_desk.result c.in-Ok-Ok.conf says (c.start_desk.ensures.opened _ before after refl refl says)
