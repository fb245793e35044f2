use Rattle.std.proofs.Common.{◌≡◌, Result, Ok, Err, IfSome, subst, inl}
use Rattle.acng_conf.specs.Readings.{reading}
use Rattle.acng_conf.specs.Settings.{Settings}
use Rattle.acng_conf.specs.declared.fault.ConfFault.{ConfFault}
use Rattle.acng_cli.proofs.Starts.{says_so}
use Rattle.acng_cli.proofs.maint.check_conf.Goals as goal

pub returns-in-Ok-Ok-clause-ran : goal.returns-in-Ok-Ok-clause-ran
returns-in-Ok-Ok-clause-ran g c =
    let text = g.I.Source.left c.args.conf.now in
    let lists = c.args.lists.now in
    let read : Result Settings ConfFault = Ok c.in-Ok-Ok.conf in
    inl (record {
      read = read;
      says = says_so text lists read
          (subst (λ (r : Result Settings ConfFault). IfSome text (λ t. r ≡ reading t lists)) c.in-Ok-Ok.field-0-is c.in-Ok-Ok.ensures.read);
      printed = c.print_accepted.ensures;
    })

pub returns-in-Ok-Err-clause-ran : goal.returns-in-Ok-Err-clause-ran
returns-in-Ok-Err-clause-ran g c =
    let text = g.I.Source.left c.args.conf.now in
    let lists = c.args.lists.now in
    let read : Result Settings ConfFault = Err c.in-Ok-Err.fault in
    inl (record {
      read = read;
      says = says_so text lists read
          (subst (λ (r : Result Settings ConfFault). IfSome text (λ t. r ≡ reading t lists)) c.in-Ok-Err.field-0-is c.in-Ok-Err.ensures.read);
      printed = c.print_refusal.ensures;
    })
