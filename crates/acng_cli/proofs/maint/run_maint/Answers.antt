use Rattle.std.proofs.Common.{◌∙◌, sym, ap}
use Rattle.acng_cli.specs.Maint.{asks_conf}
use Rattle.acng_cli.proofs.Tasks.{lacks, by_read}
use Rattle.acng_cli.proofs.maint.run_maint.Goals as goal

pub returns-in-Ok-clause-ran : goal.returns-in-Ok-clause-ran
returns-in-Ok-clause-ran g c = by_read _ _ _ _ _ _ _ _ _ _ _ _ _ _ _ (sym c.in-Ok.ensures.read) c.run_by.ensures.ran

pub returns-in-Ok-clause-unread : goal.returns-in-Ok-clause-unread
returns-in-Ok-clause-unread g c = λ none. c.run_by.ensures.unread (ap asks_conf (sym c.in-Ok.ensures.read) ∙ none)

pub returns-in-Err-NoMemory-clause-ran : goal.returns-in-Err-NoMemory-clause-ran
returns-in-Err-NoMemory-clause-ran g c =
    lacks g.S.Site _ g.K.Keeper.tells g.W.Sink g.F.Finder
    (λ k. record { kept = g.K.Keeper.kept k; next_id = g.K.Keeper.next k; faults = g.K.Keeper.faults k }) _
    (g.I.Source.faults c.args.conf.now) c.args.keeper
    (record { out = c.args.out.now; coming = g.C.Clock.coming c.args.clock.now; found = c.args.finder.now })
    _ c.ended.result c.ended.ensures
