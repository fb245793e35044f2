use Rattle.std.proofs.Common.{refl, subst, inl, inr}
use Rattle.acng_cli.specs.Tasks.{WorksOn}
use Rattle.acng_cli.proofs.Tasks.{none_still}
use Rattle.acng_cli.proofs.task.run_task.Goals as goal

pub work_on-requires : goal.work_on-requires
work_on-requires g c = record { idle = c.in-Ready.ensures.opened.0.started.idle }

pub returns-in-Ready-clause-ran : goal.returns-in-Ready-clause-ran
returns-in-Ready-clause-ran g c =
    let opened = c.in-Ready.ensures.opened in
    inl (record {
      words = c.in-Ready.words;
      conf = c.in-Ready.conf;
      desk = c.in-Ready.desk;
      ready = opened.0;
      works = subst
          (λ o. WorksOn g.S.Site g.K.Keeper.tells g.W.Sink g.F.Finder
          (λ k. record { kept = g.K.Keeper.kept k; next_id = g.K.Keeper.next k; faults = g.K.Keeper.faults k }) c.args.task c.in-Ready.desk
          (record { out = o; coming = g.C.Clock.coming c.args.clock.now; found = c.args.finder.now })
          (record { out = c.work_on.new.out; coming = g.C.Clock.coming c.work_on.new.clock; found = c.work_on.new.finder })
          c.work_on.result)
          opened.1 c.work_on.ensures.works;
    })

pub returns-in-Ended-clause-ran : goal.returns-in-Ended-clause-ran
returns-in-Ended-clause-ran g c = inr (record { opens = c.in-Ended.ensures.opened; coming = refl; found = refl })

pub returns-in-Ended-clause-still : goal.returns-in-Ended-clause-still
returns-in-Ended-clause-still g c =
    none_still g.S.Site g.K.Keeper.tells g.W.Sink
    (λ k. record { kept = g.K.Keeper.kept k; next_id = g.K.Keeper.next k; faults = g.K.Keeper.faults k }) _
    (g.I.Source.faults c.args.conf.now) (g.I.Source.faults c.open_saying.new.conf) c.args.keeper c.args.out.now c.open_saying.new.out
    c.in-Ended.ended c.in-Ended.ensures.opened c.requires.faithful
