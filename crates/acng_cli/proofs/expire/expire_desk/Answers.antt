use Rattle.std.proofs.Common.{sym, subst}
use Rattle.acng_cli.specs.declared.opening.Maint.{Maint}
use Rattle.acng_cli.specs.Expire.{Around, ExpiresOver}
use Rattle.acng_cli.proofs.Expires.{expired_idle, store_left}
use Rattle.acng_cli.proofs.expire.expire_desk.Goals as goal

pub into_keeper-requires : goal.into_keeper-requires
into_keeper-requires g c =
    record { idle = expired_idle _ _ _ c.args.desk c.expire-run.new.desk c.expire-run.result c.expire-run.ensures c.requires.idle }

pub returns-clause-over : goal.returns-clause-over
returns-clause-over g c =
    let k = g.K.Keeper in
    let old : Around g.row.W.Denot = record { out = c.args.out.now; coming = g.C.Clock.coming c.args.clock.now } in
    let new : Around g.row.W.Denot =
    record { out = c.print_run-status.new.out; coming = g.C.Clock.coming c.now-now.new.self } in
    subst
    (λ (e : Maint g.row.K.Denot g.row.K-Body-Slip.Denot).
    ExpiresOver k.tells g.W.Sink (λ k. record { kept = g.K.Keeper.kept k; next_id = g.K.Keeper.next k; faults = g.K.Keeper.faults k })
    c.args.desk old new e)
    (sym c.ended.ensures)
    (record {
      now = c.now-now.result.0;
      tick = c.now-now.ensures;
      ended = c.expire-run.result;
      left = c.expire-run.new.desk;
      run = c.expire-run.ensures;
      printed = c.print_run-status.ensures;
      slip = c.slip_of.ensures;
      keeper = store_left _ _ _ c.expire-run.new.desk c.into_keeper.ensures.kept c.into_keeper.ensures.next c.into_keeper.ensures.faults;
    })
