use Rattle.std.proofs.Common.{subst, sym}
use Rattle.acng_cli.specs.Opens.{Store, IsEnded}
use Rattle.acng_cli.proofs.Starts.{ready, ended_start}
use Rattle.acng_cli.proofs.opening.start_desk.Goals as goal

pub returns-in-Ok : goal.returns-in-Ok
returns-in-Ok g c = record {
  opened = λ given before after same next says.
      ready g.K.Keeper.tells given _ same c.args.conf says c.args.words c.in-Ok.desk c.args.right.next next c.in-Ok.ensures.started;
}

pub returns-in-Err : goal.returns-in-Err
returns-in-Err g c = record {
  opened = λ given before after same next says.
      subst
      (λ e. IsEnded g.S.Site g.K.Keeper.tells (λ k. record { kept = g.K.Keeper.kept k; next_id = g.K.Keeper.next k; faults = g.K.Keeper.faults k })
      given before after e)
      (sym c.stopped.ensures)
      (ended_start g.S.Site g.K.Keeper.tells (λ k. record { kept = g.K.Keeper.kept k; next_id = g.K.Keeper.next k; faults = g.K.Keeper.faults k })
      given before after _ same c.args.conf says c.in-Err.fault c.in-Err.ensures.cause c.in-Err.ensures.later c.in-Err.ensures.still);
}
