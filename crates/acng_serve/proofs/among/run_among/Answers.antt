use Rattle.acng_serve.proofs.Visiting.{some_run}
use Rattle.acng_serve.proofs.among.run_among.Goals as goal

pub returns : goal.returns
returns g c =
    some_run c.expire_and_show.result g.K.Keeper.tells c.args.now c.deref_mut.result.now c.expire_and_show.new.desk
    c.expire_and_show.ensures.ran
