use Rattle.acng_serve.proofs.Expiring.{ended_leaves, idle_by, line_ended}
use Rattle.acng_serve.proofs.answer.answer_run.Goals as goal

pub returns-in-Ok-clause-idle : goal.returns-in-Ok-clause-idle
returns-in-Ok-clause-idle g c =
    let tells = g.K.Keeper.tells in
    let old = c.args.desk.now in
    let new = c.expire_and_show.new.desk in
    let ran = c.in-Ok.ensures.ran in
    idle_by old.plain new.plain (ended_leaves tells c.args.now old new (line_ended tells c.args.now old new ran.line ran.ran)) c.requires.idle

pub returns-in-Err-clause-idle : goal.returns-in-Err-clause-idle
returns-in-Err-clause-idle g c =
    let old = c.args.desk.now in
    let new = c.expire_and_show.new.desk in
    idle_by old.plain new.plain (ended_leaves g.K.Keeper.tells c.args.now old new c.in-Err.ensures.ended) c.requires.idle
