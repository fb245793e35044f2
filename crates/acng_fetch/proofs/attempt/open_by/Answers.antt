use Rattle.std.proofs.Common.{◌+◌, arith}
use Rattle.acng_fetch.proofs.attempt.open_by.Goals as goal

pub returns-in-Follows-clause-stands : goal.returns-in-Follows-clause-stands
returns-in-Follows-clause-stands g c =
    let a = c.args in
    c.redirected.ensures.stands a.order.now (g.B.Grows.stock a.loader.now.body).first (a.attempt + 1) a.loader.now.plan
    (g.B.Grows.full a.loader.now.body) c.requires.later (omega arith) c.requires.opening c.requires.full
