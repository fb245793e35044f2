use Rattle.std.proofs.Common.{ap}
use Rattle.acng_grow.specs.Effects.{Resume, after}
use Rattle.acng_fetch.specs.Events.{left_of}
use Rattle.acng_fetch.proofs.Bodies.{flows_at}
use Rattle.acng_fetch.proofs.attempt.resume.Goals as goal

pub flow-requires-clause-allowed : goal.flow-requires-clause-allowed
flow-requires-clause-allowed g c = λ h.
    let a = c.args in
    let l = c.resume.new.self in
    let left = left_of g.C.Conn a.exchange.now in
    flows_at g.B.Site.Site (g.B.Grows.stock a.loader.now.body).path (g.B.Grows.stock l.body).path a.order.now a.attempt
    (after a.order.now a.loader.now.plan (Resume a.attempt)) l.plan left.body left.outcome (ap (λ k. k.path) c.resume.ensures.stock)
    c.resume.ensures.plan (c.requires.allowed h).1
