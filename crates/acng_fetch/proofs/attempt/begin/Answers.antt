use Rattle.std.proofs.Common.{ap, refl}
use Rattle.acng_grow.specs.Effects.{Start, started}
use Rattle.acng_grow.specs.Download.{flows}
use Rattle.acng_fetch.specs.Events.{left_of}
use Rattle.acng_fetch.proofs.Bodies.{flows_at, turns_at, turns_led}
use Rattle.acng_fetch.proofs.attempt.begin.Goals as goal

pub flow-requires-clause-allowed : goal.flow-requires-clause-allowed
flow-requires-clause-allowed g c = λ h.
    let a = c.args in
    let l = c.start.new.self in
    let left = left_of g.C.Conn a.exchange.now in
    flows_at g.B.Site.Site (g.B.Grows.stock a.loader.now.body).path (g.B.Grows.stock l.body).path a.order.now a.attempt
    (started a.attempt a.url a.facts) l.plan left.body left.outcome (ap (λ k. k.path) c.in_ok-start.ensures.stock)
    c.in_ok-start.ensures.plan (c.requires.allowed h).1

pub returns-clause-turns : goal.returns-clause-turns
returns-clause-turns g c = λ h.
    let a = c.args in
    let number = g.B.Slip.OriginSlip.number in
    let call = g.B.File.Slip.KeeperSlip.number in
    let left = left_of g.C.Conn a.exchange.now in
    let p = started a.attempt a.url a.facts in
    let q = c.start.new.self.plan in
    let t = flows a.attempt a.url a.facts 0 left.body left.outcome in
    turns_led number call a.order.now (Start a.attempt a.url a.facts) a.loader.now.plan p t c.flow.new.loader.plan
    c.in_ok-turned.turned refl
    (turns_at number call a.order.now a.attempt left.body left.outcome p q c.flow.new.loader.plan c.in_ok-turned.turned
    c.in_ok-start.ensures.plan (c.in_ok-turned.ensures.turns h))
