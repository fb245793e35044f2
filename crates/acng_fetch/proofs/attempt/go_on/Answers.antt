use Rattle.std.proofs.Common.{ap, subst}
use Rattle.acng_grow.specs.Effects.{GoOn, went_on}
use Rattle.acng_grow.specs.Download.{flows}
use Rattle.acng_grow.specs.Allowed.{AllAllowed}
use Rattle.acng_fetch.specs.Events.{left_of}
use Rattle.acng_fetch.proofs.Bodies.{flows_at, turns_at, turns_led, went_on_is}
use Rattle.acng_fetch.proofs.attempt.go_on.Goals as goal

pub flow-requires-clause-allowed : goal.flow-requires-clause-allowed
flow-requires-clause-allowed g c = λ h.
    let a = c.args in
    let l = c.go_on.new.self in
    let left = left_of g.C.Conn a.exchange.now in
    let path = (g.B.Grows.stock a.loader.now.body).path in
    let part = a.part.now in
    let t = flows a.attempt part.url part.facts part.size left.body left.outcome in
    let opened = subst (λ q. AllAllowed g.B.Site.Site path a.order.now q t.effects)
    (went_on_is a.order.now a.attempt part a.loader.now.plan c.requires.part) (c.requires.allowed h).1 in
    flows_at g.B.Site.Site path (g.B.Grows.stock l.body).path a.order.now a.attempt (went_on a.attempt part) l.plan left.body left.outcome
    (ap (λ k. k.path) c.in_ok-go_on.ensures.stock) c.in_ok-go_on.ensures.plan opened

pub returns-clause-turns : goal.returns-clause-turns
returns-clause-turns g c = λ h.
    let a = c.args in
    let number = g.B.Slip.OriginSlip.number in
    let call = g.B.File.Slip.KeeperSlip.number in
    let left = left_of g.C.Conn a.exchange.now in
    let part = a.part.now in
    let p = went_on a.attempt part in
    let q = c.go_on.new.self.plan in
    let t = flows a.attempt part.url part.facts part.size left.body left.outcome in
    turns_led number call a.order.now (GoOn a.attempt) a.loader.now.plan p t c.flow.new.loader.plan c.in_ok-turned.turned
    (went_on_is a.order.now a.attempt part a.loader.now.plan c.requires.part)
    (turns_at number call a.order.now a.attempt left.body left.outcome p q c.flow.new.loader.plan c.in_ok-turned.turned
    c.in_ok-go_on.ensures.plan (c.in_ok-turned.ensures.turns h))
