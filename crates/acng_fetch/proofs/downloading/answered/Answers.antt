use Rattle.std.proofs.Common.{◌∙◌, sym, subst}
use Rattle.acng_answer.specs.Blocks.{answer_head}
use Rattle.acng_grow.specs.Allowed.{AllAllowed}
use Rattle.acng_fetch.specs.Events.{left_of}
use Rattle.acng_fetch.specs.Loads.{Turns, stand_of}
use Rattle.acng_fetch.proofs.Tests.{some_is}
use Rattle.acng_fetch.proofs.Told.{turn_headed}
use Rattle.acng_fetch.proofs.downloading.answered.Goals as goal

pub headed-requires-clause-allowed : goal.headed-requires-clause-allowed
headed-requires-clause-allowed g c = λ h.
    let a = c.args in
    let e = a.order.now in
    let x = c.next.new.self in
    let b = c.in-Head.ensures.event in
    let stand = stand_of g.B.Slip.OriginSlip.number g.B.File.Slip.KeeperSlip.number e a.loader.now.plan a.standing in
    let told = some_is c.told-head.result (answer_head b.0) (sym c.told-head.ensures.head ∙ b.1) in
    let turn = turn_headed e a.attempt stand b.0 c.told-head.result x.reader.location (left_of g.C.Conn a.exchange.now) (left_of g.C.Conn x)
    told b.2 (b.3 (c.requires.tells h)) in
    subst (λ t. AllAllowed g.B.Site.Site (g.B.Grows.stock a.loader.now.body).path e a.loader.now.plan t.effects) turn
    (c.requires.allowed h)

pub returns-in_ok-turned-in-Head-clause-turns : goal.returns-in_ok-turned-in-Head-clause-turns
returns-in_ok-turned-in-Head-clause-turns g c = λ h.
    let a = c.args in
    let e = a.order.now in
    let x = c.next.new.self in
    let b = c.in-Head.ensures.event in
    let number = g.B.Slip.OriginSlip.number in
    let call = g.B.File.Slip.KeeperSlip.number in
    let stand = stand_of number call e a.loader.now.plan a.standing in
    let told = some_is c.told-head.result (answer_head b.0) (sym c.told-head.ensures.head ∙ b.1) in
    let turn = turn_headed e a.attempt stand b.0 c.told-head.result x.reader.location (left_of g.C.Conn a.exchange.now) (left_of g.C.Conn x)
    told b.2 (b.3 (c.requires.tells h)) in
    subst (λ t. Turns number call e t a.loader.now.plan c.headed.new.loader.plan c.in_ok-turned-in-Head.turned) (sym turn)
    (c.in_ok-turned-in-Head.ensures.turns h)
