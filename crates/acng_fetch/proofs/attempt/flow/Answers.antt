use Rattle.acng_fetch.specs.Events.{outcome_of}
use Rattle.acng_fetch.proofs.Bodies.{turns_flows}
use Rattle.acng_fetch.proofs.attempt.flow.Goals as goal

pub returns-clause-turns : goal.returns-clause-turns
returns-clause-turns g c = λ h.
    turns_flows g.B.Slip.OriginSlip.number g.B.File.Slip.KeeperSlip.number c.args.order.now c.args.attempt _ _ (outcome_of c.in_ok-end.end)
    c.args.loader.now.plan c.take_body.new.loader.plan c.close.new.loader.plan c.close.result (c.in_ok-end.ensures.taken h)
    (c.in_ok-end.ensures.ends h) c.close.ensures.turns
