use Rattle.std.proofs.Common.{sym, ◌∙◌}
use Rattle.acng_fetch.proofs.Plain.{plain_other}
use Rattle.acng_fetch.proofs.decision.plain.Goals as goal

pub returns-else-is_redirect : goal.returns-else-is_redirect
returns-else-is_redirect g c =
    plain_other g.P.OriginSlip.number g.Q.KeeperSlip.number c.args.order.now c.args.attempt c.args.followed c.args.head.now c.args.place
    c.other.result c.if-head-eq200.false (sym c.is_redirect.ensures ∙ c.if-is_redirect.false)
    (c.other.ensures c.args.order.now c.args.followed)
