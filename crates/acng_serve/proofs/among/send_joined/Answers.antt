use Rattle.std.proofs.Common.{subst}
use Rattle.acng_grow.specs.Looks.{LookStands}
use Rattle.acng_reply.specs.Replies.{sent_by}
use Rattle.acng_serve.proofs.Lawfuls.{refused_note}
use Rattle.acng_serve.proofs.among.send_joined.Goals as goal

pub returns-in-Some-clause-note : goal.returns-in-Some-clause-note
returns-in-Some-clause-note g c =
    let s = g.S.Site in
    refused_note g.row.F-Slip.Denot s g.F.BodyFile.tells c.args.manner c.args.request.now c.args.entry c.requires.led c.await_head-stage.result c.in-Some.shown
    c.refuse.result (sent_by g.L.Link c.args.client.now c.refuse.new.client)
    (subst (λ a. LookStands s a c.await_head-stage.result) c.asked.ensures c.await_head-stage.ensures) c.in-Some.is c.refuse.ensures.gives
