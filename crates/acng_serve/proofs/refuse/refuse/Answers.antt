use Rattle.std.proofs.Common.{◌≡◌, ◌∙◌, true, false, None, length, ap, subst, OnOk, OnErr}
use Rattle.acng_reply.specs.Replies.{Sent, sent_by, WroteAll, WroteFront, line_reply}
use Rattle.acng_serve.specs.declared.note.Cause.TheVariants.{ClientFault}
use Rattle.acng_serve.specs.Notes.{line_or}
use Rattle.acng_serve.proofs.Sendings.{line_sent, line_broke}
use Rattle.acng_serve.proofs.refuse.refuse.Goals as goal

pub returns-in-Ok-clause-gives : goal.returns-in-Ok-clause-gives
returns-in-Ok-clause-gives g c =
    let io : Sent = sent_by g.L.Link c.args.client.now c.send_line-sent.new.client in
    let l = c.line_or-line.result in
    let sent = c.send_line-sent.result.0 in
    let e = c.line_or-line.ensures ∙ ap line_or c.line.ensures in
    let count = subst (λ r. OnOk r (sent ≡ length (line_reply c.args.manner l).body)) c.in-Ok.is c.send_line-sent.ensures.count in
    let wrote = subst (λ r. OnOk r (WroteAll (line_reply c.args.manner l) io)) c.in-Ok.is c.send_line-sent.ensures.all in
    line_sent c.args.manner c.args.cause c.args.label c.args.entry io l e sent c.told.result
    (c.told.ensures ∙ ap (λ s. record
    { status = s; cause = c.args.cause; label = c.args.label; entry = c.args.entry; part = None; sent = sent; whole = true })
    c.status-status.ensures.status)
    count wrote

pub returns-in-Err-clause-gives : goal.returns-in-Err-clause-gives
returns-in-Err-clause-gives g c =
    let io : Sent = sent_by g.L.Link c.args.client.now c.send_line-sent.new.client in
    let l = c.line_or-line.result in
    let sent = c.send_line-sent.result.0 in
    let e = c.line_or-line.ensures ∙ ap line_or c.line.ensures in
    let wrote = subst (λ r. OnErr r (WroteFront (line_reply c.args.manner l) sent io)) c.in-Err.is c.send_line-sent.ensures.broke in
    line_broke c.args.manner c.args.cause c.args.label c.args.entry io l e sent c.told-in-Err.result
    (c.told-in-Err.ensures ∙ ap (λ s. record
    { status = s; cause = ClientFault; label = c.args.label; entry = c.args.entry; part = None; sent = sent; whole = false })
    c.status-status.ensures.status)
    wrote
