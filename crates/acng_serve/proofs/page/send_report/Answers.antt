use Rattle.std.proofs.Common.{◌≡◌, length, subst, OnOk}
use Rattle.acng_reply.specs.Replies.{Sent, sent_by, WroteAll, page_reply}
use Rattle.acng_serve.proofs.Visiting.{page_sent}
use Rattle.acng_serve.proofs.page.send_report.Goals as goal

pub returns-in-Ok-clause-gives : goal.returns-in-Ok-clause-gives
returns-in-Ok-clause-gives g c =
    let io : Sent = sent_by g.L.Link c.args.client.now c.send_page-sent.new.client in
    let bytes = c.as_bytes.result.now in
    let sent = c.send_page-sent.result.0 in
    let count = subst (λ r. OnOk r (sent ≡ length (page_reply c.args.manner bytes).body)) c.in-Ok.is c.send_page-sent.ensures.count in
    let wrote = subst (λ r. OnOk r (WroteAll (page_reply c.args.manner bytes) io)) c.in-Ok.is c.send_page-sent.ensures.all in
    page_sent c.args.manner c.args.report.page c.args.report.run io sent c.told.result c.told.ensures
    (subst (λ b. sent ≡ length (page_reply c.args.manner b).body) c.as_bytes.ensures.bytes count)
    (subst (λ b. WroteAll (page_reply c.args.manner b) io) c.as_bytes.ensures.bytes wrote)
