use Rattle.std.proofs.Common.{◌≡◌, ◌∙◌, ap, sym, subst}
use Rattle.acng_reply.specs.Parted.{SendsPart, stop_of}
use Rattle.acng_reply.specs.Replies.{sent_by}
use Rattle.acng_reply.proofs.Sending.{followed, lined}
use Rattle.acng_reply.proofs.part.send_no_part.Goals as goal

pub returns-clause-sends : goal.returns-clause-sends
returns-clause-sends g c =
    let body = c.args.body.now in
    let sent = c.send_line-sent in
    let m = c.args.manner in
    let from = c.requires.0 in
    let io = sent_by g.L.Link c.args.client.now sent.new.client in
    let r : followed sent.result.0 c.label.result c.stop_of.result ≡ followed sent.result.0 body.seen.label (stop_of sent.result.1) =
    ap (λ l. followed sent.result.0 l c.stop_of.result) c.label.ensures.label
    ∙ ap (followed sent.result.0 body.seen.label) c.stop_of.ensures in
    subst (λ r. SendsPart g.F.BodyFile.tells m c.args.pick body io r) (sym r)
    (subst (λ p. SendsPart g.F.BodyFile.tells m p body io (followed sent.result.0 body.seen.label (stop_of sent.result.1)))
    (sym c.requires.1)
    (lined g.row.F-Slip.Denot g.F.BodyFile.tells m from c.args.total body io sent.result.0 sent.result.1
    (λ t. (c.keeps.ensures.text t).size) sent.ensures.all sent.ensures.count sent.ensures.broke))
