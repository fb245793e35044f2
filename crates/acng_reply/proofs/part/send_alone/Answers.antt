use Rattle.std.proofs.Common.{◌≡◌, ◌∙◌, ap, sym, subst, OnOk, OnErr}
use Rattle.acng_reply.specs.Heads.{file_head}
use Rattle.acng_reply.specs.Parted.{SendsPart, stop_of}
use Rattle.acng_reply.specs.Replies.{HeadWent, HeadBroke, sent_by}
use Rattle.acng_reply.proofs.Sending.{alone, followed}
use Rattle.acng_reply.proofs.part.send_alone.Goals as goal

pub returns-clause-sends : goal.returns-clause-sends
returns-clause-sends g c =
    let body = c.args.body.now in
    let sent = c.send_head-sent in
    let io = sent_by g.L.Link c.args.client.now sent.new.client in
    let head : c.file_head.result ≡ file_head c.args.manner body.seen.facts c.args.pick =
    c.file_head.ensures.head ∙ ap (λ f. file_head c.args.manner f c.args.pick) c.facts.ensures in
    let r : c.nothing_sent.result ≡ followed 0 body.seen.label (stop_of sent.result) =
    c.nothing_sent.ensures
    ∙ ap (λ l. followed 0 l c.stop_of.result) c.label.ensures.label
    ∙ ap (followed 0 body.seen.label) c.stop_of.ensures in
    subst (λ r. SendsPart g.F.BodyFile.tells c.args.manner c.args.pick body io r) (sym r)
    (alone g.row.F-Slip.Denot g.F.BodyFile.tells c.args.manner c.args.pick body io sent.result c.requires.alone
    (λ t. (c.keeps.ensures.text t).size)
    (subst (λ h. OnOk sent.result (HeadWent h io)) head sent.ensures.all)
    (subst (λ h. OnErr sent.result (HeadBroke h io)) head sent.ensures.broke))
