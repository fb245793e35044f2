use Rattle.std.proofs.Common.{◌≡◌, ◌∙◌, Some, ap, sym, subst, OnOk, OnErr}
use Rattle.acng_reply.specs.Heads.{file_head}
use Rattle.acng_reply.specs.Joined.{FollowsPart}
use Rattle.acng_reply.specs.Parted.{stop_of}
use Rattle.acng_reply.specs.Replies.{HeadWent, HeadBroke, sent_by}
use Rattle.acng_reply.proofs.Joining.{alone}
use Rattle.acng_reply.proofs.Sending.{followed}
use Rattle.acng_reply.proofs.joined.send_alone.Goals as goal

pub returns-clause-sends : goal.returns-clause-sends
returns-clause-sends g c told file known =
    let f = c.args.facts.now in
    let sent = c.send_head-sent in
    let io = sent_by g.L.Link c.args.client.now sent.new.client in
    let head : c.file_head.result ≡ file_head c.args.manner f c.args.pick = c.file_head.ensures.head in
    let r : c.nothing_sent.result ≡ followed 0 (Some c.args.label) (stop_of sent.result) =
    c.nothing_sent.ensures ∙ ap (followed 0 (Some c.args.label)) c.stop_of.ensures in
    subst (λ r. FollowsPart told c.args.manner c.args.pick f file io r) (sym r)
    (alone g.row.Q.Denot c.args.manner c.args.pick f c.args.label io sent.result c.requires.alone
    (subst (λ h. OnOk sent.result (HeadWent h io)) head sent.ensures.all)
    (subst (λ h. OnErr sent.result (HeadBroke h io)) head sent.ensures.broke) told file known)
