use Rattle.std.proofs.Common.{◌≡◌, Some, ap, sym, subst}
use Rattle.acng_reply.specs.Joined.{FollowsPart}
use Rattle.acng_reply.specs.Parted.{stop_of}
use Rattle.acng_reply.specs.Replies.{sent_by}
use Rattle.acng_reply.proofs.Joining.{lined}
use Rattle.acng_reply.proofs.Sending.{followed}
use Rattle.acng_reply.proofs.joined.send_no_part.Goals as goal

pub returns-clause-sends : goal.returns-clause-sends
returns-clause-sends g c told file known =
    let f = c.args.facts.now in
    let sent = c.send_line-sent in
    let m = c.args.manner in
    let from = c.requires.0 in
    let io = sent_by g.L.Link c.args.client.now sent.new.client in
    let r : followed sent.result.0 (Some c.args.label) c.stop_of.result ≡ followed sent.result.0 (Some c.args.label) (stop_of sent.result.1) =
    ap (followed sent.result.0 (Some c.args.label)) c.stop_of.ensures in
    subst (λ r. FollowsPart {Q = g.row.Q.Denot} told m c.args.pick f file io r) (sym r)
    (subst (λ p. FollowsPart {Q = g.row.Q.Denot} told m p f file io (followed sent.result.0 (Some c.args.label) (stop_of sent.result.1)))
    (sym c.requires.1)
    (lined g.row.Q.Denot m from c.args.total f c.args.label io sent.result.0 sent.result.1
    sent.ensures.all sent.ensures.count sent.ensures.broke told file known))
