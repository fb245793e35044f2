use Rattle.std.proofs.Common.{◌≡◌, ◌∙◌, ◌&&◌, true, ap, sym, subst}
use Rattle.acng_grow.specs.Stands.{file_of}
use Rattle.acng_grow.specs.Turns.{FollowsFile, EndStands}
use Rattle.acng_reply.specs.Heads.{file_head, sending_of}
use Rattle.acng_reply.specs.Joined.{FollowsPart, range_in}
use Rattle.acng_reply.specs.Replies.{HeadWent, HeadBroke, sent_by}
use Rattle.acng_reply.proofs.Joining.{behind, broke}
use Rattle.acng_reply.proofs.joined.follow_behind.Goals as goal

pub returns-in-Err-clause-sends : goal.returns-in-Err-clause-sends
returns-in-Err-clause-sends g c =
    let f = c.args.facts.now in
    let m = c.args.manner in
    let io = sent_by g.L.Link c.args.client.now c.send_head.new.client in
    let told = g.S.Site.tells && g.F.BodyFile.tells in
    let file = file_of g.S.Site c.args.asked.now.path c.args.label in
    subst (λ r. FollowsPart told m c.args.pick f file io r) (sym c.nothing_sent.ensures)
    (broke m c.args.pick f c.args.label io (subst (λ h. HeadBroke h io) c.file_head-head.ensures.head c.in-Err.ensures.broke)
    told file c.requires.known)

pub returns-clause-sends : goal.returns-clause-sends
returns-clause-sends g c =
    let f = c.args.facts.now in
    let m = c.args.manner in
    let p = c.args.pick in
    let w = g.L.Link.written in
    let n = g.L.Link.faults in
    let old = c.args.client.now in
    let mid = c.send_head.new.client in
    let new = c.follow.new.client in
    let r = c.follow.result in
    let told = g.S.Site.tells && g.F.BodyFile.tells in
    let file = file_of g.S.Site c.args.asked.now.path c.args.label in
    let head : c.file_head-head.result ≡ file_head m f p = c.file_head-head.ensures.head in
    let how : c.sending_of-sending.result ≡ sending_of m (file_head m f p).framing =
    c.sending_of-sending.ensures ∙ ap (λ h. sending_of m h.framing) head in
    let went = subst (λ h. HeadWent h (sent_by g.L.Link old mid)) head c.in_default.ensures.all in
    let follows : FollowsFile (told ≡ true) (sending_of m (file_head m f p).framing) file (range_in f p).0 (range_in f p).1 (w mid) (w new) r =
    subst (λ s. FollowsFile (told ≡ true) s file (range_in f p).0 (range_in f p).1 (w mid) (w new) r) how
    (subst (λ q. FollowsFile (told ≡ true) c.sending_of-sending.result file q.0 q.1 (w mid) (w new) r) c.range_in-from.ensures
    c.follow.ensures.sends) in
    let stands : EndStands g.S.Site c.args.asked.now (range_in f p).0 (range_in f p).1 r.sent r.stop =
    subst (λ q. EndStands g.S.Site c.args.asked.now q.0 q.1 r.sent r.stop) c.range_in-from.ensures c.follow.ensures.ends in
    behind g.row.F-Slip.Denot g.S.Site c.args.asked.now m f file (w old) (w mid) (w new) (n old) (n mid) (n new) c.send_head.ensures.cause.later told p r
    c.requires.full c.requires.picked c.requires.known went follows stands c.follow.ensures.fault
