use Rattle.std.proofs.Common.{◌≡◌, ◌∙◌, ◌⊎◌, ◌≤◌, IfSome, true, ap, sym, subst}
use Rattle.std.proofs.KnownBytes.{Keeps-trans}
use Rattle.acng_grow.specs.declared.facts.Stage.TheVariants as stage
use Rattle.acng_grow.specs.declared.owned.FollowStop.TheVariants as stop
use Rattle.acng_grow.specs.Follows.{FollowsAs}
use Rattle.acng_reply.specs.Heads.{file_head, sending_of}
use Rattle.acng_reply.specs.Picks.{range_of}
use Rattle.acng_reply.specs.Parted.{SendsPart}
use Rattle.acng_reply.specs.Replies.{HeadWent, HeadBroke, sent_by}
use Rattle.acng_reply.proofs.Sending.{behind, behind_broke, followed, rests_same, within}
use Rattle.acng_reply.proofs.part.send_behind.Goals as goal

pub returns-in-Err-clause-sends : goal.returns-in-Err-clause-sends
returns-in-Err-clause-sends g c =
    let body = c.args.body.now in
    let m = c.args.manner in
    let io = sent_by g.L.Link c.args.client.now c.send_head.new.client in
    let head : c.file_head-head.result ≡ file_head m body.seen.facts c.args.pick =
    c.file_head-head.ensures.head ∙ ap (λ f. file_head m f c.args.pick) c.facts.ensures in
    let r : c.nothing_sent.result ≡ followed 0 body.seen.label stop.ClientFault =
    c.nothing_sent.ensures ∙ ap (λ l. followed 0 l stop.ClientFault) c.label.ensures.label in
    subst (λ r. SendsPart g.F.BodyFile.tells m c.args.pick body io r) (sym r)
    (behind_broke g.F.BodyFile.tells m c.args.pick body io (λ t. (c.keeps.ensures.text t).size)
    (subst (λ h. HeadBroke h io) head c.in-Err.ensures.broke))

pub returns-in-Err-clause-rests : goal.returns-in-Err-clause-rests
returns-in-Err-clause-rests g c = rests_same c.args.body.now

pub follow_owned-requires-clause-within : goal.follow_owned-requires-clause-within
follow_owned-requires-clause-within g c =
    let body = c.args.body.now in
    subst (λ r. IfSome r.1 (λ t. (body.seen.stage ≡ stage.Whole) ⊎ (body.seen.stage ≡ stage.Same) → t ≤ body.seen.size))
    (sym c.range-from.ensures) (within g.S.Site body.path body.seen c.args.pick c.keeps.ensures.seen c.requires.picked)

pub returns-clause-others : goal.returns-clause-others
returns-clause-others g c =
    Keeps-trans (g.L.Link.left c.args.client.now) (g.L.Link.left c.send_head.new.client) (g.L.Link.left c.follow_owned.new.client)
    c.send_head.ensures.others c.follow_owned.ensures.others

pub returns-clause-sends : goal.returns-clause-sends
returns-clause-sends g c =
    let body = c.args.body.now in
    let m = c.args.manner in
    let p = c.args.pick in
    let w = g.L.Link.written in
    let n = g.L.Link.faults in
    let old = c.args.client.now in
    let mid = c.send_head.new.client in
    let new = c.follow_owned.new.client in
    let r = c.follow_owned.result in
    let told = g.F.BodyFile.tells in
    let head : c.file_head-head.result ≡ file_head m body.seen.facts p =
    c.file_head-head.ensures.head ∙ ap (λ f. file_head m f p) c.facts.ensures in
    let how : c.sending_of-sending.result ≡ sending_of m (file_head m body.seen.facts p).framing =
    c.sending_of-sending.ensures ∙ ap (λ h. sending_of m h.framing) head in
    let went = subst (λ h. HeadWent h (sent_by g.L.Link old mid)) head c.in_default.ensures.all in
    let follows : FollowsAs (told ≡ true) (sending_of m (file_head m body.seen.facts p).framing) body (range_of p).0 (range_of p).1
    (w mid) (w new) r =
    subst (λ s. FollowsAs (told ≡ true) s body (range_of p).0 (range_of p).1 (w mid) (w new) r) how
    (subst (λ q. FollowsAs (told ≡ true) c.sending_of-sending.result body q.0 q.1 (w mid) (w new) r) c.range-from.ensures
    c.follow_owned.ensures.sends) in
    let fault = c.follow_owned.ensures.fault in
    behind told m p body r (w old) (w mid) (w new) (n old) (n mid) (n new) c.requires.full (λ t. (c.keeps.ensures.text t).size)
    went c.send_head.ensures.cause.later follows fault
