use Rattle.std.proofs.Common.{◌≡◌, ◌∙◌, ap, sym, subst, Some}
use Rattle.acng_grow.specs.declared.facts.Facts.{Facts}
use Rattle.acng_grow.specs.declared.facts.Stage.{Stage}
use Rattle.acng_reply.specs.declared.pick.Pick.{Pick}
use Rattle.acng_reply.specs.Picks.{pick, is_kept}
use Rattle.acng_reply.specs.Replies.{sent_by}
use Rattle.acng_serve.specs.declared.note.Cause.TheVariants.{Load}
use Rattle.acng_serve.specs.Notes.{Gives, lined, SendsPick}
use Rattle.acng_serve.proofs.Sendings.{shown_sent, picked_sent}
use Rattle.acng_serve.proofs.file.send_found.Goals as goal

pub returns-in-Some-clause-sends : goal.returns-in-Some-clause-sends
returns-in-Some-clause-sends g c =
    let io = sent_by g.L.Link c.args.client.now c.refuse.new.client in
    let body = c.args.body.now in
    let gives = subst (λ l. Gives (lined c.args.manner (Load c.in-Some.shown) l
    (Some c.args.entry)) c.refuse.result io) c.label-label.ensures.label c.refuse.ensures.gives in
    shown_sent g.F.BodyFile.tells c.args.manner c.args.request.now c.args.entry body c.refuse.result io c.in-Some.shown
    (λ t. (c.keeps.ensures.text t).size) (sym c.shown.ensures.shown ∙ c.in-Some.is) gives

pub returns-in-None-clause-sends : goal.returns-in-None-clause-sends
returns-in-None-clause-sends g c =
    let io = sent_by g.L.Link c.args.client.now c.send_pick.new.client in
    let body = c.args.body.now in
    let r = c.args.request.now in
    let p : c.of-pick.result ≡ pick r (is_kept body.seen.stage) body.seen.facts =
    c.of-pick.ensures.pick ∙ ap (λ (s : Stage). pick r (is_kept s) c.facts.result) c.stage.ensures
    ∙ ap (λ (f : Facts). pick r (is_kept body.seen.stage) f) c.facts.ensures in
    picked_sent g.F.BodyFile.tells c.args.manner r c.args.entry body c.send_pick.result io (sym c.shown.ensures.shown ∙ c.in-None.is)
    (subst (λ (k : Pick). SendsPick g.F.BodyFile.tells c.args.manner k c.args.entry body c.send_pick.result io) p c.send_pick.ensures.sends)
