use Rattle.std.proofs.Common.{◌≡◌, ◌≤◌, length, take, subst, ◌∙◌, arith}
use Rattle.std.specs.Io.KnownBytes.{Appends}
use Rattle.std.proofs.lemmas.List.{take_all}
use Rattle.acng_reply.specs.Heads.{page_head}
use Rattle.acng_reply.specs.Manners.{unless_bare}
use Rattle.acng_reply.specs.Replies.{HeadWent, HeadBroke, sent_by}
use Rattle.acng_reply.proofs.Texts.{both_all, both_front, head_front, on_ok, on_err}
use Rattle.acng_reply.proofs.send.send_page.Goals as goal

pub returns-in-Err-clause-broke : goal.returns-in-Err-clause-broke
returns-in-Err-clause-broke g c =
    let io = sent_by g.L.Link c.args.client.now c.send_head.new.client in
    let broke = subst (λ h. HeadBroke h io) c.page_head.ensures c.in-Err.ensures.broke in
    head_front (page_head (length c.args.page.now)) (unless_bare c.args.manner c.args.page.now) io broke

pub returns-clause-all : goal.returns-clause-all
returns-clause-all g c =
    let sent = c.send_counted-taken in
    let w = g.L.Link.written in
    let old = c.args.client.now in
    let mid = c.send_head.new.client in
    let new = sent.new.link in
    let body = unless_bare c.args.manner c.args.page.now in
    let went = subst (λ h. HeadWent h (sent_by g.L.Link old mid)) c.page_head.ensures c.in_default.ensures.all in
    on_ok sent.result.1
    (λ count.
    let all : take sent.result.0 c.unless_bare.result.now ≡ body =
    take_all sent.result.0 c.unless_bare.result.now (omega arith) ∙ c.unless_bare.ensures in
    both_all (page_head (length c.args.page.now)) body (w old) (w mid) (w new) (g.L.Link.faults old) (g.L.Link.faults mid)
    (g.L.Link.faults new) went (subst (Appends (w mid) (w new)) all sent.ensures.bytes))
    sent.ensures.all

pub returns-clause-broke : goal.returns-clause-broke
returns-clause-broke g c =
    let sent = c.send_counted-taken in
    let w = g.L.Link.written in
    let old = c.args.client.now in
    let mid = c.send_head.new.client in
    let new = sent.new.link in
    let body = unless_bare c.args.manner c.args.page.now in
    let went = subst (λ h. HeadWent h (sent_by g.L.Link old mid)) c.page_head.ensures c.in_default.ensures.all in
    on_err sent.result.1
    (both_front (page_head (length c.args.page.now)) body (w old) (w mid) (w new) (g.L.Link.faults old) (g.L.Link.faults mid)
    (g.L.Link.faults new) went sent.result.0 (subst (λ t. sent.result.0 ≤ length t) c.unless_bare.ensures sent.ensures.within)
    (subst (λ t. Appends (w mid) (w new) (take sent.result.0 t)) c.unless_bare.ensures sent.ensures.bytes) c.send_head.ensures.cause.later)
    sent.ensures.cause.failed
