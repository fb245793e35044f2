use Rattle.std.proofs.Common.{◌≡◌, ◌+◌, ◌-◌, true, IfSome, ap, sym, subst, ◌∙◌, arith}
use Rattle.acng_grow.specs.Agrees.{label_agrees, cause_agrees}
use Rattle.acng_desk.specs.Settles.{was_label}
use Rattle.acng_desk.specs.Tickets.{IsOld, errand_of}
use Rattle.acng_fetch.proofs.LeadLemmas.{ticket_keeps, lead_ends, lead_cause, lead_label, lead_loaded, ended_at, loaded_at}
use Rattle.acng_fetch.proofs.ticketed.load_lead.Goals as goal

pub download-requires-clause-keeps : goal.download-requires-clause-keeps
download-requires-clause-keeps g c =
    let t = c.args.ticket in
    let l = c.new-loader.result.body in
    let led = c.new-loader.ensures.body ∙ c.new-2.ensures in
    let path = ap (λ l. l.grown.path) led ∙ ap (λ g. g.path) c.new.ensures ∙ c.requires.path in
    let first = ap (λ l. l.ticket.info.first) led in
    let left = ap (λ l. l.ticket.left) led in
    let all = c.requires.unused.left in
    ticket_keeps g.S.Site g.F.BodyFile.tells t l.grown.path (l.ticket.info.first + 16 - l.ticket.left) c.args.order.now c.keeps.ensures path
    (omega (arith, first, left, all)) c.requires.order

pub returns-clause-info : goal.returns-clause-info
returns-clause-info g c =
    let l = c.new-loader.result.body in
    let m = c.download.new.loader.body in
    let led = c.new-loader.ensures.body ∙ c.new-2.ensures in
    sym (ap (λ l. l.ticket.info) c.into_parts.ensures.parts) ∙ c.download.ensures.info
    ∙ ap (λ l. l.ticket.info) led

pub returns-clause-ends : goal.returns-clause-ends
returns-clause-ends g c =
    let t = c.args.ticket in
    let l = c.new-loader.result.body in
    let m = c.download.new.loader.body in
    let r = c.into_parts.result in
    let led = c.new-loader.ensures.body ∙ c.new-2.ensures in
    let parts = c.into_parts.ensures.parts in
    let info = sym (ap (λ l. l.ticket.info) parts) ∙ c.download.ensures.info
    ∙ ap (λ l. l.ticket.info) led in
    let plan = c.download.new.loader.plan in
    let seen = sym (ap (λ l. l.grown.seen) parts) ∙ c.download.ensures.agrees in
    let left : l.ticket.left ≡ 16 = ap (λ l. l.ticket.left) led ∙ c.requires.unused.left in
    let first : l.ticket.info.first ≡ r.0.info.first = ap (λ l. l.ticket.info.first) led ∙ sym (ap (λ i. i.first) info) in
    let end : (l.ticket.info.first + 16 - l.ticket.left) + l.ticket.left ≡ r.0.info.first + 16 = omega (arith, left, first) in
    let errand = c.requires.order ∙ sym (ap errand_of info) in
    lead_ends r.0 r.1 plan c.into_parts.ensures.led seen
    (ended_at c.args.order.now (errand_of r.0.info) l.ticket.info.first r.0.info.first
    ((l.ticket.info.first + 16 - l.ticket.left) + l.ticket.left) (r.0.info.first + 16) plan errand first end c.download.ensures.ended)

pub returns-clause-cause : goal.returns-clause-cause
returns-clause-cause g c =
    let l = c.new-loader.result.body in
    let m = c.download.new.loader.body in
    let r = c.into_parts.result in
    let led = c.new-loader.ensures.body ∙ c.new-2.ensures in
    let parts = c.into_parts.ensures.parts in
    let info = sym (ap (λ l. l.ticket.info) parts) ∙ c.download.ensures.info
    ∙ ap (λ l. l.ticket.info) led in
    let plan = c.download.new.loader.plan in
    let seen = sym (ap (λ l. l.grown.seen) parts) ∙ c.download.ensures.agrees in
    let left : l.ticket.left ≡ 16 = ap (λ l. l.ticket.left) led ∙ c.requires.unused.left in
    let first : l.ticket.info.first ≡ r.0.info.first = ap (λ l. l.ticket.info.first) led ∙ sym (ap (λ i. i.first) info) in
    let end : (l.ticket.info.first + 16 - l.ticket.left) + l.ticket.left ≡ r.0.info.first + 16 = omega (arith, left, first) in
    let errand = c.requires.order ∙ sym (ap errand_of info) in
    subst (λ i. cause_agrees i.first r.1.seen.shown ≡ true) info
    (lead_cause r.0 r.1 plan c.into_parts.ensures.led seen
    (ended_at c.args.order.now (errand_of r.0.info) l.ticket.info.first r.0.info.first
    ((l.ticket.info.first + 16 - l.ticket.left) + l.ticket.left) (r.0.info.first + 16) plan errand first end c.download.ensures.ended))

pub returns-clause-label : goal.returns-clause-label
returns-clause-label g c =
    let l = c.new-loader.result.body in
    let m = c.download.new.loader.body in
    let r = c.into_parts.result in
    let led = c.new-loader.ensures.body ∙ c.new-2.ensures in
    let parts = c.into_parts.ensures.parts in
    let info = sym (ap (λ l. l.ticket.info) parts) ∙ c.download.ensures.info
    ∙ ap (λ l. l.ticket.info) led in
    let plan = c.download.new.loader.plan in
    let seen = sym (ap (λ l. l.grown.seen) parts) ∙ c.download.ensures.agrees in
    let left : l.ticket.left ≡ 16 = ap (λ l. l.ticket.left) led ∙ c.requires.unused.left in
    let first : l.ticket.info.first ≡ r.0.info.first = ap (λ l. l.ticket.info.first) led ∙ sym (ap (λ i. i.first) info) in
    let end : (l.ticket.info.first + 16 - l.ticket.left) + l.ticket.left ≡ r.0.info.first + 16 = omega (arith, left, first) in
    let errand = c.requires.order ∙ sym (ap errand_of info) in
    let old = subst (λ i. IfSome i.was (IsOld g.S.Site i.path)) (sym info) c.keeps.ensures.old_file in
    subst (λ i. label_agrees i.first (was_label i) r.1.seen.label ≡ true) info
    (lead_label r.0 r.1 plan c.into_parts.ensures.led seen
    (ended_at c.args.order.now (errand_of r.0.info) l.ticket.info.first r.0.info.first
    ((l.ticket.info.first + 16 - l.ticket.left) + l.ticket.left) (r.0.info.first + 16) plan errand first end c.download.ensures.ended)
    g.S.Site old)

pub returns-clause-loaded : goal.returns-clause-loaded
returns-clause-loaded g c = λ h.
    let l = c.new-loader.result.body in
    let m = c.download.new.loader.body in
    let r = c.into_parts.result in
    let led = c.new-loader.ensures.body ∙ c.new-2.ensures in
    let parts = c.into_parts.ensures.parts in
    let info = sym (ap (λ l. l.ticket.info) parts) ∙ c.download.ensures.info
    ∙ ap (λ l. l.ticket.info) led in
    let plan = c.download.new.loader.plan in
    let seen = sym (ap (λ l. l.grown.seen) parts) ∙ c.download.ensures.agrees in
    let left : l.ticket.left ≡ 16 = ap (λ l. l.ticket.left) led ∙ c.requires.unused.left in
    let first : l.ticket.info.first ≡ r.0.info.first = ap (λ l. l.ticket.info.first) led ∙ sym (ap (λ i. i.first) info) in
    let next : l.ticket.info.first + 16 - l.ticket.left ≡ r.0.info.first = omega (arith, left, first) in
    let errand = c.requires.order ∙ sym (ap errand_of info) in
    lead_loaded g.S.Site r.0 r.1.seen plan c.args.order.now m.ticket.left errand (ap (λ l. l.ticket.left) parts) seen
    (loaded_at g.S.Site c.args.order.now l.ticket.left 16 (l.ticket.info.first + 16 - l.ticket.left) r.0.info.first m.ticket.left plan left
    next (c.download.ensures.loaded h))
