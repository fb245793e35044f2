use Rattle.std.proofs.Common.{◌≡◌, ◌+◌, ◌-◌, ap, sym, ◌∙◌, arith}
use Rattle.acng_desk.specs.Tickets.{errand_of}
use Rattle.acng_fetch.proofs.LeadLemmas.{ticket_keeps, lead_loaded, loaded_at}
use Rattle.acng_fetch.proofs.followed.load_body.Goals as goal

pub download-requires-clause-keeps : goal.download-requires-clause-keeps
download-requires-clause-keeps g c =
    let l = c.new-loader.result.body in
    let made = c.new-loader.ensures.body in
    let path = ap (λ l. l.grown.path) made ∙ c.new.ensures.path in
    let ticket = ap (λ l. l.ticket) made ∙ c.new.ensures.ticket in
    let first = ap (λ t. t.info.first) ticket in
    let left = ap (λ t. t.left) ticket in
    let all = c.requires.unused.left in
    ticket_keeps g.S.Site g.F.BodyFile.tells c.args.ticket l.grown.path (l.ticket.info.first + 16 - l.ticket.left) c.in-Ok.order
    c.keeps.ensures path (omega (arith, first, left, all)) c.in-Ok.ensures

pub into_left-requires-in-Err-clause-ended : goal.into_left-requires-in-Err-clause-ended
into_left-requires-in-Err-clause-ended g c =
    let t = c.close_unbegun.new.loader.body.ticket in
    c.close_unbegun.ensures.ended (errand_of t.info) t.info.first (t.info.first + 16)

pub returns-in-Ok-clause-loaded : goal.returns-in-Ok-clause-loaded
returns-in-Ok-clause-loaded g c = λ h.
    let l = c.new-loader.result.body in
    let m = c.download.new.loader.body in
    let plan = c.download.new.loader.plan in
    let r = c.into_left.result in
    let order = c.in-Ok.order in
    let ticket = ap (λ l. l.ticket) c.new-loader.ensures.body ∙ c.new.ensures.ticket in
    let spent = c.into_left.ensures.ticket in
    let info = ap (λ t. t.info) spent ∙ c.download.ensures.info ∙ ap (λ t. t.info) ticket in
    let left : l.ticket.left ≡ 16 = ap (λ t. t.left) ticket ∙ c.requires.unused.left in
    let first : l.ticket.info.first ≡ r.ticket.info.first = ap (λ t. t.info.first) ticket ∙ sym (ap (λ i. i.first) info) in
    let next : l.ticket.info.first + 16 - l.ticket.left ≡ r.ticket.info.first = omega (arith, left, first) in
    let errand = c.in-Ok.ensures ∙ sym (ap errand_of info) in
    lead_loaded g.S.Site r.ticket r.plan plan order m.ticket.left errand (sym (ap (λ t. t.left) spent)) c.into_left.ensures.plan
    (loaded_at g.S.Site order l.ticket.left 16 (l.ticket.info.first + 16 - l.ticket.left) r.ticket.info.first m.ticket.left plan left next
    (c.download.ensures.loaded h))
