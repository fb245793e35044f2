use Rattle.std.proofs.Common.{◌≡◌, ◌+◌, ◌-◌, ◌<◌, ◌≤◌, true, IsSome, length, slice_range, ap, ◌∙◌, sym, subst, arith}
use Rattle.acng_base.specs.Answers.{after_body}
use Rattle.acng_answer.specs.Reader.{due}
use Rattle.acng_grow.specs.Keeps.{HasRoom, most_bytes}
use Rattle.acng_fetch.specs.Events.{left_of}
use Rattle.acng_fetch.proofs.Bodies.{longer, room_next, room_at, piece_of_left, next_allowed, runs_more, plan_more, rest_more, outcome_more}
use Rattle.acng_fetch.proofs.May.{add_may}
use Rattle.acng_fetch.proofs.Pieces.{length-slice_range}
use Rattle.acng_fetch.proofs.attempt.take_body.Goals as goal

pub add-requires-clause-may : goal.add-requires-clause-may
add-requires-clause-may g c =
    let s = c.loop-start in
    let i = s.invariant in
    let p = s.loader.plan in
    let x = c.next.new.self in
    let n = c.in-Body.ensures in
    let count = c.in-Body.stop - c.in-Body.start in
    let piece = c.bytes.result.now in
    let is : piece ≡ slice_range x.buf.items c.in-Body.start c.in-Body.stop = c.bytes.ensures in
    let long : length piece ≡ count = ap length is ∙ length-slice_range x.buf.items c.in-Body.start c.in-Body.stop n.part.1 in
    let some : 0 < length piece = let a = n.part.0 in omega (arith, long, a) in
    let r = room_next p.facts.total (due s.exchange.reader) (due x.reader) p.size s.exchange.reader.at x.reader.at
    s.exchange.reader.limit count i.room n.due n.part.2 (omega (arith, n.ready.below, n.limit)) in
    let size : p.size + length piece ≡ p.size + count = ap (λ k. p.size + k) long in
    let small : p.size + length piece ≤ most_bytes = omega (arith, size, r.small) in
    let room : HasRoom p.facts (p.size + length piece) = subst (HasRoom p.facts) (sym size) r.room in
    add_may g.B.Site.Site (g.B.Grows.stock s.loader.body).path p piece i.running.running small room
    (λ h.
    let left : left_of g.C.Conn s.exchange ≡ after_body piece (left_of g.C.Conn x)
    = n.event (c.requires.answer.tells h) ∙ ap (λ b. after_body b (left_of g.C.Conn x)) (sym is) in
    (piece_of_left g.B.Site.Site (g.B.Grows.stock s.loader.body).path c.args.order.now c.args.attempt p piece (left_of g.C.Conn s.exchange)
    (left_of g.C.Conn x) some left (i.allowed h)).first)

pub loop-start-preserved : goal.loop-start-preserved
loop-start-preserved g c =
    let s = c.loop-start in
    let i = s.invariant in
    let p = s.loader.plan in
    let x = c.next.new.self in
    let n = c.in-Body.ensures in
    let count = c.in-Body.stop - c.in-Body.start in
    let piece = c.bytes.result.now in
    let is : piece ≡ slice_range x.buf.items c.in-Body.start c.in-Body.stop = c.bytes.ensures in
    let long : length piece ≡ count = ap length is ∙ length-slice_range x.buf.items c.in-Body.start c.in-Body.stop n.part.1 in
    let some : 0 < length piece = let a = n.part.0 in omega (arith, long, a) in
    let r = room_next p.facts.total (due s.exchange.reader) (due x.reader) p.size s.exchange.reader.at x.reader.at
    s.exchange.reader.limit count i.room n.due n.part.2 (omega (arith, n.ready.below, n.limit)) in
    let stock = g.B.Grows.stock in
    let l = c.add.new.self in
    let a = c.in_ok-add-in-Body.ensures in
    let more : l.plan ≡ longer p (length piece) = a.plan in
    let grown : l.plan.size ≡ p.size + count = ap (λ q. q.size) more ∙ ap (λ k. p.size + k) long in
    let total : l.plan.facts.total ≡ p.facts.total = ap (λ q. q.facts.total) more in
    let old = left_of g.C.Conn s.exchange in
    let now = left_of g.C.Conn x in
    let left : g.B.Site.Site.tells ≡ true → old ≡ after_body piece now
    = λ h. n.event (c.requires.answer.tells h) ∙ ap (λ b. after_body b now) (sym is) in
    let path = ap (λ k. k.path) a.stock in
    record {
      ready = n.ready;
      told = subst IsSome (sym n.order.1) n.order.0;
      number = n.conn.0 ∙ i.number;
      running = runs_more (stock c.args.loader.now.body).first (c.args.attempt + 1) (length piece) p l.plan more i.running;
      agrees = a.agrees;
      stocked = a.stock ∙ i.stocked;
      room = room_at p.facts.total l.plan.facts.total (due x.reader) (p.size + count) l.plan.size x.reader.at s.exchange.reader.limit
          x.reader.limit total grown n.limit r.next;
      longer = λ h. plan_more p l.plan c.args.loader.now.plan (length piece) more (i.longer h);
      rest = λ h. rest_more p l.plan piece old now _ more (left h) (i.rest h);
      outcome = λ h. outcome_more old now piece _ (left h) (i.outcome h);
      allowed = λ h.
          next_allowed g.B.Site.Site (stock s.loader.body).path (stock l.body).path c.args.order.now c.args.attempt p l.plan piece now.body
          now.outcome path more
          (piece_of_left g.B.Site.Site (stock s.loader.body).path c.args.order.now c.args.attempt p piece old now some (left h)
          (i.allowed h));
    }
