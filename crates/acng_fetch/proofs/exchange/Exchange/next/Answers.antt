use Rattle.std.proofs.Common.{ℕ, List, slice_range, ◌∙◌, subst, arith}
use Rattle.acng_answer.specs.declared.step.Step.{Step}
use Rattle.acng_answer.specs.declared.step.Step.TheVariants as step
use Rattle.acng_answer.specs.Reader.{rest, due, Tells, KeepsHead, Progresses}
use Rattle.acng_answer.specs.Reader.{Counts as CountsStep}
use Rattle.acng_fetch.proofs.Pieces.{length-slice_range}
use Rattle.acng_fetch.proofs.ReaderSteps.{at_slice, after_more, after_the_head, after_bytes}
use Rattle.acng_fetch.proofs.exchange.Exchange.next.Goals as goal

pub loop-end-preserved : goal.loop-end-preserved
loop-end-preserved g c =
    let old = c.refill.new.self in
    let buf = old.buf.items in
    let new = c.feed-used.new.self in
    let p = old.pending in
    let used = c.feed-used.result.0 in
    let r = c.refill.ensures.ready in
    let len = length-slice_range buf p.from p.to r.within in
    let faulted = g.C.Conn.faulted old.conn in
    let left = g.C.Conn.left old.conn in
    let tells = λ (s : Step) (b : List ℕ). Tells s used (slice_range b p.from p.to) new.head new.location (rest old.reader) (rest new) in
    let told_step = at_slice tells c.feed-used.result.1 step.More c.as_slice.result.now buf c.in-More.is
    c.as_slice.ensures.value c.feed-used.ensures.tells in
    let order = subst (λ s. KeepsHead s old.reader.head new.head) c.in-More.is c.feed-used.ensures.head in
    let count = subst (λ s. CountsStep s new.head (due old.reader) (due new)) c.in-More.is c.feed-used.ensures.due in
    record {
      ready = record {
        room = r.room;
        ordered = omega arith;
        within = r.within;
        below = omega arith;
        limited = omega arith;
      };
      bound = omega arith;
      later = omega arith;
      head = order ∙ c.refill.ensures.head ∙ c.loop-end.invariant.head;
      due = count ∙ c.in_default.ensures.due ∙ c.loop-end.invariant.due;
      number = c.refill.ensures.conn.0 ∙ c.loop-end.invariant.number;
      ask = c.refill.ensures.conn.1 ∙ c.loop-end.invariant.ask;
      same = λ told. c.loop-end.invariant.same told ∙ c.in_default.ensures.same told
          ∙ after_more old.reader new faulted buf p.from p.to used left new.head new.location told_step;
    }

pub loop-end-smaller : goal.loop-end-smaller
loop-end-smaller g c =
    let some = subst (λ s. Progresses c.feed-used.result.0 s) c.in-More.is c.feed-used.ensures.progress in omega arith

pub returns-in-Head-clause-event : goal.returns-in-Head-clause-event
returns-in-Head-clause-event g c =
    let old = c.refill.new.self in
    let buf = old.buf.items in
    let new = c.feed-used.new.self in
    let p = old.pending in
    let used = c.feed-used.result.0 in
    let faulted = g.C.Conn.faulted old.conn in
    let left = g.C.Conn.left old.conn in
    let tells = λ (s : Step) (b : List ℕ). Tells s used (slice_range b p.from p.to) new.head new.location (rest old.reader) (rest new) in
    let told_step = at_slice tells c.feed-used.result.1 step.Head c.as_slice.result.now buf c.in-Head.is
    c.as_slice.ensures.value c.feed-used.ensures.tells in (
      told_step.head,
      told_step.told_is,
      told_step.located,
      λ told. c.loop-end.invariant.same told ∙ c.in_default.ensures.same told
          ∙ after_the_head old.reader new faulted buf p.from p.to used left new.head new.location told_step,
    )

pub returns-in-Body-clause-event : goal.returns-in-Body-clause-event
returns-in-Body-clause-event g c =
    let old = c.refill.new.self in
    let buf = old.buf.items in
    let new = c.feed-used.new.self in
    let p = old.pending in
    let used = c.feed-used.result.0 in
    let within = c.refill.ensures.ready.within in
    let len = length-slice_range buf p.from p.to within in
    let faulted = g.C.Conn.faulted old.conn in
    let left = g.C.Conn.left old.conn in
    let tells = λ (s : Step) (b : List ℕ). Tells s used (slice_range b p.from p.to) new.head new.location (rest old.reader) (rest new) in
    let told_step = at_slice tells c.feed-used.result.1 (step.Body c.in-Body.first c.in-Body.stop) c.as_slice.result.now buf c.in-Body.is
    c.as_slice.ensures.value c.feed-used.ensures.tells in
    λ told. c.loop-end.invariant.same told ∙ c.in_default.ensures.same told
    ∙ after_bytes old.reader new faulted buf p.from p.to used left new.head new.location c.in-Body.first c.in-Body.stop within
    (omega arith) told_step

pub returns-in-Body-clause-part : goal.returns-in-Body-clause-part
returns-in-Body-clause-part g c =
    let old = c.refill.new.self in
    let buf = old.buf.items in
    let new = c.feed-used.new.self in
    let p = old.pending in
    let used = c.feed-used.result.0 in
    let len = length-slice_range buf p.from p.to c.refill.ensures.ready.within in
    let tells = λ (s : Step) (b : List ℕ). Tells s used (slice_range b p.from p.to) new.head new.location (rest old.reader) (rest new) in
    let told_step = at_slice tells c.feed-used.result.1 (step.Body c.in-Body.first c.in-Body.stop) c.as_slice.result.now buf c.in-Body.is
    c.as_slice.ensures.value c.feed-used.ensures.tells in
    let some = told_step.some in
    let inside = told_step.inside in
    (omega arith, omega arith, omega arith)
