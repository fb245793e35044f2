use Rattle.std.proofs.Common.{◌≡◌, ◌+◌, ◌-◌, ◌<◌, ◌∙◌, true, ap, sym, subst, arith, length}
use Rattle.std.specs.List.{slice_get}
use Rattle.acng_import.specs.Puts.{PutAs, NextAs, HasArrived}
use Rattle.acng_import.proofs.Entering.{begins, goes_on, arrives, got_at, is_got}
use Rattle.acng_import.proofs.Stepping.{among_place, entered_both}
use Rattle.acng_import.proofs.put.put_all.Goals as goal

pub loop-i-init : goal.loop-i-init
loop-i-init g c =
    let a = c.args.arrival in
    let ws = c.args.wanted.now in
    let x = c.index-wanted-0.result in
    let p = c.args.desk.now.plain in
    let q = c.put_at.new.desk.plain in
    let put : PutAs true a x c.args.id.0 p q = subst (λ b. PutAs b a x c.args.id.0 p q) c.in-Ok-true.field-0-test c.in-Ok-true.ensures.put in
    record {
      some = omega arith;
      did = begins a ws x c.requires.some c.index-wanted-0.is c.args.id.0 p q put;
      arrived = λ path is.
          subst (HasArrived a q.rows) (is_got ws 0 x path c.requires.some c.index-wanted-0.is is) (arrives a x c.args.id.0 p q put);
      only = λ may have. c.in-Ok-true.ensures.only may (have.each x (among_place ws 0 x c.requires.some c.index-wanted-0.is));
      may = c.in-Ok-true.ensures.may;
    }

pub put_next-requires-clause-held : goal.put_next-requires-clause-held
put_next-requires-clause-held g c =
    let s = c.loop-i in
    s.invariant.arrived c.index-wanted-i.result
    (got_at c.args.wanted.now (s.i - 1) c.index-wanted-i.result
    (let lt : s.i < length c.args.wanted.now = c.loop-i-test.true in let one = s.invariant.some in omega (arith, lt, one)) c.index-wanted-i.is)

pub loop-i-preserved : goal.loop-i-preserved
loop-i-preserved g c =
    let s = c.loop-i in
    let i = s.i in
    let a = c.args.arrival in
    let ws = c.args.wanted.now in
    let x = c.index-wanted-i-in-loop-i.result in
    let p = s.desk.plain in
    let q = c.put_next.new.desk.plain in
    let now = c.in-Ok-true-put_next in
    let lt = c.loop-i-test.true in
    let is = c.index-wanted-i-in-loop-i.is in
    let put : NextAs true a x p q = subst (λ b. NextAs b a x p q) now.field-0-test now.ensures.put in
    record {
      some = omega arith;
      did = goes_on a ws i x lt is p q _ s.invariant.did put;
      arrived = λ path at.
          let same : i + 1 - 1 ≡ i = omega arith in
          subst (HasArrived a q.rows) (is_got ws i x path lt is (ap (slice_get ws) (sym same) ∙ at)) (arrives a x p.next_id _ q put.put_as);
      only = λ may have. entered_both (s.invariant.only may have) (now.ensures.only may (have.each x (among_place ws i x lt is)));
      may = now.ensures.may ∙ s.invariant.may;
    }
