-- The words from a place on say what all say, since those before it aren't `close`.
use Rattle.std.proofs.Common.{sym, ◌∙◌, true, false}
use Rattle.acng_request.proofs.FieldLemmas.{close_step, close_last}
use Rattle.acng_request.proofs.field.says_close.Goals as goal

pub loop-len-preserved : goal.loop-len-preserved
loop-len-preserved c =
    let s = close_step c.args.value.now c.loop-len.start c.in-Some.len false c.loop-len.invariant.within (sym c.in-Some.ensures) (sym c.is_close.ensures ∙ c.if-is_close.false) in
    record { within = s.0; same = c.loop-len.invariant.same ∙ s.1 }

pub returns-then-is_close : goal.returns-then-is_close
returns-then-is_close c =
    let s = close_step c.args.value.now c.loop-len.start c.in-Some.len true c.loop-len.invariant.within (sym c.in-Some.ensures) (sym c.is_close.ensures ∙ c.if-is_close.true) in
    sym (c.loop-len.invariant.same ∙ s.1)

pub returns : goal.returns
returns c = sym (c.loop-len.invariant.same ∙ close_last c.args.value.now c.loop-len.start c.is_close-2.result (sym c.in_default.ensures) (sym c.is_close-2.ensures))
