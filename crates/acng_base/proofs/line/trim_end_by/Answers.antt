use Rattle.std.proofs.Common.{◌≡◌, ◌-◌, sym, ◌∙◌, arith}
use Rattle.acng_base.proofs.Trims.{end_step, end_stop}
use Rattle.acng_base.proofs.line.trim_end_by.Goals as goal

pub overflow_sub-end : goal.overflow_sub-end
overflow_sub-end g c =
    let step = end_step g.K.Kind.passes c.args.text.now c.loop-end.end c.loop-end.invariant.within (sym c.has_before.ensures ∙ c.loop-end-test.true) in
    omega arith

pub loop-end-preserved : goal.loop-end-preserved
loop-end-preserved g c =
    let step = end_step g.K.Kind.passes c.args.text.now c.loop-end.end c.loop-end.invariant.within (sym c.has_before.ensures ∙ c.loop-end-test.true) in
    record { within = omega arith; same = c.loop-end.invariant.same ∙ step.1 }

pub loop-end-smaller : goal.loop-end-smaller
loop-end-smaller g c =
    let step = end_step g.K.Kind.passes c.args.text.now c.loop-end.end c.loop-end.invariant.within (sym c.has_before.ensures ∙ c.loop-end-test.true) in
    omega arith

pub returns : goal.returns
returns g c =
    let k : c.loop-end.end - 0 ≡ c.loop-end.end = omega arith in
    sym (c.loop-end.invariant.same ∙ end_stop g.K.Kind.passes c.args.text.now c.loop-end.end c.loop-end.invariant.within (sym c.has_before.ensures ∙ c.loop-end-test.false))
