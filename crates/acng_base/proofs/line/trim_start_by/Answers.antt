use Rattle.std.proofs.Common.{sym, ◌∙◌, arith}
use Rattle.acng_base.proofs.Ranges.{rest_is_drop}
use Rattle.acng_base.proofs.Trims.{front_step, front_stop}
use Rattle.acng_base.proofs.line.trim_start_by.Goals as goal

pub overflow_add-start : goal.overflow_add-start
overflow_add-start g c =
    let step = front_step g.K.Kind.passes c.args.text.now c.loop-start.start (sym c.has_at.ensures ∙ c.loop-start-test.true) in
    omega arith

pub loop-start-preserved : goal.loop-start-preserved
loop-start-preserved g c =
    let step = front_step g.K.Kind.passes c.args.text.now c.loop-start.start (sym c.has_at.ensures ∙ c.loop-start-test.true) in
    record { within = omega arith; same = c.loop-start.invariant.same ∙ step.1 }

pub loop-start-smaller : goal.loop-start-smaller
loop-start-smaller g c =
    let step = front_step g.K.Kind.passes c.args.text.now c.loop-start.start (sym c.has_at.ensures ∙ c.loop-start-test.true) in
    omega arith

pub returns : goal.returns
returns g c =
    rest_is_drop c.loop-start.start c.args.text.now
    ∙ sym (c.loop-start.invariant.same ∙ front_stop g.K.Kind.passes c.args.text.now c.loop-start.start c.loop-start.invariant.within (sym c.has_at.ensures ∙ c.loop-start-test.false))
