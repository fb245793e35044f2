-- The value so far is that of a front of the digits, which is small.
use Rattle.std.proofs.Common.{◌+◌, ◌*◌, ap, ◌∙◌, arith}
use Rattle.acng_base.proofs.Digits.{front_small, front_more}
use Rattle.acng_base.proofs.number.value.Goals as goal

pub overflow_mul-value : goal.overflow_mul-value
overflow_mul-value c =
    let i = c.loop-digit.digit-index in
    let small = front_small c.args.digits.now (i + 1) c.requires.few c.requires.digits in
    let more = front_more c.args.digits.now i c.loop-digit-test.true c.requires.digits in
    omega (arith, c.loop-digit.invariant)

pub overflow_add-value : goal.overflow_add-value
overflow_add-value c =
    let i = c.loop-digit.digit-index in
    let small = front_small c.args.digits.now (i + 1) c.requires.few c.requires.digits in
    let more = front_more c.args.digits.now i c.loop-digit-test.true c.requires.digits in
    omega (arith, c.loop-digit.invariant)

pub loop-digit-preserved : goal.loop-digit-preserved
loop-digit-preserved c =
    let i = c.loop-digit.digit-index in
    let more = front_more c.args.digits.now i c.loop-digit-test.true c.requires.digits in
    ap (λ v. v * 10 + c.from.result) c.loop-digit.invariant ∙ omega (arith, c.from.ensures)
