use Rattle.std.proofs.Common.{◌≡◌, ◌+◌, ◌-◌, true, false, sym, ap, ◌∙◌, take, drop, arith}
use Rattle.acng_base.specs.Paths.{is_bad_segment}
use Rattle.acng_base.proofs.Ranges.{rest_is_drop}
use Rattle.acng_base.proofs.Segments.{step, bad, good, last_good}
use Rattle.acng_base.proofs.path.bad_segment.Goals as goal

pub returns-then-names_nothing : goal.returns-then-names_nothing
returns-then-names_nothing c =
    let k : (c.loop-len.start + c.in-Some.len) - c.loop-len.start ≡ c.in-Some.len = omega arith in
    let is : is_bad_segment (take c.in-Some.len (drop c.loop-len.start c.args.text.now)) ≡ true =
    ap (λ j. is_bad_segment (take j (drop c.loop-len.start c.args.text.now))) (sym k) ∙ sym c.names_nothing.ensures ∙ c.if-names_nothing.true in
    sym (c.loop-len.invariant.same ∙ bad c.args.text.now c.loop-len.start c.in-Some.len c.loop-len.invariant.within (sym c.in-Some.ensures) is)

pub loop-len-preserved : goal.loop-len-preserved
loop-len-preserved c =
    let s = step c.args.text.now c.loop-len.start c.in-Some.len c.loop-len.invariant.within (sym c.in-Some.ensures) in
    let k : (c.loop-len.start + c.in-Some.len) - c.loop-len.start ≡ c.in-Some.len = omega arith in
    let is : is_bad_segment (take c.in-Some.len (drop c.loop-len.start c.args.text.now)) ≡ false =
    ap (λ j. is_bad_segment (take j (drop c.loop-len.start c.args.text.now))) (sym k) ∙ sym c.names_nothing.ensures ∙ c.if-names_nothing.false in
    record { within = s.0; same = c.loop-len.invariant.same ∙ good c.args.text.now c.loop-len.start c.in-Some.len c.loop-len.invariant.within (sym c.in-Some.ensures) is }

pub returns-else-names_nothing-2 : goal.returns-else-names_nothing-2
returns-else-names_nothing-2 c =
    let is : is_bad_segment (drop c.loop-len.start c.args.text.now) ≡ false =
    ap is_bad_segment (sym (rest_is_drop c.loop-len.start c.args.text.now)) ∙ sym c.names_nothing-2.ensures ∙ c.if-names_nothing-2.false in
    sym (c.loop-len.invariant.same ∙ last_good c.args.text.now c.loop-len.start (sym c.in_default.ensures) is)
