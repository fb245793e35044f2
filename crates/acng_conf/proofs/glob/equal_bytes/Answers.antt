use Rattle.std.proofs.Common.{◌<◌, ◌∙◌, length, arith}
use Rattle.acng_conf.proofs.Globs.{same_byte, later_byte}
use Rattle.acng_conf.proofs.glob.equal_bytes.Goals as goal

pub loop-i-preserved : goal.loop-i-preserved
loop-i-preserved c =
    let pattern = c.args.pattern.now in
    let name = c.args.name.now in
    let i = c.loop-i.i in
    let in_name : i < length name = omega arith in
    record {
      within = omega arith;
      same = c.loop-i.invariant.same ∙ same_byte pattern name i c.loop-i-test.true in_name c.if-pattern-i-eq42.false c.if-pattern-i.false;
      later = λ h. later_byte pattern name i c.loop-i-test.true c.if-pattern-i-eq42.false (c.loop-i.invariant.later h);
    }
