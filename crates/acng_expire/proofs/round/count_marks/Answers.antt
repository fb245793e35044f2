use Rattle.std.proofs.Common.{arith}
use Rattle.acng_expire.specs.Rounds.{is_marked_at}
use Rattle.acng_expire.proofs.Sweeps.{many_step}
use Rattle.acng_expire.proofs.round.count_marks.Goals as goal

pub loop-i-preserved : goal.loop-i-preserved
loop-i-preserved g c =
    let n = many_step (is_marked_at c.args.desk.now.plain) c.args.paths.now c.loop-i.i c.index-paths-i.result c.loop-i-test.true
    c.index-paths-i.is in
    record { few = omega arith; count = omega (arith, n) }
