use Rattle.std.proofs.Common.{◌≡◌, List, ℕ}
use Rattle.acng_reach.specs.Reaches.{is_read}
use Rattle.acng_reach.proofs.Tests.{any_step_alone}
use Rattle.acng_reach.proofs.problems.read_folders.Goals as goal

pub loop-i-preserved : goal.loop-i-preserved
loop-i-preserved c = λ q.
    any_step_alone (is_read q) c.args.list.now c.loop-i.i c.index-list-i.result c.loop-i-test.true c.index-list-i.is _ _
    (c.in_ok-put_if_read.ensures q) (c.loop-i.invariant q)
