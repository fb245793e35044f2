use Rattle.std.proofs.Common.{◌≡◌, List, ℕ}
use Rattle.acng_reach.specs.Reaches.{is_in}
use Rattle.acng_reach.proofs.Tests.{any_step}
use Rattle.acng_reach.proofs.reached.put_beside.Goals as goal

pub loop-i-preserved : goal.loop-i-preserved
loop-i-preserved c = λ q.
    any_step (is_in c.args.folders.now q) c.args.held.now c.loop-i.i c.index-held-i.result c.loop-i-test.true c.index-held-i.is _ _ _
    (c.in_ok-put_if_in.ensures q) (c.loop-i.invariant q)
