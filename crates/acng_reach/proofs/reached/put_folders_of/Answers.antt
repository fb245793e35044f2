use Rattle.std.proofs.Common.{◌≡◌, List, ℕ}
use Rattle.acng_reach.specs.Reaches.{is_diff_in}
use Rattle.acng_reach.proofs.Tests.{any_step}
use Rattle.acng_reach.proofs.reached.put_folders_of.Goals as goal

pub loop-i-preserved : goal.loop-i-preserved
loop-i-preserved c = λ q.
    any_step (is_diff_in c.args.folder.now q) c.args.list.now c.loop-i.i c.index-list-i.result c.loop-i-test.true c.index-list-i.is _ _ _
    (c.in_ok-put_folder.ensures q) (c.loop-i.invariant q)
