use Rattle.std.proofs.Common.{◌≡◌, List, ℕ}
use Rattle.acng_reach.specs.Reaches.{given_by_entry}
use Rattle.acng_reach.proofs.Tests.{any_step}
use Rattle.acng_reach.proofs.reached.put_entries.Goals as goal

pub loop-i-preserved : goal.loop-i-preserved
loop-i-preserved c = λ q.
    any_step (given_by_entry c.args.folder.now q) c.args.list.now c.loop-i.i c.index-list-i.result c.loop-i-test.true c.index-list-i.is _ _ _
    (c.in_ok-put_entry.ensures q) (c.loop-i.invariant q)
