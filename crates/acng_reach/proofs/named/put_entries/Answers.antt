use Rattle.std.proofs.Common.{◌≡◌, List, ℕ}
use Rattle.acng_reach.specs.Reaches.{named_by_entry}
use Rattle.acng_reach.proofs.Tests.{any_step}
use Rattle.acng_reach.proofs.named.put_entries.Goals as goal

pub loop-i-preserved : goal.loop-i-preserved
loop-i-preserved c =
    let step = c.in_ok-put_entry.ensures in
    record {
      named = λ q is.
          any_step (named_by_entry c.args.folder.now c.args.hash.now.0 c.args.size q) c.args.list.now c.loop-i.i c.index-list-i.result c.loop-i-test.true c.index-list-i.is _ _ _
          (step.named q is) (c.loop-i.invariant.named q is);
      are_paths = λ h. step.are_paths (c.loop-i.invariant.are_paths h);
    }
