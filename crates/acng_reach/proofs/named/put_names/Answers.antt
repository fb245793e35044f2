use Rattle.std.proofs.Common.{◌≡◌, List, ℕ}
use Rattle.acng_reach.specs.Reaches.{names_file}
use Rattle.acng_reach.proofs.Tests.{any_step}
use Rattle.acng_reach.proofs.named.put_names.Goals as goal

pub loop-i-preserved : goal.loop-i-preserved
loop-i-preserved c =
    let step = c.in_ok-put_name.ensures in
    record {
      named = λ q is.
          any_step (names_file c.args.base.now c.args.hash.now.0 c.args.size q) c.args.names.now c.loop-i.i c.index-names-i.result c.loop-i-test.true c.index-names-i.is _ _ _
          (step.named q is) (c.loop-i.invariant.named q is);
      are_paths = λ h. step.are_paths (c.loop-i.invariant.are_paths h);
    }
