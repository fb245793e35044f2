use Rattle.std.proofs.Common.{ap, ◌∙◌}
use Rattle.std.specs.FinMap.{from_entries}
use Rattle.std.specs.Ordering.{nat_cmp}
use Rattle.acng_keeper.proofs.Listed.{heads_below}
use Rattle.acng_keeper.proofs.memory.MemoryKeeperKeeper.list_heads.Goals as goal

pub returns-clause-below : goal.returns-clause-below
returns-clause-below c =
    heads_below c.args.self.now.next c.of.result c.args.self.now.heads
    (ap (from_entries {R = nat_cmp}) c.of.ensures ∙ c.in_ok-list.ensures.same) c.args.self.now.heads_below
