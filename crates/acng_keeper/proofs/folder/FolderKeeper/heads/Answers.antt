use Rattle.std.proofs.Common.{ap, ◌∙◌}
use Rattle.std.specs.FinMap.{from_entries}
use Rattle.std.specs.Ordering.{nat_cmp}
use Rattle.acng_keeper.proofs.Listed.{heads_below}
use Rattle.acng_keeper.proofs.folder.FolderKeeper.heads.Goals as goal

pub returns : goal.returns
returns g c =
    heads_below c.args.self.now.next c.of.result c.in_ok-heads.heads
    (ap (from_entries {R = nat_cmp}) c.of.ensures ∙ c.in_ok-list.ensures.same) c.in_ok-heads.ensures
