use Rattle.std.proofs.Common.{sym, subst}
use Rattle.acng_keeper.specs.Lists.{AllBelow}
use Rattle.acng_keeper.proofs.Listed.{ids_below}
use Rattle.acng_keeper.proofs.folder.FolderKeeper.bodies.Goals as goal

pub returns : goal.returns
returns g c =
    subst (AllBelow c.args.self.now.next) (sym c.of.ensures)
    (ids_below c.args.self.now.next c.in_ok-bodies.bodies c.in_ok-list.list.items c.in_ok-list.ensures.same c.in_ok-bodies.ensures)
