use Rattle.std.proofs.Common.{sym, subst}
use Rattle.acng_keeper.specs.Lists.{ListsBodies}
use Rattle.acng_keeper.proofs.Listed.{bodies_below}
use Rattle.acng_keeper.proofs.memory.MemoryKeeperKeeper.list_bodies.Goals as goal

pub returns-clause-below : goal.returns-clause-below
returns-clause-below c =
    bodies_below c.args.self.now.next c.args.self.now.bodies c.args.self.now.loose c.of.result
    (subst (ListsBodies c.args.self.now.bodies c.args.self.now.loose)
    (sym c.of.ensures) c.in_ok-list.ensures.listed) c.args.self.now.bodies_below c.args.self.now.loose_below
