use Rattle.std.specs.Option.{option_copied}
use Rattle.acng_reach.proofs.Desks.{next_is, held_rise}
use Rattle.acng_reach.proofs.desk.DeskBodies.next_path.Goals as goal

pub returns-clause-next : goal.returns-clause-next
returns-clause-next g c =
    let e = c.next_path.ensures in
    next_is c.args.self.now.plain.rows (option_copied c.args.after) c.next_path.result e.held e.after e.least e.none

pub returns-clause-rises : goal.returns-clause-rises
returns-clause-rises g c = held_rise c.args.self.now.plain.rows
