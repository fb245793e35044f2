use Rattle.std.proofs.Common.{◌≡◌, ◌∙◌, ap, is_some}
use Rattle.acng_reach.proofs.Desks.{told_held}
use Rattle.acng_reach.proofs.desk.DeskBodies.holds.Goals as goal

pub returns : goal.returns
returns g c = c.is_some.ensures ∙ ap is_some c.row.ensures ∙ told_held c.args.self.now.plain.rows c.args.path.now
