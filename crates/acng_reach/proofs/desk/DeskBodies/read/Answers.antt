use Rattle.std.proofs.Common.{subst}
use Rattle.acng_rows.specs.Calls.{RowRose}
use Rattle.acng_rows.specs.Rows.{whole_at}
use Rattle.acng_reach.proofs.Desks.{not_held}
use Rattle.acng_reach.proofs.desk.DeskBodies.read.Goals as goal

-- the path is held
pub unreachable-requires : goal.unreachable-requires
unreachable-requires g c =
    let p = c.args.self.now.plain in
    let path = c.args.path.now in
    let cause = subst (λ f. RowRose f (whole_at p.rows path) c.args.self.now.faults c.fetch.new.self.faults) c.in-Err-NotHeld.field-0-is
    c.in-Err-NotHeld.ensures.cause in
    not_held p.rows path c.requires cause
