use Rattle.std.proofs.Common.{ap, sym, ◌∙◌}
use Rattle.acng_rows.specs.Rows.{Row, whole_in}
use Rattle.acng_desk.proofs.desk.Desk.old_file.Goals as goal

pub old_of-requires : goal.old_of-requires
old_of-requires g c =
    let at = ap whole_in (sym c.in_ok-row.ensures) ∙ ap (λ (r : Row). r.whole) (sym c.row.view_is) ∙ c.in-Some.is in
    (c.self.invariant.plain.heads.each _ _ at).typed.tag
