use Rattle.std.proofs.Common.{◌≡◌, ◌++◌, [], sym, ap, ◌∙◌, append-nil}
use Rattle.std.specs.List.{filter_map}
use Rattle.std.proofs.lemmas.List.{nil_from_length}
use Rattle.std.specs.Vec.Iter.{into_iter_items}
use Rattle.acng_report.specs.Desks.{line_at}
use Rattle.acng_report.proofs.Helds.{told_held}
use Rattle.acng_report.proofs.rows.lines_of.Goals as goal

pub returns : goal.returns
returns g c =
    let plain = c.args.desk.now.plain in
    let lines = c.loop-path.lines.items in
    let paths = into_iter_items c.loop-path.path-iterator in
    let none : paths ≡ [] = nil_from_length paths (sym c.loop-path.invariant.count ∙ c.in-None.ensures.steps.0) in
    sym (append-nil lines) ∙ ap (λ ps. lines ++ filter_map (line_at plain) ps) (sym none) ∙ c.loop-path.invariant.same
    ∙ told_held plain
