use Rattle.std.proofs.Common.{◌≡◌, ap, sym, ◌∙◌, is_some}
use Rattle.std.specs.Option.{option_map}
use Rattle.std.specs.FinMap as map
use Rattle.acng_rows.specs.Rows.{Rows, Row, whole_in, out_in, bare, stamped_in, whole_at, out_at}
use Rattle.acng_rows.proofs.Points.{got_own}
use Rattle.acng_rows.proofs.Wholes.{twice}
use Rattle.acng_rows.proofs.row_map.PathMap+Row+T.stamp.Goals as goal

pub swap-requires-2 : goal.swap-requires-2
swap-requires-2 g c = ap (λ m. map.contains_key m c.args.path.now) c.swap.ensures.new ∙ ap is_some
    (got_own c.args.self.now c.args.path.now bare)

pub returns : goal.returns
returns g c =
    let rows = c.args.self.now in
    let path = c.args.path.now in
    let row : Row = record { whole = c.stamped-whole.result; out = option_map (λ b. b.value) c.whole.inside.out } in
    let whole : c.stamped-whole.result ≡ stamped_in c.args.stamp (whole_at rows path) =
    c.stamped-whole.ensures ∙ ap (λ (r : Row). stamped_in c.args.stamp r.whole) c.whole.view_is
    ∙ ap (λ o. stamped_in c.args.stamp (whole_in o)) (sym c.swap.ensures.old) in
    let out : row.out ≡ out_at rows path = ap (λ (r : Row). r.out) c.whole.view_is ∙ ap out_in (sym c.swap.ensures.old) in
    let done : Row = record { whole = stamped_in c.args.stamp (whole_at rows path); out = out_at rows path } in
    let same : row ≡ done = λ i. record { whole = whole i; out = out i } in
    c.swap-2.ensures.new ∙ ap (λ (m : Rows). map.insert m path row) c.swap.ensures.new ∙ twice rows path bare row
    ∙ ap (map.insert rows path) same
