use Rattle.std.proofs.Common.{◌≡◌, ap, sym, ◌∙◌, rules, is_some, true, false, Some, None, Option}
use Rattle.std.specs.Option.{option_map}
use Rattle.std.specs.Cmp.Lexicographic.{nat_list_cmp_total}
use Rattle.std.specs.FinMap.{get, insert, from_entries, nat_cmp-IsAntisymmetric, slice_cmp-IsAntisymmetric}
use Rattle.acng_rows.specs.declared.row.Whole.{Whole}
use Rattle.acng_rows.specs.Rows.{Row, whole_in}
use Rattle.acng_rows.proofs.Entered.{entered, found}
use Rattle.acng_rows.proofs.row_map.PathMap+Row+T.set_out.Goals as goal

pub unreachable-requires : goal.unreachable-requires
unreachable-requires g c =
    let e : get c.args.self.now c.args.path.now ≡ None = ap (λ m. get m c.args.path.now) (sym c.self.view_is)
    ∙ sym (found nat_list_cmp_total (slice_cmp-IsAntisymmetric nat_cmp-IsAntisymmetric) c.self.inside.list.entries c.args.path.now)
    ∙ sym c.in-None.ensures.value in
    let f : false ≡ true = sym (ap is_some e) ∙ c.requires in
    cc

pub returns : goal.returns
returns g c =
    let out = option_map (λ b. b.value) c.args.out in
    let w0 : Row = record { whole = c.row.inside.whole; out = out } in
    let e : get c.args.self.now c.args.path.now ≡ Some c.in-Some.row.now = ap (λ m. get m c.args.path.now) (sym c.self.view_is)
    ∙ sym (found nat_list_cmp_total (slice_cmp-IsAntisymmetric nat_cmp-IsAntisymmetric) c.self.inside.list.entries c.args.path.now)
    ∙ sym c.in-Some.ensures.value in
    let same : c.row.inside.whole ≡ whole_in (get c.args.self.now c.args.path.now) = ap (λ (r : Row). r.whole) c.row.view_is
    ∙ sym (ap whole_in e) in
    entered nat_list_cmp_total (slice_cmp-IsAntisymmetric nat_cmp-IsAntisymmetric) c.self.inside.list.entries
    (c.get_mut.follows.lender w0).entries c.args.path.now w0 ((c.get_mut.follows.holds w0).3 (search rules)).0
    ∙ ap (λ (w : Option Whole). let r : Row = record { whole = w; out = out } in insert
    (from_entries c.self.inside.list.entries) c.args.path.now r) same
    ∙ ap (λ m. let r : Row = record { whole = whole_in (get c.args.self.now c.args.path.now); out = out } in insert m c.args.path.now r)
    c.self.view_is
