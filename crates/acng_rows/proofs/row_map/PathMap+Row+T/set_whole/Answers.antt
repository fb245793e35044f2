use Rattle.std.proofs.Common.{◌≡◌, ap, sym, ◌∙◌, rules, is_some, true, false, Some, None, Option}
use Rattle.std.specs.Option.{option_map}
use Rattle.std.specs.Cmp.Lexicographic.{nat_list_cmp_total}
use Rattle.std.specs.FinMap.{get, insert, from_entries, nat_cmp-IsAntisymmetric, slice_cmp-IsAntisymmetric}
use Rattle.acng_rows.specs.Rows.{Row, Load, out_in}
use Rattle.acng_rows.proofs.Entered.{entered, found}
use Rattle.acng_rows.proofs.row_map.PathMap+Row+T.set_whole.Goals as goal

pub unreachable-requires : goal.unreachable-requires
unreachable-requires g c =
    let e : get c.args.self.now c.args.path.now ≡ None = ap (λ m. get m c.args.path.now) (sym c.self.view_is)
    ∙ sym (found nat_list_cmp_total (slice_cmp-IsAntisymmetric nat_cmp-IsAntisymmetric) c.self.inside.list.entries c.args.path.now)
    ∙ sym c.in-None.ensures.value in
    let f : false ≡ true = sym (ap is_some e) ∙ c.requires in
    cc

pub returns : goal.returns
returns g c =
    let out = option_map (λ b. b.value) c.row.inside.out in
    let w0 : Row = record { whole = c.args.whole; out = out } in
    let e : get c.args.self.now c.args.path.now ≡ Some c.in-Some.row.now = ap (λ m. get m c.args.path.now) (sym c.self.view_is)
    ∙ sym (found nat_list_cmp_total (slice_cmp-IsAntisymmetric nat_cmp-IsAntisymmetric) c.self.inside.list.entries c.args.path.now)
    ∙ sym c.in-Some.ensures.value in
    let same : out ≡ out_in (get c.args.self.now c.args.path.now) = ap (λ (r : Row). r.out) c.row.view_is ∙ sym (ap out_in e) in
    entered nat_list_cmp_total (slice_cmp-IsAntisymmetric nat_cmp-IsAntisymmetric) c.self.inside.list.entries
    (c.get_mut.follows.lender w0).entries c.args.path.now w0 ((c.get_mut.follows.holds w0).3 (search rules)).0
    ∙ ap (λ (o : Option Load). let r : Row = record { whole = c.args.whole; out = o } in insert
    (from_entries c.self.inside.list.entries) c.args.path.now r) same
    ∙ ap (λ m. let r : Row = record { whole = c.args.whole; out = out_in (get c.args.self.now c.args.path.now) } in insert m
    c.args.path.now r) c.self.view_is
