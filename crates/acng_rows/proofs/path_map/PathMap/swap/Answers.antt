use Rattle.std.proofs.Common.{◌≡◌, ap, sym, ◌∙◌, rules, is_some, true, false, Some, None}
use Rattle.std.specs.Cmp.Lexicographic.{nat_list_cmp_total}
use Rattle.std.specs.FinMap.{get, insert, nat_cmp-IsAntisymmetric, slice_cmp-IsAntisymmetric}
use Rattle.acng_rows.proofs.Entered.{entered, found}
use Rattle.acng_rows.proofs.path_map.PathMap.swap.Goals as goal

pub unreachable-requires : goal.unreachable-requires
unreachable-requires g c =
    let e : get c.args.self.now c.args.path.now ≡ None = ap (λ m. get m c.args.path.now) (sym c.self.view_is)
    ∙ sym (found nat_list_cmp_total (slice_cmp-IsAntisymmetric nat_cmp-IsAntisymmetric) c.self.inside.list.entries c.args.path.now)
    ∙ sym c.in-None.ensures.value in
    let f : false ≡ true = sym (ap is_some e) ∙ c.requires in
    cc

pub returns-clause-new : goal.returns-clause-new
returns-clause-new g c =
    entered nat_list_cmp_total (slice_cmp-IsAntisymmetric nat_cmp-IsAntisymmetric) c.self.inside.list.entries
    (c.get_mut.follows.lender c.replace.new.dest).entries c.args.path.now c.replace.new.dest
    ((c.get_mut.follows.holds c.replace.new.dest).3 (search rules)).0
    ∙ ap (insert _ c.args.path.now) c.replace.ensures.after ∙ ap (λ m. insert m c.args.path.now c.args.value) c.self.view_is

pub returns-clause-old : goal.returns-clause-old
returns-clause-old g c = ap (λ m. get m c.args.path.now) (sym c.self.view_is)
    ∙ sym (found nat_list_cmp_total (slice_cmp-IsAntisymmetric nat_cmp-IsAntisymmetric) c.self.inside.list.entries c.args.path.now)
    ∙ sym c.in-Some.ensures.value ∙ ap Some (sym c.replace.ensures.value)
