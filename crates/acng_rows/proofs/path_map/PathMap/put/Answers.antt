use Rattle.std.proofs.Common.{ap, sym, ◌∙◌}
use Rattle.std.specs.Cmp.Lexicographic.{nat_list_cmp_total}
use Rattle.std.specs.FinMap.{get, insert, nat_cmp-IsAntisymmetric, slice_cmp-IsAntisymmetric}
use Rattle.acng_rows.proofs.Entered.{entered, found}
use Rattle.acng_rows.proofs.path_map.PathMap.put.Goals as goal

pub returns-clause-ok : goal.returns-clause-ok
returns-clause-ok g c = entered nat_list_cmp_total (slice_cmp-IsAntisymmetric nat_cmp-IsAntisymmetric) c.self.inside.list.entries
    c.insert.new.self.entries c.args.path c.args.value c.in-Ok.ensures.updates.0
    ∙ ap (λ m. insert m c.args.path c.args.value) c.self.view_is

pub returns-in_default-clause-absent : goal.returns-in_default-clause-absent
returns-in_default-clause-absent g c = ap (λ m. get m c.args.path) (sym c.self.view_is)
    ∙ sym (found nat_list_cmp_total (slice_cmp-IsAntisymmetric nat_cmp-IsAntisymmetric) c.self.inside.list.entries c.args.path)
    ∙ c.in_default.ensures.absent
