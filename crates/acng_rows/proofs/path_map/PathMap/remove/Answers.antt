use Rattle.std.proofs.Common.{ap, ◌∙◌}
use Rattle.std.specs.Cmp.Lexicographic.{nat_list_cmp_total}
use Rattle.std.specs.FinMap.{get, remove, nat_cmp-IsAntisymmetric, slice_cmp-IsAntisymmetric}
use Rattle.acng_rows.proofs.Entered.{removed, found}
use Rattle.acng_rows.proofs.path_map.PathMap.remove.Goals as goal

pub returns-clause-removed : goal.returns-clause-removed
returns-clause-removed g c = removed nat_list_cmp_total (slice_cmp-IsAntisymmetric nat_cmp-IsAntisymmetric) c.self.inside.list.entries
    c.remove.new.self.entries c.args.path.now c.remove.ensures.updates.0 ∙ ap (λ m. remove m c.args.path.now) c.self.view_is

pub returns-clause-value : goal.returns-clause-value
returns-clause-value g c = c.remove.ensures.value ∙ found nat_list_cmp_total (slice_cmp-IsAntisymmetric nat_cmp-IsAntisymmetric)
    c.self.inside.list.entries c.args.path.now ∙ ap (λ m. get m c.args.path.now) c.self.view_is
