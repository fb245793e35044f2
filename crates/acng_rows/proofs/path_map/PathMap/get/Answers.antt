use Rattle.std.proofs.Common.{ap, ◌∙◌}
use Rattle.std.specs.Cmp.Lexicographic.{nat_list_cmp_total}
use Rattle.std.specs.FinMap.{get, nat_cmp-IsAntisymmetric, slice_cmp-IsAntisymmetric}
use Rattle.acng_rows.proofs.Entered.{found}
use Rattle.acng_rows.proofs.path_map.PathMap.get.Goals as goal

pub returns : goal.returns
returns g c = c.get.ensures.value ∙ found nat_list_cmp_total (slice_cmp-IsAntisymmetric nat_cmp-IsAntisymmetric)
    c.self.inside.list.entries c.args.path.now ∙ ap (λ m. get m c.args.path.now) c.self.view_is
