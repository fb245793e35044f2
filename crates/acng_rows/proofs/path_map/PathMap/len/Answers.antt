use Rattle.std.proofs.Common.{ap, sym, ◌∙◌}
use Rattle.std.specs.Cmp.Lexicographic.{nat_list_cmp_total}
use Rattle.std.specs.FinMap.{len, nat_cmp-IsAntisymmetric, slice_cmp-IsAntisymmetric}
use Rattle.acng_rows.proofs.Entered.{len-entries}
use Rattle.acng_rows.proofs.path_map.PathMap.len.Goals as goal

pub returns-clause-len : goal.returns-clause-len
returns-clause-len g c = c.len.ensures.len ∙ sym (len-entries nat_list_cmp_total
    (slice_cmp-IsAntisymmetric nat_cmp-IsAntisymmetric) c.self.inside.list.entries c.len.ensures.ordered) ∙ ap len c.self.view_is
