use Rattle.std.proofs.Common.{ap, sym, ◌∙◌, is_some}
use Rattle.std.specs.Cmp.Lexicographic.{nat_list_cmp_total}
use Rattle.std.specs.FinMap as map
use Rattle.std.specs.FinMap.{nat_cmp-IsAntisymmetric, slice_cmp-IsAntisymmetric}
use Rattle.acng_rows.proofs.Entered.{found, if_map}
use Rattle.acng_rows.proofs.path_map.PathMap.first.Goals as goal

pub returns-clause-there : goal.returns-clause-there
returns-clause-there g c = if_map _ _ c.first_in.result (λ p has. ap (λ m. map.get m p.0.now) (sym c.self.view_is)
    ∙ sym (found nat_list_cmp_total (slice_cmp-IsAntisymmetric nat_cmp-IsAntisymmetric) c.self.inside.list.entries p.0.now)
    ∙ has) c.first_in.ensures.there

pub returns-clause-least : goal.returns-clause-least
returns-clause-least g c = if_map _ _ c.first_in.result (λ p has q there. has q
    (ap is_some (found nat_list_cmp_total (slice_cmp-IsAntisymmetric nat_cmp-IsAntisymmetric) c.self.inside.list.entries q)
    ∙ ap (λ m. map.contains_key m q) c.self.view_is ∙ there)) c.first_in.ensures.least
