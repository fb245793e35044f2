use Rattle.std.proofs.Common.{ap, sym, ◌∙◌, is_some}
use Rattle.std.specs.Cmp.Lexicographic.{nat_list_cmp_total}
use Rattle.std.specs.FinMap as map
use Rattle.std.specs.FinMap.{nat_cmp-IsAntisymmetric, slice_cmp-IsAntisymmetric}
use Rattle.acng_rows.proofs.Entered.{found, if_map, if_none}
use Rattle.acng_rows.proofs.path_map.PathMap.after.Goals as goal

pub returns-clause-there : goal.returns-clause-there
returns-clause-there g c = if_map _ _ c.next_in.result (λ p has. ap (λ m. map.get m p.0.now) (sym c.self.view_is)
    ∙ sym (found nat_list_cmp_total (slice_cmp-IsAntisymmetric nat_cmp-IsAntisymmetric) c.self.inside.list.entries p.0.now)
    ∙ has) c.next_in.ensures.there

pub returns-clause-least : goal.returns-clause-least
returns-clause-least g c = if_map _ _ c.next_in.result (λ p has q up there. has q up
    (ap is_some (found nat_list_cmp_total (slice_cmp-IsAntisymmetric nat_cmp-IsAntisymmetric) c.self.inside.list.entries q)
    ∙ ap (λ m. map.contains_key m q) c.self.view_is ∙ there)) c.next_in.ensures.least

pub returns-clause-none : goal.returns-clause-none
returns-clause-none g c = if_none _ _ c.next_in.result (λ none q up. ap (λ m. map.get m q) (sym c.self.view_is)
    ∙ sym (found nat_list_cmp_total (slice_cmp-IsAntisymmetric nat_cmp-IsAntisymmetric) c.self.inside.list.entries q)
    ∙ none q up) c.next_in.ensures.none
