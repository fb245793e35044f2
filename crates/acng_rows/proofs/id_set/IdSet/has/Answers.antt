use Rattle.std.proofs.Common.{ap, ◌∙◌, is_some}
use Rattle.std.specs.Cmp.{nat_cmp_total}
use Rattle.std.specs.FinMap.{contains_key, nat_cmp-IsAntisymmetric}
use Rattle.acng_rows.proofs.Entered.{found, opened}
use Rattle.acng_rows.proofs.id_set.IdSet.has.Goals as goal

pub returns : goal.returns
returns c = c.is_some.ensures ∙ opened c.get.result ∙ ap is_some c.get.ensures.value ∙ ap is_some
    (found nat_cmp_total nat_cmp-IsAntisymmetric c.self.inside.list.entries c.args.id) ∙ ap (λ m. contains_key m c.args.id) c.self.view_is
