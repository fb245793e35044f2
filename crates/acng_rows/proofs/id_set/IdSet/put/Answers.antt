use Rattle.std.proofs.Common.{ap, ◌∙◌}
use Rattle.std.specs.Cmp.{nat_cmp_total}
use Rattle.std.specs.FinMap.{insert, nat_cmp-IsAntisymmetric}
use Rattle.acng_rows.proofs.Entered.{entered}
use Rattle.acng_rows.proofs.id_set.IdSet.put.Goals as goal

pub returns-clause-ok : goal.returns-clause-ok
returns-clause-ok c = entered nat_cmp_total nat_cmp-IsAntisymmetric c.self.inside.list.entries c.insert.new.self.entries c.args.id tt
    c.in-Ok.ensures.updates.0 ∙ ap (λ m. insert m c.args.id tt) c.self.view_is
