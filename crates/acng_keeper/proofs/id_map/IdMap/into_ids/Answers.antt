use Rattle.std.proofs.Common.{◌∙◌, ap, ◌==◌}
use Rattle.std.specs.List.{list_any}
use Rattle.std.specs.FinMap.{contains_key}
use Rattle.acng_keeper.proofs.Listed.{list_any-keys}
use Rattle.acng_keeper.proofs.id_map.IdMap.into_ids.Goals as goal

pub returns-clause-same : goal.returns-clause-same
returns-clause-same g c = λ id.
    ap (λ ids. list_any (λ i. id == i) ids) c.in_ok-ids.ensures.same ∙ list_any-keys c.self.inside.rows.entries id
    ∙ ap (λ m. contains_key m id) c.self.view_is
