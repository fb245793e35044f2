use Rattle.std.proofs.Common.{◌++◌, ◌∙◌, ap, List}
use Rattle.std.specs.Map.{keys_of}
use Rattle.acng_rows.specs.declared.removal.Removal.{Removal}
use Rattle.acng_rows.specs.declared.removal.Removal.TheVariants as removal
use Rattle.acng_rows.specs.Starts.{off}
use Rattle.acng_rows.proofs.Lists.{gone_unnamed, gone_lists}
use Rattle.acng_rows.proofs.find.sorted_out.Goals as goal

pub returns-clause-unnamed : goal.returns-clause-unnamed
returns-clause-unnamed g c =
    gone_unnamed c.args.rows c.in_ok-ids.field-0.ids c.in_ok-ids.ensures.ids (keys_of c.args.heads.now) c.args.bodies.now
    c.in_ok-gone.gone.items
    (c.in_ok-gone.ensures ∙ ap (λ (l : List Removal). l ++ off removal.Body c.in_ok-ids.field-0.ids c.args.bodies.now) c.in_ok-list.ensures)

pub returns-clause-gone : goal.returns-clause-gone
returns-clause-gone g c =
    gone_lists c.args.rows c.in_ok-ids.field-0.ids c.in_ok-ids.ensures.ids (keys_of c.args.heads.now) c.args.bodies.now
    c.in_ok-gone.gone.items
    (c.in_ok-gone.ensures ∙ ap (λ (l : List Removal). l ++ off removal.Body c.in_ok-ids.field-0.ids c.args.bodies.now) c.in_ok-list.ensures)
