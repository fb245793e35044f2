use Rattle.std.proofs.Common.{◌≡◌, ◌∙◌, List, ℕ, subst, ap}
use Rattle.acng_reach.specs.Sets.{among}
use Rattle.acng_reach.proofs.Sets.{among_keys}
use Rattle.acng_reach.proofs.set.TextSet.has.Goals as goal

pub returns : goal.returns
returns c =
    c.contains.ensures ∙ among_keys (λ v. v.items) c.args.text.now c.self.inside.items.keys
    ∙ ap (among c.args.text.now) c.self.view_is
