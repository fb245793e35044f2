use Rattle.std.proofs.Common.{◌≡◌, ◌∙◌, ◌||◌, List, ℕ, subst, ap, map}
use Rattle.acng_reach.specs.Sets.{same, among}
use Rattle.acng_reach.proofs.Sets.{among_put}
use Rattle.acng_reach.proofs.set.TextSet.put.Goals as goal

pub returns : goal.returns
returns c = λ q.
    ap (λ ks. among q (map (λ v. v.items) ks)) c.in-Ok.ensures.keys
    ∙ among_put (λ v. v.items) q c.args.text c.self.inside.items.keys
    ∙ ap (λ s. same q c.args.text.items || among q s) c.self.view_is
