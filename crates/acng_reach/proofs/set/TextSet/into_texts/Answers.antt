use Rattle.std.proofs.Common.{◌≡◌, ◌∙◌, ◌++◌, List, ℕ, ap, subst, map}
use Rattle.acng_reach.specs.Sets.{Rises}
use Rattle.acng_reach.proofs.Sets.{rise}
use Rattle.acng_reach.proofs.set.TextSet.into_texts.Goals as goal

pub loop-text-init : goal.loop-text-init
loop-text-init c = record {
  same = ap (λ (t : List (List ℕ)). t ++ map (λ v. v.items) c.self.inside.items.keys) c.new-texts.ensures ∙ c.self.view_is;
  rises = subst Rises c.self.view_is (rise (λ v. v.items) c.self.inside.items.keys c.len-count.ensures.ordered);
}
