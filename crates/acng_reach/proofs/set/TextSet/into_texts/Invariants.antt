use Rattle.std.proofs.Common.{◌≡◌, ◌++◌, length, map}
use Rattle.acng_reach.specs.Sets.{Rises}
use Rattle.acng_reach.proofs.set.TextSet.into_texts.Given as goal

abbrev pub invariant-loop-text : goal.invariant-loop-text
invariant-loop-text l = record {
  same : l.texts ++ map (λ v. v.items) l.items.keys ≡ l.fn.self;
  rises : Rises l.fn.self;
}

abbrev pub decreases-loop-text : goal.decreases-loop-text
decreases-loop-text l = length l.items.keys
