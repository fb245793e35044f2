use Rattle.std.proofs.Common.{◌≡◌, length}
use Rattle.acng_reach.proofs.Bases.{above}
use Rattle.acng_reach.proofs.name.base_of.Given as goal

abbrev pub invariant-loop-at : goal.invariant-loop-at
invariant-loop-at l = above l.fn.folder ≡ above l.rest

abbrev pub decreases-loop-at : goal.decreases-loop-at
decreases-loop-at l = length l.rest
