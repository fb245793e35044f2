use Rattle.std.proofs.Common.{◌≡◌, ◌-◌, length, take}
use Rattle.acng_reach.specs.Bodies.{ArePaths}
use Rattle.acng_reach.proofs.bodies.held_paths.Given as goal

abbrev pub invariant-loop-path : goal.invariant-loop-path
invariant-loop-path g l = record {
  front : l.paths.items ≡ take (length l.paths.items) (g.B.Bodies.cache l.bodies).paths;
  are_paths : ArePaths l.paths.items;
}

abbrev pub decreases-loop-path : goal.decreases-loop-path
decreases-loop-path g l = length (g.B.Bodies.cache l.bodies).paths - length l.paths.items
