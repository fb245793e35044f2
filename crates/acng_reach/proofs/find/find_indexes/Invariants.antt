use Rattle.std.proofs.Common.{◌≡◌, true, take}
use Rattle.std.specs.List.{flat_map}
use Rattle.acng_reach.specs.Caches.{found_at}
use Rattle.acng_reach.proofs.find.find_indexes.Given as goal

abbrev pub invariant-loop-i : goal.invariant-loop-i
invariant-loop-i g l = record {
  found : g.B.Bodies.tells ≡ true → l.found.items ≡ flat_map (found_at (g.B.Bodies.cache l.fn.bodies)) (take l.i l.held);
  same : g.B.Bodies.cache l.bodies ≡ g.B.Bodies.cache l.fn.bodies;
  rests : g.B.Bodies.rest l.bodies ≡ g.B.Bodies.rest l.fn.bodies;
}
