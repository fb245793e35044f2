use Rattle.std.proofs.Common.{◌≡◌, true, map, take}
use Rattle.acng_reach.specs.Caches.{listed_by}
use Rattle.acng_reach.proofs.find.list_of.Given as goal

abbrev pub invariant-loop-i : goal.invariant-loop-i
invariant-loop-i g l = record {
  items : g.B.Bodies.tells ≡ true → l.items.items ≡ map (listed_by (g.B.Bodies.cache l.fn.bodies) l.folder) (take l.i l.entries);
  same : g.B.Bodies.cache l.bodies ≡ g.B.Bodies.cache l.fn.bodies;
  rests : g.B.Bodies.rest l.bodies ≡ g.B.Bodies.rest l.fn.bodies;
}
