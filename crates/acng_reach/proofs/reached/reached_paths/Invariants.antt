use Rattle.std.proofs.Common.{◌≡◌, List, ℕ, take}
use Rattle.std.specs.List.{list_any}
use Rattle.acng_reach.specs.Sets.{among}
use Rattle.acng_reach.specs.Reaches.{given_by, has_folder}
use Rattle.acng_reach.proofs.reached.reached_paths.Given as goal

abbrev pub invariant-loop-i : goal.invariant-loop-i
invariant-loop-i l = record {
  paths : (q : List ℕ) → among q l.paths ≡ list_any (given_by q) (take l.i l.indexes);
  folders : (f : List ℕ) → among f l.folders ≡ list_any (has_folder f) (take l.i l.indexes);
}
