use Rattle.std.proofs.Common.{◌≡◌, ◌||◌, List, ℕ, take}
use Rattle.std.specs.List.{list_any}
use Rattle.acng_reach.specs.Paths.{IsPath}
use Rattle.acng_reach.specs.Sets.{among}
use Rattle.acng_reach.specs.Bodies.{ArePaths}
use Rattle.acng_reach.specs.Reaches.{names_file}
use Rattle.acng_reach.proofs.named.put_names.Given as goal

abbrev pub invariant-loop-i : goal.invariant-loop-i
invariant-loop-i l = record {
  named : (q : List ℕ) → IsPath q → among q l.paths ≡ (list_any (names_file l.base l.hash.0 l.size q) (take l.i l.names) || among q l.fn.paths);
  are_paths : ArePaths l.fn.paths → ArePaths l.paths;
}
