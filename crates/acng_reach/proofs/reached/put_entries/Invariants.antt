use Rattle.std.proofs.Common.{◌≡◌, ◌||◌, List, ℕ, take}
use Rattle.std.specs.List.{list_any}
use Rattle.acng_reach.specs.Sets.{among}
use Rattle.acng_reach.specs.Reaches.{given_by_entry}
use Rattle.acng_reach.proofs.reached.put_entries.Given as goal

abbrev pub invariant-loop-i : goal.invariant-loop-i
invariant-loop-i l = (q : List ℕ) → among q l.paths ≡ (list_any (given_by_entry l.folder q) (take l.i l.list) || among q l.fn.paths)
