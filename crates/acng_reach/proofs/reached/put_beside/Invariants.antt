use Rattle.std.proofs.Common.{◌≡◌, ◌||◌, List, ℕ, take}
use Rattle.std.specs.List.{list_any}
use Rattle.acng_reach.specs.Sets.{among}
use Rattle.acng_reach.specs.Reaches.{is_in}
use Rattle.acng_reach.proofs.reached.put_beside.Given as goal

abbrev pub invariant-loop-i : goal.invariant-loop-i
invariant-loop-i l = (q : List ℕ) → among q l.paths ≡ (list_any (is_in l.folders q) (take l.i l.held) || among q l.fn.paths)
