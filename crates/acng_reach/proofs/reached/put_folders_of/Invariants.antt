use Rattle.std.proofs.Common.{◌≡◌, ◌||◌, List, ℕ, take}
use Rattle.std.specs.List.{list_any}
use Rattle.acng_reach.specs.Sets.{among}
use Rattle.acng_reach.specs.Reaches.{is_diff_in}
use Rattle.acng_reach.proofs.reached.put_folders_of.Given as goal

abbrev pub invariant-loop-i : goal.invariant-loop-i
invariant-loop-i l = (f : List ℕ) → among f l.folders ≡ (list_any (is_diff_in l.folder f) (take l.i l.list) || among f l.fn.folders)
