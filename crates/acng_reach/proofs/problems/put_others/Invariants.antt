use Rattle.std.proofs.Common.{◌≡◌, ◌||◌, List, ℕ, take}
use Rattle.std.specs.List.{list_any}
use Rattle.acng_reach.specs.Sets.{among}
use Rattle.acng_reach.specs.Reaches.{is_unread_by}
use Rattle.acng_reach.proofs.problems.put_others.Given as goal

abbrev pub invariant-loop-i : goal.invariant-loop-i
invariant-loop-i g l = (q : List ℕ) →
    among q l.folders
    ≡ (list_any (is_unread_by (g.B.Bodies.cache l.bodies).paths q l.folder l.read) (take l.i l.list) || among q l.fn.folders)
