use Rattle.std.proofs.Common.{◌≡◌, ◌||◌, ◌&&◌, List, ℕ, take}
use Rattle.std.specs.List.{list_any}
use Rattle.acng_base.specs.Cuts.{is_empty}
use Rattle.acng_reach.specs.Sets.{among}
use Rattle.acng_reach.specs.Reaches.{is_failed, is_lost, problem_by}
use Rattle.acng_reach.proofs.problems.problem_folders.Given as goal

abbrev pub invariant-loop-i : goal.invariant-loop-i
invariant-loop-i g l = (q : List ℕ) → among q l.folders ≡ (list_any (is_failed q) (take l.i l.failed) || (is_empty q && is_lost l.held l.indexes))

abbrev pub invariant-loop-j : goal.invariant-loop-j
invariant-loop-j g l = (q : List ℕ) →
    among q l.folders
    ≡ (list_any (problem_by (g.B.Bodies.cache l.bodies).paths q) (take l.j l.indexes)
    || (list_any (is_failed q) l.failed || (is_empty q && is_lost l.held l.indexes)))
