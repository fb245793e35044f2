use Rattle.acng_keeper.specs.Kept.{IdsBelow}
use Rattle.acng_keeper.proofs.folder_scan.bodies_in.Given as goal

abbrev pub invariant-loop-entry : goal.invariant-loop-entry
invariant-loop-entry g l = IdsBelow l.fn.next l.bodies
