use Rattle.std.specs.Option.{option_copied}
use Rattle.acng_rows.proofs.Walks.{Passes}
use Rattle.acng_rows.proofs.walk.PathMap+Row+T.held_after.Given as goal

abbrev pub invariant-loop-entry : goal.invariant-loop-entry
invariant-loop-entry g l = Passes l.self (option_copied l.after) l.entry-iterator
