use Rattle.acng_rows.proofs.Names.{Walks}
use Rattle.acng_rows.proofs.found.PathMap+Row+T.names.Given as goal

abbrev pub invariant-loop-entry : goal.invariant-loop-entry
invariant-loop-entry g l = Walks l.self l.entry-iterator l.ids l.next_try
