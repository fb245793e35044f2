use Rattle.std.proofs.Common.{◌≡◌, take}
use Rattle.acng_import.proofs.put.texts_of.Given as goal

abbrev pub invariant-loop-i : goal.invariant-loop-i
invariant-loop-i l = l.texts ≡ take l.i l.paths
