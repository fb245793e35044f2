use Rattle.std.proofs.Common.{◌≡◌, take, map}
use Rattle.acng_remap.specs.Readings.{asked}
use Rattle.acng_remap.proofs.read.asked_all.Given as goal

abbrev pub invariant-loop-i : goal.invariant-loop-i
invariant-loop-i l = l.origins ≡ map (asked l.rest) (take l.i l.targets)
