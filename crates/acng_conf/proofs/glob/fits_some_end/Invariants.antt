use Rattle.std.proofs.Common.{◌≡◌, ◌+◌, length}
use Rattle.acng_conf.specs.Globs.{fits, some_end}
use Rattle.acng_conf.proofs.glob.fits_some_end.Given as goal

abbrev pub decreases-loop-left : goal.decreases-loop-left
decreases-loop-left l = length l.rest + length l.left

abbrev pub invariant-loop-left : goal.invariant-loop-left
invariant-loop-left l = some_end (fits l.pattern) l.name ≡ some_end (fits l.rest) l.left
