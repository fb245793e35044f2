use Rattle.std.proofs.Common.{◌≡◌, [], drop}
use Rattle.acng_conf.specs.Globs.{fits}
use Rattle.acng_conf.proofs.glob.is_stars.Given as goal

abbrev pub invariant-loop-i : goal.invariant-loop-i
invariant-loop-i l = fits l.pattern [] ≡ fits (drop l.i l.pattern) []
