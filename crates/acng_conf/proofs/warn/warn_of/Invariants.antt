use Rattle.std.proofs.Common.{◌≡◌, drop}
use Rattle.acng_conf.specs.Readings.{with_no_targets}
use Rattle.acng_conf.proofs.warn.warn_of.Given as goal

abbrev pub invariant-loop-group : goal.invariant-loop-group
invariant-loop-group l = with_no_targets l.initial.warnings.items l.groups ≡ with_no_targets l.warnings.items (drop l.group-index l.groups)
