use Rattle.std.proofs.Common.{◌≡◌, take}
use Rattle.acng_conf.specs.Readings.{with_warnings}
use Rattle.acng_conf.proofs.settings.Settings.warn_all.Given as goal

abbrev pub invariant-loop-cause : goal.invariant-loop-cause
invariant-loop-cause l = l.self ≡ with_warnings l.line (take l.cause-index l.causes) l.initial.self
