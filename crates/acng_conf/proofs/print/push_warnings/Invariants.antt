use Rattle.std.proofs.Common.{◌≡◌, ◌++◌, drop}
use Rattle.acng_conf.specs.Printed.{warning_lines}
use Rattle.acng_conf.proofs.print.push_warnings.Given as goal

abbrev pub invariant-loop-warning : goal.invariant-loop-warning
invariant-loop-warning l = l.initial.bytes.items ++ warning_lines l.warnings ≡ l.bytes.items ++ warning_lines (drop l.warning-index l.warnings)
