use Rattle.std.proofs.Common.{◌≡◌, ◌++◌, take}
use Rattle.acng_import.specs.Printed.{lines}
use Rattle.acng_import.proofs.print.push_lines.Given as goal

abbrev pub invariant-loop-i : goal.invariant-loop-i
invariant-loop-i g l = l.bytes.items ≡ l.fn.bytes.items ++ lines (take l.i l.ends) (g.F.Finder.names l.finder)
