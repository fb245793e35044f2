use Rattle.std.proofs.Common.{◌≡◌, ◌++◌, map, take}
use Rattle.acng_import.specs.Printed.{shown_byte}
use Rattle.acng_import.proofs.print.push_name.Given as goal

abbrev pub invariant-loop-i : goal.invariant-loop-i
invariant-loop-i l = l.bytes.items ≡ l.fn.bytes.items ++ map shown_byte (take l.i l.name)
