use Rattle.std.proofs.Common.{◌≡◌, take}
use Rattle.std.specs.List.{flat_map}
use Rattle.acng_report.specs.Tables.{line_text}
use Rattle.acng_report.proofs.print.print_table.Given as goal

abbrev pub invariant-loop-line : goal.invariant-loop-line
invariant-loop-line l = l.text.items ≡ flat_map line_text (take l.line-index l.lines)
