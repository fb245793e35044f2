use Rattle.std.proofs.Common.{◌≡◌, ◌≤◌, ◌*◌, ◌^◌, take}
use Rattle.std.specs.List.{sum_by}
use Rattle.acng_report.proofs.print.sum_of_sizes.Given as goal

abbrev pub invariant-loop-line : goal.invariant-loop-line
invariant-loop-line l = record {
  sum : l.sum ≡ sum_by (λ line. line.size) (take l.line-index l.lines);
  small : l.sum ≤ l.line-index * 2 ^ 64;
}
