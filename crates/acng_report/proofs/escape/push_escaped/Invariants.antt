use Rattle.std.proofs.Common.{◌≡◌, ◌-◌, ◌≤◌, ◌++◌, drop, length}
use Rattle.acng_report.specs.Pages.{escaped}
use Rattle.acng_report.proofs.escape.push_escaped.Given as goal

abbrev pub invariant-loop-len : goal.invariant-loop-len
invariant-loop-len l = record {
  within : l.start ≤ length l.text;
  same : l.initial.page.items ++ escaped l.text ≡ l.page.items ++ escaped (drop l.start l.text);
}

abbrev pub decreases-loop-len : goal.decreases-loop-len
decreases-loop-len l = length l.text - l.start
