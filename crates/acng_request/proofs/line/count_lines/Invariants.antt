use Rattle.std.proofs.Common.{◌≡◌, ◌+◌, ◌-◌, ◌≤◌, drop, length}
use Rattle.acng_base.specs.Lines.{lines}
use Rattle.acng_request.specs.RequestHeads.{before_empty}
use Rattle.acng_request.proofs.line.count_lines.Given as goal

abbrev pub invariant-loop-len : goal.invariant-loop-len
invariant-loop-len l = record {
  within : l.start ≤ length l.text;
  few : l.count ≤ l.start;
  same : before_empty (lines l.text) ≡ l.count + before_empty (lines (drop l.start l.text));
}

abbrev pub decreases-loop-len : goal.decreases-loop-len
decreases-loop-len l = length l.text - l.start
