use Rattle.std.proofs.Common.{◌≡◌, ◌-◌, ◌≤◌, Some, take, length}
use Rattle.acng_base.specs.Lines.{state_after}
use Rattle.acng_base.proofs.block.scan_lines.Given as goal

abbrev pub invariant-loop-len : goal.invariant-loop-len
invariant-loop-len l = record {
  within : l.start ≤ length l.part;
  at : state_after l.fn.state (take l.start l.part) ≡ Some l.now;
}

abbrev pub decreases-loop-len : goal.decreases-loop-len
decreases-loop-len l = length l.part - l.start
