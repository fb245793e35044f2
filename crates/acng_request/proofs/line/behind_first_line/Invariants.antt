use Rattle.std.proofs.Common.{◌≡◌, ◌-◌, ◌≤◌, drop, length}
use Rattle.acng_base.specs.Lines.{lines}
use Rattle.acng_request.specs.RequestHeads.{inner_lines}
use Rattle.acng_request.proofs.line.behind_first_line.Given as goal

abbrev pub invariant-loop-len : goal.invariant-loop-len
invariant-loop-len l = record {
  within : l.start ≤ length l.block;
  same : inner_lines (lines l.block) ≡ inner_lines (lines (drop l.start l.block));
}

abbrev pub decreases-loop-len : goal.decreases-loop-len
decreases-loop-len l = length l.block - l.start
