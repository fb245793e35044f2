use Rattle.std.proofs.Common.{◌≡◌, ◌-◌, ◌≤◌, ◌++◌, take, drop, length}
use Rattle.acng_conf.specs.Lines.{without_comment}
use Rattle.acng_conf.proofs.lines.without_comment.Given as goal

abbrev pub invariant-loop-end : goal.invariant-loop-end
invariant-loop-end l = record {
  within : l.end ≤ length l.line;
  same : without_comment l.line ≡ take l.end l.line ++ without_comment (drop l.end l.line);
}

abbrev pub decreases-loop-end : goal.decreases-loop-end
decreases-loop-end l = length l.line - l.end
