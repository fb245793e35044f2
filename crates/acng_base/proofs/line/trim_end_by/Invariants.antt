use Rattle.std.proofs.Common.{◌≡◌, ◌≤◌, take, length}
use Rattle.acng_base.specs.Cuts.{drop_end}
use Rattle.acng_base.proofs.line.trim_end_by.Given as goal

abbrev pub invariant-loop-end : goal.invariant-loop-end
invariant-loop-end g l = record {
  within : l.end ≤ length l.text;
  same : drop_end g.K.Kind.passes l.text ≡ drop_end g.K.Kind.passes (take l.end l.text);
}

abbrev pub decreases-loop-end : goal.decreases-loop-end
decreases-loop-end g l = l.end
