use Rattle.std.proofs.Common.{◌≡◌, ◌-◌, ◌≤◌, drop, length}
use Rattle.acng_base.specs.Cuts.{drop_front}
use Rattle.acng_base.proofs.line.trim_start_by.Given as goal

abbrev pub invariant-loop-start : goal.invariant-loop-start
invariant-loop-start g l = record {
  within : l.start ≤ length l.text;
  same : drop_front g.K.Kind.passes l.text ≡ drop_front g.K.Kind.passes (drop l.start l.text);
}

abbrev pub decreases-loop-start : goal.decreases-loop-start
decreases-loop-start g l = length l.text - l.start
