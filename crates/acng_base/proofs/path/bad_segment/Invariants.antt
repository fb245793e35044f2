use Rattle.std.proofs.Common.{◌≡◌, ◌-◌, ◌≤◌, drop, length}
use Rattle.acng_base.specs.Paths.{first_bad, segments}
use Rattle.acng_base.proofs.path.bad_segment.Given as goal

abbrev pub invariant-loop-len : goal.invariant-loop-len
invariant-loop-len l = record {
  within : l.start ≤ length l.text;
  same : first_bad 0 (segments l.text) ≡ first_bad l.start (segments (drop l.start l.text));
}

abbrev pub decreases-loop-len : goal.decreases-loop-len
decreases-loop-len l = length l.text - l.start
