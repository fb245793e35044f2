use Rattle.std.proofs.Common.{◌≡◌, ◌-◌, ◌≤◌, drop, length}
use Rattle.acng_request.specs.RequestFields.{says_close}
use Rattle.acng_request.proofs.field.says_close.Given as goal

abbrev pub invariant-loop-len : goal.invariant-loop-len
invariant-loop-len l = record {
  within : l.start ≤ length l.value;
  same : says_close l.value ≡ says_close (drop l.start l.value);
}

abbrev pub decreases-loop-len : goal.decreases-loop-len
decreases-loop-len l = length l.value - l.start
