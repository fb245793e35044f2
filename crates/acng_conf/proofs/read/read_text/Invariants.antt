use Rattle.std.proofs.Common.{◌≡◌, ◌-◌, ◌≤◌, ◌+◌, drop, length}
use Rattle.acng_base.specs.Cuts.{pieces}
use Rattle.acng_conf.specs.Readings.{after_lines}
use Rattle.acng_conf.proofs.read.read_text.Given as goal

abbrev pub invariant-loop-len : goal.invariant-loop-len
invariant-loop-len l = record {
  within : l.start ≤ length l.text;
  small : length l.text ≤ 4194304;
  few : l.line ≤ l.start + 1;
  same : after_lines l.over l.lists 1 l.fn.conf (pieces l.text)
      ≡ after_lines l.over l.lists l.line l.conf (pieces (drop l.start l.text));
}

abbrev pub decreases-loop-len : goal.decreases-loop-len
decreases-loop-len l = length l.text - l.start
