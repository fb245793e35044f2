use Rattle.std.proofs.Common.{◌≡◌, ◌-◌, ◌≤◌, drop, length, false}
use Rattle.acng_base.specs.Cuts.{pieces}
use Rattle.acng_conf.specs.Remaps.{after_list_lines}
use Rattle.acng_conf.proofs.remap_line.RemapLine.add_file.Given as goal

abbrev pub invariant-loop-len : goal.invariant-loop-len
invariant-loop-len l = record {
  within : l.start ≤ length l.bytes;
  same : after_list_lines l.section (record { brought = l.fn.self; bad = false }) (pieces l.bytes) ≡ after_list_lines l.section (record { brought = l.self; bad = l.bad }) (pieces (drop l.start l.bytes));
}

abbrev pub decreases-loop-len : goal.decreases-loop-len
decreases-loop-len l = length l.bytes - l.start
