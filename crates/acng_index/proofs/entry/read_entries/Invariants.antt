use Rattle.std.proofs.Common.{◌≡◌, ◌≤◌, ◌-◌, length, drop}
use Rattle.acng_base.specs.Cuts.{pieces}
use Rattle.acng_index.specs.Releases.{entries_of}
use Rattle.acng_index.proofs.Entries.{left}
use Rattle.acng_index.proofs.entry.read_entries.Given as goal

abbrev pub invariant-loop-len : goal.invariant-loop-len
invariant-loop-len l = record {
  within : l.start ≤ length l.value;
  same : entries_of l.fn.first (pieces l.fn.value) ≡ left l.line (drop l.start l.value) l.entries.items;
}

abbrev pub decreases-loop-len : goal.decreases-loop-len
decreases-loop-len l = length l.value - l.start
