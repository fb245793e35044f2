use Rattle.std.proofs.Common.{◌-◌, ◌+◌, ◌≤◌, length}
use Rattle.std.specs.Io.KnownBytes.{Consumes}
use Rattle.acng_cli.proofs.source.read_all.Given as goal

abbrev pub invariant-loop-buf : goal.invariant-loop-buf
invariant-loop-buf g l =
    record {
      consumed : Consumes (g.I.Source.left l.fn.source) (g.I.Source.left l.source) l.text.items;
      few : length l.text.items ≤ 4194304 + 32768;
      later : g.I.Source.faults l.fn.source ≤ g.I.Source.faults l.source;
    }

-- each turn reads a byte or more
abbrev pub decreases-loop-buf : goal.decreases-loop-buf
decreases-loop-buf g l = 4194305 - length l.text.items
