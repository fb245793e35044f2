use Rattle.std.proofs.Common.{◌≡◌, ◌-◌, ◌≤◌, length, take}
use Rattle.std.specs.Io.KnownBytes.{Appends, Keeps}
use Rattle.acng_base.proofs.link.send_counted.Given as goal

abbrev pub invariant-loop-sent : goal.invariant-loop-sent
invariant-loop-sent g l =
    record {
      within : l.sent ≤ length l.piece;
      bytes : Appends (g.L.Link.written l.fn.link) (g.L.Link.written l.link) (take l.sent l.piece);
      others : Keeps (g.L.Link.left l.fn.link) (g.L.Link.left l.link);
      count : g.L.Link.faults l.link ≡ g.L.Link.faults l.fn.link;
    }

abbrev pub decreases-loop-sent : goal.decreases-loop-sent
decreases-loop-sent g l = length l.piece - l.sent
