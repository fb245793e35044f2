use Rattle.std.proofs.Common.{◌≡◌, length}
use Rattle.std.specs.Io.KnownBytes.{append_known, Keeps}
use Rattle.acng_serve.proofs.held.HeldLink.send_behind.Given as goal

abbrev pub invariant-loop-self : goal.invariant-loop-self
invariant-loop-self g l =
    record {
      bytes : Keeps (append_known (g.L.Link.written l.fn.self.link) l.fn.self.held.items) (append_known (g.L.Link.written l.self.link) l.self.held.items);
      others : Keeps (g.L.Link.left l.fn.self.link) (g.L.Link.left l.self.link);
      count : g.L.Link.faults l.self.link ≡ g.L.Link.faults l.fn.self.link;
    }

abbrev pub decreases-loop-self : goal.decreases-loop-self
decreases-loop-self g l = length l.self.held.items
