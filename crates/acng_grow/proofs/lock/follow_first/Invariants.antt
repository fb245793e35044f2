use Rattle.std.proofs.Common.{◌≡◌, ◌-◌, ◌≤◌, ◌&&◌, IfSome, length, true}
use Rattle.std.specs.Io.KnownBytes.{Keeps}
use Rattle.acng_grow.specs.Follows.{part_of}
use Rattle.acng_grow.specs.Keeps.{most_bytes}
use Rattle.acng_grow.specs.Sends.{HasGone}
use Rattle.acng_grow.proofs.lock.follow_first.Given as goal

abbrev pub invariant-loop : goal.invariant-loop
invariant-loop g l =
    record {
      room : length l.frame ≡ 65556;
      from : l.from ≤ l.place;
      small : l.place - l.from ≤ most_bytes;
      within : IfSome l.to (λ t. l.place - l.from ≤ t - l.from);
      gone : HasGone l.sending ((g.S.Site.tells && g.F.BodyFile.tells) ≡ true) (part_of (g.S.Site.instance l.first l.asked.path) l.from l.to)
          (l.place - l.from) (g.L.Link.written l.fn.client) (g.L.Link.written l.client);
      left : Keeps (g.L.Link.left l.fn.client) (g.L.Link.left l.client);
      faults : g.L.Link.faults l.client ≡ g.L.Link.faults l.fn.client;
    }
