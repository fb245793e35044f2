use Rattle.std.proofs.Common.{◌≡◌, ◌-◌, ◌≤◌, length, true}
use Rattle.std.specs.Io.KnownBytes.{Keeps}
use Rattle.acng_grow.specs.Grown.{text_of}
use Rattle.acng_grow.specs.Takes.{Rests}
use Rattle.acng_grow.specs.Follows.{part_of}
use Rattle.acng_grow.specs.Sends.{HasGone}
use Rattle.acng_grow.proofs.owned.follow_by.Given as goal

abbrev pub invariant-loop-sent : goal.invariant-loop-sent
invariant-loop-sent g l =
    record {
      rests : Rests l.fn.body l.body;
      room : length l.frame ≡ length l.fn.frame;
      few : l.sent ≤ l.most;
      gone : HasGone l.sending (g.F.BodyFile.tells ≡ true) (part_of (text_of l.fn.body) l.from l.to) l.sent
          (g.L.Link.written l.fn.client) (g.L.Link.written l.client);
      left : Keeps (g.L.Link.left l.fn.client) (g.L.Link.left l.client);
      faults : g.L.Link.faults l.client ≡ g.L.Link.faults l.fn.client;
    }

abbrev pub decreases-loop-sent : goal.decreases-loop-sent
decreases-loop-sent g l = l.most - l.sent
