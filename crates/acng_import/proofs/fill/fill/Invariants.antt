use Rattle.std.proofs.Common.{◌≡◌, ◌-◌, ◌≤◌, ◌^◌, ◌+◌, true}
use Rattle.acng_import.specs.Files.{file_at}
use Rattle.acng_import.proofs.Readings.{IsFilling}
use Rattle.acng_import.proofs.fill.fill.Given as goal

abbrev pub invariant-loop-count : goal.invariant-loop-count
invariant-loop-count g l =
    let handle = g.B.BodyFile.handle in
    record {
      filling : IsFilling g.F.Finder.tells g.B.BodyFile.tells (file_at (g.F.Finder.bodies l.fn.finder) l.i) l.hash l.at (handle l.body);
      small : l.at ≤ 2 ^ 41;
      names : g.F.Finder.names l.finder ≡ g.F.Finder.names l.fn.finder;
      bodies : g.F.Finder.bodies l.finder ≡ g.F.Finder.bodies l.fn.finder;
      faults : g.F.Finder.faults l.finder ≡ g.F.Finder.faults l.fn.finder;
      number : (handle l.body).number ≡ (handle l.fn.body).number;
      writable : (handle l.body).writable ≡ true;
      may : (g.B.BodyFile.faults l.body).may_fail ≡ (g.B.BodyFile.faults l.fn.body).may_fail;
    }

-- each turn takes a byte or more
abbrev pub decreases-loop-count : goal.decreases-loop-count
decreases-loop-count g l = 2 ^ 41 + 1 - l.at
