use Rattle.std.proofs.Common.{◌≡◌, ◌≤◌, true}
use Rattle.acng_base.specs.Causes.{Rose}
use Rattle.acng_reach.specs.Caches.{indexes}
use Rattle.acng_reach.specs.Desks.{cache_of}
use Rattle.acng_import.specs.Ends.{has_fault}
use Rattle.acng_import.specs.Imports.{RanFrom}
use Rattle.acng_import.specs.Steps.{OnlyEnters, anywhere, named_in}
use Rattle.acng_import.proofs.imports.import.Given as goal

abbrev pub invariant-loop-i : goal.invariant-loop-i
invariant-loop-i g l =
    let tells = g.K.Keeper.tells in
    let faults = g.F.Finder.faults in
    record {
      ran : tells ≡ true → g.F.Finder.tells ≡ true → RanFrom g.S.Site tells (indexes (cache_of tells l.fn.desk)) l.now
          (g.F.Finder.bodies l.fn.finder) l.fn.desk (faults l.fn.finder) l.i
          (record { ends = l.ends; house = l.desk; faults = faults l.finder });
      only : tells ≡ true → OnlyEnters (named_in (indexes (cache_of tells l.fn.desk))) l.fn.desk.plain l.desk.plain;
      enters : OnlyEnters anywhere l.fn.desk.plain l.desk.plain;
      fault : has_fault l.ends ≡ true → Rose (faults l.fn.finder) (faults l.finder);
      later : faults l.fn.finder ≤ faults l.finder;
      names : g.F.Finder.names l.finder ≡ g.F.Finder.names l.fn.finder;
      bodies : g.F.Finder.bodies l.finder ≡ g.F.Finder.bodies l.fn.finder;
      may : l.desk.faults.may_fail ≡ l.fn.desk.faults.may_fail;
    }
