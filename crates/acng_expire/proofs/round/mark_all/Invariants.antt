use Rattle.std.proofs.Common.{◌≡◌, true, take}
use Rattle.acng_desk.specs.Stops.{IsFound}
use Rattle.acng_expire.specs.Places.{place_at}
use Rattle.acng_expire.specs.Rounds.{HasPlaces, run_of, with_marks}
use Rattle.acng_expire.proofs.round.mark_all.Given as goal

abbrev pub invariant-loop-i : goal.invariant-loop-i
invariant-loop-i g l = record {
  places : HasPlaces (with_marks (run_of l.fn.desk.plain l.now.0 l.reach) (place_at l.fn.desk.plain) (take l.i l.paths))
      l.fn.desk.plain l.desk.plain;
  exact : g.K.Keeper.tells ≡ true → IsFound l.fn.desk → IsFound l.desk;
  may_fail : l.desk.faults.may_fail ≡ l.fn.desk.faults.may_fail;
}
