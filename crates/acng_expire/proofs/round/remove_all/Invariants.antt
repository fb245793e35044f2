use Rattle.std.proofs.Common.{◌≡◌, ◌≤◌, true, take}
use Rattle.acng_desk.specs.Stops.{IsFound}
use Rattle.acng_expire.specs.Places.{place_at}
use Rattle.acng_expire.specs.Rounds.{HasPlaces, with_removals, how_many, is_due_at}
use Rattle.acng_expire.proofs.round.remove_all.Given as goal

abbrev pub invariant-loop-i : goal.invariant-loop-i
invariant-loop-i g l = record {
  few : l.removed ≤ l.i;
  places : HasPlaces (with_removals l.limit l.now.0 (place_at l.fn.desk.plain) (take l.i l.paths)) l.fn.desk.plain l.desk.plain;
  count : l.removed ≡ how_many (is_due_at l.limit l.now.0 l.fn.desk.plain) (take l.i l.paths);
  exact : g.K.Keeper.tells ≡ true → IsFound l.fn.desk → IsFound l.desk;
  may_fail : l.desk.faults.may_fail ≡ l.fn.desk.faults.may_fail;
}
