use Rattle.std.proofs.Common.{◌≡◌, ◌≤◌, take}
use Rattle.acng_expire.specs.Rounds.{how_many, is_marked_at}
use Rattle.acng_expire.proofs.round.count_marks.Given as goal

abbrev pub invariant-loop-i : goal.invariant-loop-i
invariant-loop-i g l = record {
  few : l.count ≤ l.i;
  count : l.count ≡ how_many (is_marked_at l.desk.plain) (take l.i l.paths);
}
