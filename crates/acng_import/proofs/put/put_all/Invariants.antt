use Rattle.std.proofs.Common.{◌≡◌, ◌-◌, ◌≤◌, List, ℕ, Some, take, drop}
use Rattle.std.specs.List.{slice_get}
use Rattle.acng_import.specs.Puts.{put_rest, put_all, HasArrived}
use Rattle.acng_import.specs.Steps.{May, MayHave, OnlyEnters}
use Rattle.acng_import.proofs.put.put_all.Given as goal

abbrev pub invariant-loop-i : goal.invariant-loop-i
invariant-loop-i g l = record {
  some : 1 ≤ l.i;
  did : put_rest l.arrival (take l.i l.wanted) l.desk.plain (drop l.i l.wanted) ≡ put_all l.arrival l.fn.id.0 l.fn.desk.plain l.wanted;
  arrived : (path : List ℕ) → slice_get l.wanted (l.i - 1) ≡ Some path → HasArrived l.arrival l.desk.plain.rows path;
  only : (may : May) → MayHave may l.arrival.hash.0 l.arrival.size l.wanted → OnlyEnters may l.fn.desk.plain l.desk.plain;
  may : l.desk.faults.may_fail ≡ l.fn.desk.faults.may_fail;
}
