use Rattle.std.proofs.Common.{◌≡◌, true, take}
use Rattle.std.specs.List.{filter}
use Rattle.acng_import.specs.Looks.{shelf_of, is_wanted, HasRead}
use Rattle.acng_import.proofs.wanted.wanted_paths.Given as goal

abbrev pub invariant-loop-i : goal.invariant-loop-i
invariant-loop-i g l = record {
  wanted : g.K.Keeper.tells ≡ true → l.wanted.items ≡ filter (is_wanted (shelf_of l.fn.desk) l.hash.0) (take l.i l.named);
  read : HasRead g.K.Keeper.tells l.fn.desk l.desk;
  may : l.desk.faults.may_fail ≡ l.fn.desk.faults.may_fail;
}
