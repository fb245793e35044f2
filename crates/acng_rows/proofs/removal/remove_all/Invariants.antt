use Rattle.std.proofs.Common.{◌≡◌, true, drop}
use Rattle.acng_keeper.specs.Kept.{stored}
use Rattle.acng_keeper.specs.Images.{changed, IsAlong, Goes}
use Rattle.acng_keeper.specs.Slips.{Later}
use Rattle.acng_rows.specs.Removals.{effects_of, loose_by, KeepsLoose}
use Rattle.acng_rows.proofs.removal.remove_all.Given as goal

abbrev pub invariant-loop-i : goal.invariant-loop-i
invariant-loop-i g l = record {
  goes : g.K.Keeper.tells ≡ true → Goes (IsAlong (effects_of l.list) (stored (g.K.Keeper.kept l.fn.keeper)))
      (g.K.Keeper.kept l.fn.keeper) (effects_of (drop l.i l.list)) (g.K.Keeper.kept l.keeper);
  ahead : g.K.Keeper.tells ≡ true → changed (effects_of (drop l.i l.list)) (stored (g.K.Keeper.kept l.keeper)) ≡ changed
      (effects_of l.list) (stored (g.K.Keeper.kept l.fn.keeper));
  left : g.K.Keeper.tells ≡ true → loose_by (effects_of (drop l.i l.list)) (g.K.Keeper.kept l.keeper).loose ≡ loose_by
      (effects_of l.list) (g.K.Keeper.kept l.fn.keeper).loose;
  others : g.K.Keeper.tells ≡ true → KeepsLoose l.list (g.K.Keeper.kept l.fn.keeper) (g.K.Keeper.kept l.keeper);
  same_next : g.K.Keeper.next l.keeper ≡ g.K.Keeper.next l.fn.keeper;
  later : Later (g.K.Keeper.faults l.fn.keeper) (g.K.Keeper.faults l.keeper);
}
