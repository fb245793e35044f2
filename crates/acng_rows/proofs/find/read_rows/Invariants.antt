use Rattle.std.proofs.Common.{◌≡◌, ◌<◌, ◌≤◌, ℕ, List, [], true, length, slice_index_or, Some}
use Rattle.acng_keeper.specs.Slips.{Later}
use Rattle.acng_rows.specs.declared.row.Whole.{Whole}
use Rattle.acng_rows.specs.Rows.{whole_at}
use Rattle.acng_rows.specs.Goods.{StandsFor}
use Rattle.acng_rows.specs.Starts.{front, AreFound, Same}
use Rattle.acng_rows.proofs.find.read_rows.Given as goal

abbrev pub invariant-loop-i : goal.invariant-loop-i
invariant-loop-i g l = record {
  stands : g.K.Keeper.tells ≡ true → StandsFor l.rows (front l.heads (g.K.Keeper.kept l.fn.keeper).bodies l.i);
  found : AreFound (g.K.Keeper.next l.fn.keeper) l.rows;
  under : (path : List ℕ) (w : Whole) → whole_at l.rows path ≡ Some w → (j : ℕ) → l.i ≤ j → j < length l.heads
      → w.id < (slice_index_or l.heads j (0, [])).0;
  same : g.K.Keeper.tells ≡ true → Same (g.K.Keeper.kept l.fn.keeper) (g.K.Keeper.kept l.keeper);
  same_next : g.K.Keeper.next l.keeper ≡ g.K.Keeper.next l.fn.keeper;
  later : Later (g.K.Keeper.faults l.fn.keeper) (g.K.Keeper.faults l.keeper);
}
