use Rattle.std.proofs.Common.{◌≡◌, ◌||◌, ℕ, is_some}
use Rattle.std.specs.FinMap.{contains_key, find}
use Rattle.std.specs.Ordering.{nat_cmp}
use Rattle.acng_keeper.proofs.id_map.IdMap.add_ids.Given as goal

abbrev pub invariant-loop-entry : goal.invariant-loop-entry
invariant-loop-entry g l =
    (q : ℕ) → (contains_key l.all q || is_some (find nat_cmp q l.entry-iterator)) ≡
    (contains_key l.initial.all q || is_some (find nat_cmp q l.initial.entry-iterator))
