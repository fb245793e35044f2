-- The lists that a keeper gives of what it has.
use Rattle.std.specs.Prelude.{◌≡◌, ◌==◌, ◌||◌, ◌<◌, ℕ, List, All}
use Rattle.std.specs.List.{list_any}
use Rattle.std.specs.FinMap as map
use Rattle.acng_keeper.specs.Kept.{Store, IdSet}

-- each id is below the bound
abbrev pub AllBelow : ℕ → List ℕ → Type 0
AllBelow bound ids = All (λ id. id < bound) ids

-- the ids are those of all bodies, sealed or not
pub record ListsBodies (bodies : Store) (loose : IdSet) (ids : List ℕ) : Type 0 where
  pub each : (id : ℕ) → list_any (λ i. id == i) ids ≡ (map.contains_key bodies id || map.contains_key loose id)
