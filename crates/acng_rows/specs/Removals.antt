-- Removals from a keeper, in order.
use Rattle.std.specs.Prelude.{◌≡◌, ◌≢◌, ◌⊎◌, ℕ, false, List, [], ◌∷◌, Option, None, Some}
use Rattle.std.specs.FinMap as map
use Rattle.acng_keeper.specs.declared.effect.Effect.{Effect}
use Rattle.acng_keeper.specs.declared.effect.Effect.TheVariants.{HeadRemoved, BodyRemoved}
use Rattle.acng_keeper.specs.Kept.{Kept, IdSet, stored, changed_by, loose_after, MayCome}
use Rattle.acng_rows.specs.declared.removal.Removal.{Removal}
use Rattle.acng_rows.specs.declared.removal.Removal.TheVariants as removal
use Rattle.acng_rows.specs.Rows.{Rows}
use Rattle.acng_rows.specs.Goods.{IsUnnamed}

abbrev pub effect_of : Removal → Effect
effect_of (removal.Head id) = HeadRemoved id
effect_of (removal.Body id) = BodyRemoved id

abbrev pub id_in : Removal → ℕ
id_in (removal.Head id) = id
id_in (removal.Body id) = id

abbrev pub effects_of : List Removal → List Effect
effects_of [] = []
effects_of (r ∷ rs) = effect_of r ∷ effects_of rs

-- the head and the body of this id, if there is one
abbrev pub both_of : Option ℕ → List Removal
both_of None = []
both_of (Some id) = removal.Head id ∷ removal.Body id ∷ []

-- what effects leave of the unsealed bodies
abbrev pub loose_by : List Effect → IdSet → IdSet
loose_by [] loose = loose
loose_by (e ∷ es) loose = loose_by es (loose_after e loose)

-- it is gone, whether it was there or not
pub record Went (e : Effect) (old new : Kept) : Type 0 where
  pub either : MayCome e old new
  pub gone : stored new ≡ changed_by e (stored old)
  pub loose : new.loose ≡ loose_after e old.loose

abbrev pub IsIn : Removal → List Removal → Type 0
IsIn r [] = ⊥
IsIn r (x ∷ xs) = (r ≡ x) ⊎ IsIn r xs

-- no removal of this id
abbrev pub IsOff : ℕ → List Removal → Type 0
IsOff id [] = Unit {0}
IsOff id (r ∷ rs) = (id ≢ id_in r) × IsOff id rs

-- no row names any of the ids
unfoldable pub AreUnnamed : Rows → List Removal → Type 0
AreUnnamed rows [] = Unit {0}
AreUnnamed rows (r ∷ rs) = IsUnnamed rows (id_in r) × AreUnnamed rows rs

-- other unsealed bodies stay, and none comes
pub record KeepsLoose (list : List Removal) (old new : Kept) : Type 0 where
  pub each : (id : ℕ) → IsOff id list → map.contains_key new.loose id ≡ map.contains_key old.loose id
  pub less : (id : ℕ) → map.contains_key old.loose id ≡ false → map.contains_key new.loose id ≡ false
