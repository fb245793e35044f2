-- What a stop in or after any call may leave.
use Rattle.std.specs.Prelude.{◌≡◌, ◌==◌, ◌⊎◌, ◌<◌, ◌≤◌, ℕ, Bool, true, false, List, [], ◌∷◌, ◌++◌, length, take, drop}
use Rattle.std.specs.List.{list_any}
use Rattle.std.specs.FinMap as map
use Rattle.acng_keeper.specs.declared.effect.Effect.{Effect}
use Rattle.acng_keeper.specs.declared.effect.Effect.TheVariants.{Sealed, HeadPut, HeadRemoved, BodyRemoved}
use Rattle.acng_keeper.specs.Kept.{Kept, Stored, stored, changed_by, IsSound, AreApart}

-- what these effects make of it, one after the other
abbrev pub changed : List Effect → Stored → Stored
changed [] s = s
changed (e ∷ es) s = changed es (changed_by e s)

-- P holds before each effect and after the last
abbrev pub Along : (Stored → Type 0) → List Effect → Stored → Type 0
Along P [] s = P s
Along P (e ∷ es) s = P s × Along P es (changed_by e s)

-- what some first effects of the plan made
abbrev pub IsAlong : List Effect → Stored → Stored → Type 0
IsAlong plan s t = (n : ℕ) × (t ≡ changed (take n plan) s)

-- a stop at any call since `old` leaves what has P
pub record LeavesOnly (P : Stored → Type 0) (old new : Kept) : Type 0 where
  pub since : List Effect
  pub trail : new.trail ≡ old.trail ++ since
  pub now : stored new ≡ changed since (stored old)
  pub each : Along P since (stored old)

-- the same, and each effect of a plan that is still ahead keeps P
pub record Goes (P : Stored → Type 0) (old : Kept) (plan : List Effect) (now : Kept) : Type 0 where
  pub leaves : LeavesOnly P old now
  pub ahead : Along P plan (stored now)

-- the effects that the trail got since `old`
abbrev pub since : Kept → Kept → List Effect
since old new = drop (length old.trail) new.trail

-- the effect seals this body
abbrev pub seals : ℕ → Effect → Bool
seals id (Sealed other bytes) = id == other
seals id (HeadPut other bytes) = false
seals id (HeadRemoved other) = false
seals id (BodyRemoved other) = false

-- What a stop at some call between `old` and `new` leaves: what some first effects since `old` made, and any of the
-- bodies that were unsealed at `old` or were created since, unless those effects sealed them.
pub record IsImage (old new : Kept) (old_next new_next : ℕ) (image : Kept) : Type 0 where
  pub count : ℕ
  pub made : stored image ≡ changed (take count (since old new)) (stored old)
  pub loose : (id : ℕ) → map.contains_key image.loose id ≡ true
      → (map.contains_key old.loose id ≡ true) ⊎ ((old_next ≤ id) × (id < new_next))
  pub unsealed : (id : ℕ) → map.contains_key image.loose id ≡ true → list_any (seals id) (take count (since old new)) ≡ false

-- no body of what a stop leaves is both sealed and unsealed
abbrev pub ImagesAreApart : Type 0
ImagesAreApart = (old new image : Kept) (old_next new_next : ℕ) → IsSound old_next old
    → IsImage old new old_next new_next image → AreApart image.bodies image.loose
