-- No body of what a stop leaves is both sealed and unsealed.
use Rattle.std.proofs.Common.{◌≡◌, ◌⊎◌, ℕ, ◌≤◌, ◌<◌, ◌==◌, ◌||◌, Bool, true, false, cond, List, [], ◌∷◌, take, Option, Some, None, is_some}
use Rattle.std.proofs.Common.{ap, sym, refl, ◌∙◌, arith}
use mathlib.Core.Logic.{inl, inr}
use mathlib.Core.Bool.{true≢false}
use Rattle.std.specs.Ordering.{nat_cmp, eq_by_cmp}
use Rattle.std.specs.Cmp.{nat_cmp_total, unsigned_tied}
use Rattle.std.specs.List.{list_any}
use Rattle.std.specs.FinMap.{contains_key, get, get-insert, get-remove}
use Rattle.acng_keeper.specs.declared.effect.Effect.{Effect}
use Rattle.acng_keeper.specs.declared.effect.Effect.TheVariants.{Sealed, HeadPut, HeadRemoved, BodyRemoved}
use Rattle.acng_keeper.specs.Kept.{Kept, Stored, stored, changed_by, IsSound}
use Rattle.acng_keeper.specs.Images.{changed, since, seals, IsImage, ImagesAreApart}

either_left : (a b : Bool) → a ≡ true → (a || b) ≡ true
either_left true b is = refl
either_left false b is = absurd (true≢false (sym is))

either_right : (a b : Bool) → b ≡ true → (a || b) ≡ true
either_right true b is = refl
either_right false b is = is

put_case : {X : Type 0} (o : Option X) (v : X) (id k : ℕ) (b rest : Bool) → (id == k) ≡ b → is_some (cond b (Some v) o) ≡ true
    → (is_some o ≡ true) ⊎ (((id == k) || rest) ≡ true)
put_case o v id k true rest is had = inr (either_left (id == k) rest is)
put_case o v id k false rest is had = inl had

gone_case : {X : Type 0} (o : Option X) (b : Bool) → is_some (cond b None o) ≡ true → is_some o ≡ true
gone_case o true had = absurd (true≢false (sym had))
gone_case o false had = had

-- a body that an effect leaves was there, or the effect sealed it
one_effect : (id : ℕ) (e : Effect) (rest : Bool) (s : Stored) → contains_key (changed_by e s).bodies id ≡ true
    → (contains_key s.bodies id ≡ true) ⊎ ((seals id e || rest) ≡ true)
one_effect id (Sealed k bytes) rest s had =
    let found = sym (ap is_some (get-insert nat_cmp_total s.bodies k bytes id)) ∙ had in
    put_case (get s.bodies id) bytes id k (eq_by_cmp nat_cmp id k) rest (sym (unsigned_tied id k)) found
one_effect id (HeadPut k bytes) rest s had = inl had
one_effect id (HeadRemoved k) rest s had = inl had
one_effect id (BodyRemoved k) rest s had =
    inl (gone_case (get s.bodies id) (eq_by_cmp nat_cmp id k) (sym (ap is_some (get-remove nat_cmp_total s.bodies k id)) ∙ had))

-- a body that is there was there, or one of the effects sealed it
pub sealed_in : (id : ℕ) (es : List Effect) (s : Stored) → contains_key (changed es s).bodies id ≡ true
    → (contains_key s.bodies id ≡ true) ⊎ (list_any (seals id) es ≡ true)
sealed_in id [] s had = inl had
sealed_in id (e ∷ es) s had = both (sealed_in id es (changed_by e s) had)
  where
    both : (contains_key (changed_by e s).bodies id ≡ true) ⊎ (list_any (seals id) es ≡ true)
        → (contains_key s.bodies id ≡ true) ⊎ (list_any (seals id) (e ∷ es) ≡ true)
    both (inl later) = one_effect id e (list_any (seals id) es) s later
    both (inr sealed) = inr (either_right (seals id e) (list_any (seals id) es) sealed)

no : {A : Type 0} (b : Bool) → b ≡ true → b ≡ false → A
no b t f = absurd (true≢false (sym t ∙ f))

module _ (old new image : Kept) (n m : ℕ) (sound : IsSound n old) (i : IsImage old new n m image) where
  -- a body that was sealed at first was neither unsealed nor created since
  old_case : {A : Type 0} (id : ℕ) → contains_key old.bodies id ≡ true
      → (contains_key old.loose id ≡ true) ⊎ ((n ≤ id) × (id < m)) → A
  old_case id had (inl loose) = no (contains_key old.loose id) loose (sound.apart.each id had)
  old_case id had (inr new) = absurd (omega (arith, sound.bodies.each id had, new.0))

  clash : {A : Type 0} (id : ℕ) → contains_key image.loose id ≡ true
      → (contains_key old.bodies id ≡ true) ⊎ (list_any (seals id) (take i.count (since old new)) ≡ true) → A
  clash id loose (inl had) = old_case id had (i.loose id loose)
  clash id loose (inr sealed) = no (list_any (seals id) (take i.count (since old new))) sealed (i.unsealed id loose)

  by_case : (id : ℕ) → contains_key image.bodies id ≡ true → (b : Bool) → contains_key image.loose id ≡ b → b ≡ false
  by_case id had true loose =
      let made = sym (ap (λ s. contains_key s.bodies id) i.made) ∙ had in
      clash id loose (sealed_in id (take i.count (since old new)) (stored old) made)
  by_case id had false loose = refl

pub image_apart : ImagesAreApart
image_apart old new image n m sound i =
    record { each = λ id had. by_case old new image n m sound i id had (contains_key image.loose id) refl }
