-- What a keeper has, and what an effect makes of it.
use Rattle.std.specs.Prelude.{◌≡◌, ◌⊎◌, ◌||◌, ◌≤◌, ◌+◌, ℕ, Bool, true, false, List, [], ◌∷◌, ◌++◌}
use Rattle.std.specs.Ordering.{nat_cmp}
use Rattle.std.specs.FinMap as map
use Rattle.acng_keeper.specs.declared.effect.Effect.{Effect}
use Rattle.acng_keeper.specs.declared.effect.Effect.TheVariants.{Sealed, HeadPut, HeadRemoved, BodyRemoved}

-- bytes by id
abbrev pub Store : Type 0
Store = map.FinMap nat_cmp (List ℕ)

-- a set of ids
abbrev pub IdSet : Type 0
IdSet = map.FinMap nat_cmp (Unit {0})

-- the heads, the sealed bodies, the ids of the other bodies, how many bytes `fetch_body` gave so far, and the effects
-- so far in order
pub record Kept : Type 0 where
  pub heads : Store
  pub bodies : Store
  pub loose : IdSet
  pub taken : ℕ
  pub trail : List Effect

-- the id has a head
abbrev pub has_head : Kept → ℕ → Bool
has_head k id = map.contains_key k.heads id

-- the id has a body, sealed or not
abbrev pub has_body : Kept → ℕ → Bool
has_body k id = map.contains_key k.bodies id || map.contains_key k.loose id

-- ---- what an effect makes of it

abbrev pub heads_after : Effect → Store → Store
heads_after (Sealed id bytes) heads = heads
heads_after (HeadPut id bytes) heads = map.insert heads id bytes
heads_after (HeadRemoved id) heads = map.remove heads id
heads_after (BodyRemoved id) heads = heads

abbrev pub bodies_after : Effect → Store → Store
bodies_after (Sealed id bytes) bodies = map.insert bodies id bytes
bodies_after (HeadPut id bytes) bodies = bodies
bodies_after (HeadRemoved id) bodies = bodies
bodies_after (BodyRemoved id) bodies = map.remove bodies id

abbrev pub loose_after : Effect → IdSet → IdSet
loose_after (Sealed id bytes) loose = map.remove loose id
loose_after (HeadPut id bytes) loose = loose
loose_after (HeadRemoved id) loose = loose
loose_after (BodyRemoved id) loose = map.remove loose id

-- the effect, and its place at the end of the trail
abbrev pub after : Effect → Kept → Kept
after e k = record {
  heads = heads_after e k.heads;
  bodies = bodies_after e k.bodies;
  loose = loose_after e k.loose;
  taken = k.taken;
  trail = k.trail ++ e ∷ [];
}

-- ---- what the calls without an effect make of it

-- nothing is kept yet
abbrev pub nothing : Kept
nothing = record { heads = map.empty; bodies = map.empty; loose = map.empty; taken = 0; trail = [] }

-- with a new unsealed body
abbrev pub with_loose : ℕ → Kept → Kept
with_loose id k = record { heads = k.heads; bodies = k.bodies; loose = map.insert k.loose id tt; taken = k.taken; trail = k.trail }

-- with so many bytes more that were given
abbrev pub with_taken : ℕ → Kept → Kept
with_taken size k = record { heads = k.heads; bodies = k.bodies; loose = k.loose; taken = k.taken + size; trail = k.trail }

-- without the unsealed bodies
abbrev pub without_loose : Kept → Kept
without_loose k = record { heads = k.heads; bodies = k.bodies; loose = map.empty; taken = k.taken; trail = k.trail }

-- ---- heads and sealed bodies alone

pub record Stored : Type 0 where
  pub heads : Store
  pub bodies : Store

abbrev pub stored : Kept → Stored
stored k = record { heads = k.heads; bodies = k.bodies }

abbrev pub changed_by : Effect → Stored → Stored
changed_by e s = record { heads = heads_after e s.heads; bodies = bodies_after e s.bodies }

-- ---- what a call with an effect leaves

-- the effect came
abbrev pub Comes : Effect → Kept → Kept → Type 0
Comes e old new = new ≡ after e old

-- the effect came, or nothing did
abbrev pub MayCome : Effect → Kept → Kept → Type 0
MayCome e old new = (new ≡ after e old) ⊎ (new ≡ old)

-- a removal: the effect came if there was something, and nothing did otherwise; either way it is gone
pub record Removes (e : Effect) (was : Bool) (old new : Kept) : Type 0 where
  pub comes : was ≡ true → new ≡ after e old
  pub same : was ≡ false → new ≡ old
  pub gone : stored new ≡ changed_by e (stored old)

-- ---- what always holds

-- each id of the map is below the bound
pub record IdsBelow {X : Type 0} (bound : ℕ) (m : map.FinMap nat_cmp X) : Type 0 where
  pub each : (id : ℕ) → map.contains_key m id ≡ true → id + 1 ≤ bound

-- no id is in both
pub record AreApart {X Y : Type 0} (m : map.FinMap nat_cmp X) (n : map.FinMap nat_cmp Y) : Type 0 where
  pub each : (id : ℕ) → map.contains_key m id ≡ true → map.contains_key n id ≡ false

-- each id is below the next, and no body is both sealed and unsealed
pub record IsSound (next : ℕ) (k : Kept) : Type 0 where
  pub heads : IdsBelow next k.heads
  pub bodies : IdsBelow next k.bodies
  pub loose : IdsBelow next k.loose
  pub apart : AreApart k.bodies k.loose
