-- The held bodies as reach reads them.
use Rattle.std.specs.Prelude.{◌≡◌, ◌-◌, ℕ, Bool, true, List, [], ◌∷◌, length, cond, Option, Some, None}
use Rattle.std.specs.List.{slice_get}
use Rattle.std.specs.Ordering.{nat_cmp, is_lt}
use Rattle.std.specs.Cmp.Lexicographic.{slice_cmp}
use Rattle.acng_base.specs.Paths.{path_refusal}
use Rattle.acng_keeper.specs.Kept.{Stored}
use Rattle.acng_keeper.specs.declared.effect.Effect.{Effect}
use Rattle.acng_keeper.specs.declared.slip.KeepFault.{KeepFault}
use Rattle.acng_keeper.specs.declared.slip.KeepFault.TheVariants.{Slip, NoMemory}
use Rattle.acng_desk.specs.House.{Plain}
use Rattle.acng_reach.specs.Sets.{among}

-- the second text is above the first, in byte order
abbrev pub is_above : List ℕ → List ℕ → Bool
is_above text other = is_lt (slice_cmp nat_cmp text other)

abbrev pub first_where : (List ℕ → Bool) → List (List ℕ) → Option (List ℕ)
first_where test [] = None
first_where test (p ∷ ps) = cond (test p) (Some p) (first_where test ps)

-- the first of these paths, or the first above another
abbrev pub first_above : Option (List ℕ) → List (List ℕ) → Option (List ℕ)
first_above None paths = first_where (λ _. true) paths
first_above (Some after) paths = first_where (is_above after) paths

abbrev pub last_of : List (List ℕ) → Option (List ℕ)
last_of paths = slice_get paths (length paths - 1)

pub record ArePaths (paths : List (List ℕ)) : Type 0 where
  pub each : (path : List ℕ) → among path paths ≡ true → path_refusal path ≡ None

-- a slip comes only where calls may fail; want of memory is free
abbrev pub MaySlip : {P : Type 0} → Bool → KeepFault P → Type 0
MaySlip may (Slip p) = may ≡ true
MaySlip may NoMemory = Unit {0}

-- What reading leaves as it is: what a desk knows and, as far as it is told, its heads, its sealed bodies and the effects
-- so far. Beside it stands whether calls may fail.
pub record Rest : Type 0 where
  pub plain : Plain
  pub stored : Stored
  pub trail : List Effect
  pub may_slip : Bool
