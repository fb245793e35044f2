-- The look-up of entries: an ordered map that answers as a walk over the groups does.
use Rattle.std.specs.Prelude.{◌≡◌, ℕ, List, true, Option}
use Rattle.std.specs.BTreeMap.{BTreeMap, get_by}
use Rattle.std.specs.Ordering.{nat_cmp}
use Rattle.std.specs.Cmp.Lexicographic.{slice_cmp}
use Rattle.acng_conf.specs.Settings.{Mirrors}
use Rattle.acng_conf.specs.Readings.{owner, are_names}

-- what the map has for an entry, where these are its keys' texts
abbrev pub owner_in : {K : Type 0} → (K → List ℕ) → BTreeMap K ℕ → List ℕ → Option ℕ
owner_in text owners entry = get_by (λ k. slice_cmp nat_cmp entry (text k)) owners

-- the map has the group of each entry, and each group has a name of its own
pub record IsLookUp {K : Type 0} (text : K → List ℕ) (owners : BTreeMap K ℕ) (groups : List Mirrors) : Type 0 where
  pub same : (entry : List ℕ) → owner_in text owners entry ≡ owner entry groups
  pub names : are_names groups ≡ true
