-- Which entry of a group decides over a place: whole segments count, and the longest entry that fits.
use Rattle.std.specs.Prelude.{ℕ, Bool, true, false, not, ◌&&◌, ◌==◌, nat_lt, List, [], ◌∷◌, ◌++◌, cond, length, bytes_eq, is_some, slice_index_or, filter, Option, Some, None, option_and_then, slice_index, ◌<◌, ◌≤◌, ◌+◌, ◌≡◌}
use Rattle.std.specs.List.{starts_with}
use Rattle.acng_base.specs.Paths.{segments, is_slash}
use Rattle.acng_base.specs.Cuts.{slash}
use Rattle.acng_conf.specs.Lines.{first_is}
use Rattle.acng_conf.specs.Readings.{owner, new_group}
use Rattle.acng_conf.specs.Settings.{Mirrors}

-- no slash stands in the text
abbrev pub HasNoSlash : List ℕ → Type 0
HasNoSlash text = (k : ℕ) → k < length text → is_slash (slice_index text k) ≡ false

-- the last slash of the text stands there
pub record IsLastSlash (text : List ℕ) (at : ℕ) : Type 0 where
  pub within : at < length text
  pub slash : is_slash (slice_index text at) ≡ true
  pub last : (k : ℕ) → at + 1 ≤ k → k < length text → is_slash (slice_index text k) ≡ false

-- the segments of the entry are the first segments of the place
abbrev pub fits : List ℕ → List ℕ → Bool
fits place entry = starts_with bytes_eq (segments place) (segments entry)

-- the group of this number
abbrev pub group : List Mirrors → ℕ → Mirrors
group groups k = slice_index_or groups k (new_group [] 0)

abbrev pub has_target : Mirrors → Bool
has_target g = not (length g.targets == 0)

-- a prefix, which begins with a slash, merges only into a group with a target
abbrev pub counts : List ℕ → Mirrors → Bool
counts entry g = not (first_is slash entry && not (has_target g))

abbrev pub if_counts : List ℕ → List Mirrors → ℕ → Option ℕ
if_counts entry groups k = cond (counts entry (group groups k)) (Some k) None

-- the number of the group into which the entry merges
unfoldable pub group_of : List Mirrors → List ℕ → Option ℕ
group_of groups entry = option_and_then (λ k. if_counts entry groups k) (owner entry groups)

-- the entries of all groups
abbrev pub entries : List Mirrors → List (List ℕ)
entries [] = []
entries (g ∷ gs) = g.merging ++ entries gs

-- the longer text, the second where they are equally long
abbrev pub longer : List ℕ → List ℕ → List ℕ
longer a b = cond (nat_lt (length b) (length a)) a b

abbrev pub longer_of : List ℕ → Option (List ℕ) → Option (List ℕ)
longer_of a None = Some a
longer_of a (Some b) = Some (longer a b)

-- the longest of some texts
abbrev pub longest : List (List ℕ) → Option (List ℕ)
longest [] = None
longest (e ∷ es) = longer_of e (longest es)

abbrev pub is_candidate : List Mirrors → List ℕ → List ℕ → Bool
is_candidate groups place entry = fits place entry && is_some (group_of groups entry)

-- the entry that decides over a place: of those that fit the one with the most bytes
unfoldable pub deciding : List Mirrors → List ℕ → Option (List ℕ)
deciding groups place = longest (filter (is_candidate groups place) (entries groups))
