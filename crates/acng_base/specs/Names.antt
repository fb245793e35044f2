-- A path's segments from the last one back, and names of packed files.
use Rattle.std.specs.Prelude.{ℕ, ◌-◌, Bool, nat_eq, List, [], ◌∷◌, length, take, reverse, cond, codes, slice_index_or}
use Rattle.std.specs.List.{starts_with, ends_with}
use Rattle.acng_base.specs.Paths.{segments}

abbrev pub begins_with : List ℕ → List ℕ → Bool
begins_with text front = starts_with nat_eq text front

abbrev pub has_ending : List ℕ → List ℕ → Bool
has_ending text ending = ends_with nat_eq text ending

-- a segment of a path, counted from the last one; nothing where there are fewer
abbrev pub from_last : ℕ → List ℕ → List ℕ
from_last n path = slice_index_or (reverse (segments path)) n []

-- what stands before the last segment and its slash
abbrev pub folder_of : List ℕ → List ℕ
folder_of path = take (length path - length (from_last 0 path) - 1) path

-- the endings of a packed file
abbrev pub packings : List (List ℕ)
packings = codes ".gz" ∷ codes ".xz" ∷ codes ".bz2" ∷ codes ".lzma" ∷ codes ".zst" ∷ []

-- a name without the first of the endings that it has
abbrev pub without_ending : List (List ℕ) → List ℕ → List ℕ
without_ending [] name = name
without_ending (e ∷ es) name = cond (has_ending name e) (take (length name - length e) name) (without_ending es name)

-- the last segment without one ending of a packed file, so that `Packages` and `Packages.xz` are one name
abbrev pub base_name : List ℕ → List ℕ
base_name path = without_ending packings (from_last 0 path)
