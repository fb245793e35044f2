-- The paths that an index gives, from its own folder and from the base of its repository (Debian wiki, RepositoryFormat).
use Rattle.std.specs.Prelude.{ℕ, Bool, ◌&&◌, List, [], ◌∷◌, ◌++◌, reverse, cond, codes, bytes_eq, Option, Some, None}
use Rattle.std.specs.Option.{unwrap_or}
use Rattle.hex.specs.Hex.{encode_lower}
use Rattle.acng_base.specs.Cuts.{is_empty, slash}
use Rattle.acng_base.specs.Paths.{segments}
use Rattle.acng_base.specs.Names.{from_last, folder_of, base_name, has_ending}
use Rattle.acng_index.specs.declared.entry.IndexEntry.{IndexEntry}

-- ---- folders

-- a path below a folder, whether that has a name or not
abbrev pub joined : List ℕ → List ℕ → List ℕ
joined folder path = folder ++ slash ∷ path

-- a path below a folder; the top one has no name, and no slash behind it
abbrev pub beneath : List ℕ → List ℕ → List ℕ
beneath folder path = cond (is_empty folder) path (joined folder path)

-- another file of the same folder
abbrev pub sibling : List ℕ → List ℕ → List ℕ
sibling path name = beneath (folder_of path) name

-- a folder below another one, or that one itself
abbrev pub inner : List ℕ → List ℕ → List ℕ
inner above folder = cond (is_empty folder) above (joined above folder)

abbrev pub is_last : List ℕ → List ℕ → Bool
is_last name path = bytes_eq (from_last 0 path) name

-- ---- the base of a repository: what stands before the last segment `dists` of its index's folder

-- the segments are those of the text, from the last one back
abbrev pub before_dists : List (List ℕ) → List ℕ → Option (List ℕ)
before_dists [] text = None
before_dists (s ∷ ss) text = cond (bytes_eq s (codes "dists")) (Some (folder_of text)) (before_dists ss (folder_of text))

abbrev pub base_of : List ℕ → List ℕ
base_of folder = unwrap_or (before_dists (reverse (segments folder)) folder) folder

-- ---- the entries of an index, from its folder

abbrev pub place_of : List ℕ → IndexEntry → List ℕ
place_of folder e = joined folder e.path

-- the name by the hash, beside the entry's file
abbrev pub by_hash_of : List ℕ → IndexEntry → List ℕ
by_hash_of folder e = joined folder (beneath (folder_of e.path) (codes "by-hash/SHA256/" ++ encode_lower e.hash.0))

-- a list of packages, as it is or packed
abbrev pub is_packed : List ℕ → Bool
is_packed path = bytes_eq (base_name path) (codes "Packages")

abbrev pub is_packages : List ℕ → Bool
is_packages path = is_last (codes "Packages") path

-- the list of a folder of differences: `Index` in a folder whose name ends with `.diff`
abbrev pub is_diff : List ℕ → Bool
is_diff path = is_last (codes "Index") path && has_ending (from_last 1 path) (codes ".diff")
