-- What is reached, which folders are problems, and what is named: tests on one path, one folder and one file.
use Rattle.std.specs.Prelude.{ℕ, Bool, false, not, ◌||◌, ◌&&◌, ◌==◌, List, length, codes, bytes_eq, Option, Some, None, is_some}
use Rattle.std.specs.List.{list_any}
use Rattle.std.specs.Option.{option_map_or}
use Rattle.acng_base.specs.Cuts.{is_empty}
use Rattle.acng_base.specs.Names.{folder_of}
use Rattle.acng_base.specs.declared.hash.Hash.{Hash}
use Rattle.acng_index.specs.declared.name.Named.{Named}
use Rattle.acng_reach.specs.Names.{sibling, joined, inner, base_of, place_of, by_hash_of, is_packed, is_diff}
use Rattle.acng_reach.specs.Caches.{Cache, indexes}
use Rattle.acng_reach.specs.Sets.{same, among}
use Rattle.acng_reach.specs.declared.index.Listed.{Listed}
use Rattle.acng_reach.specs.declared.index.Index.{Index}

-- some item of a list that may be missing
abbrev pub some : {A : Type 0} → (A → Bool) → Option (List A) → Bool
some p None = false
some p (Some xs) = list_any p xs

-- ---- reached

abbrev pub is_name : List ℕ → List ℕ → Named → Bool
is_name base path n = same path (joined base n.path)

-- the path is that of the entry's file, its name by the hash, or one of the names in its file
abbrev pub given_by_entry : List ℕ → List ℕ → Listed → Bool
given_by_entry folder path l =
    same path (place_of folder l.entry) || same path (by_hash_of folder l.entry) || some (is_name (base_of folder) path) l.names

-- the path is that of the index, of its signature, or given by an entry
abbrev pub given_by : List ℕ → Index → Bool
given_by path x =
    same path x.place || same path (sibling x.place (codes "Release.gpg"))
    || some (given_by_entry (folder_of x.place) path) x.list

-- the entry is a list of differences in this folder
abbrev pub is_diff_in : List ℕ → List ℕ → Listed → Bool
is_diff_in folder within l = is_diff l.entry.path && same within (folder_of (place_of folder l.entry))

abbrev pub has_folder : List ℕ → Index → Bool
has_folder within x = some (is_diff_in (folder_of x.place) within) x.list

-- what the index gives, and each held path in the folder of one of its lists of differences
abbrev pub reached_by : List (List ℕ) → List ℕ → Index → Bool
reached_by held path x = given_by path x || (among path held && has_folder (folder_of path) x)

abbrev pub is_reached : List (List ℕ) → List Index → List ℕ → Bool
is_reached held xs path = list_any (reached_by held path) xs

-- ---- problems

-- the entry is a list of packages, packed or not, and held
abbrev pub is_live : List (List ℕ) → List ℕ → Listed → Bool
is_live held folder l =
    is_packed l.entry.path && (among (place_of folder l.entry) held || among (by_hash_of folder l.entry) held)

-- the entry is in this folder, and read
abbrev pub is_read : List ℕ → Listed → Bool
is_read within l = same within (folder_of l.entry.path) && is_some l.names

-- the entry makes its folder live, which has this name, and no entry there is read
abbrev pub is_unread : List (List ℕ) → List ℕ → List ℕ → List Listed → Listed → Bool
is_unread held text folder ls l =
    same text (inner folder (folder_of l.entry.path))
    && (is_live held folder l && not (list_any (is_read (folder_of l.entry.path)) ls))

-- a live folder that isn't read, or the folder of an index that doesn't read
abbrev pub problem_by : List (List ℕ) → List ℕ → Index → Bool
problem_by held text x =
    option_map_or (λ ls. list_any (is_unread held text (folder_of x.place) ls) ls) x.list (same text (folder_of x.place))

abbrev pub is_failed : List ℕ → List ℕ → Bool
is_failed text path = same text (folder_of path)

-- bodies are held, and no index among them
abbrev pub is_lost : List (List ℕ) → List Index → Bool
is_lost held xs = not (length held == 0) && length xs == 0

abbrev pub is_problem : List (List ℕ) → List Index → List (List ℕ) → List ℕ → Bool
is_problem held xs failed text =
    list_any (problem_by held text) xs || list_any (is_failed text) failed || (is_empty text && is_lost held xs)

-- ---- named

abbrev pub is_file : List ℕ → ℕ → Option Hash → Option ℕ → Bool
is_file hash size None s = false
is_file hash size (Some h) None = false
is_file hash size (Some h) (Some s) = bytes_eq h.0 hash && s == size

-- a name in the base, with this hash and size
abbrev pub names_file : List ℕ → List ℕ → ℕ → List ℕ → Named → Bool
names_file base hash size path n = is_name base path n && is_file hash size n.hash n.size

abbrev pub named_by_entry : List ℕ → List ℕ → ℕ → List ℕ → Listed → Bool
named_by_entry folder hash size path l =
    (same path (place_of folder l.entry) && is_file hash size (Some l.entry.hash) (Some l.entry.size))
    || some (names_file (base_of folder) hash size path) l.names

abbrev pub named_by : List ℕ → ℕ → List ℕ → Index → Bool
named_by hash size path x = some (named_by_entry (folder_of x.place) hash size path) x.list

abbrev pub is_named : List Index → List ℕ → ℕ → List ℕ → Bool
is_named xs hash size path = list_any (named_by hash size path) xs

-- ---- of a cache

abbrev pub reached : Cache → List ℕ → Bool
reached c path = is_reached c.paths (indexes c) path

abbrev pub problem : Cache → List (List ℕ) → List ℕ → Bool
problem c failed text = is_problem c.paths (indexes c) failed text

abbrev pub named : Cache → List ℕ → ℕ → List ℕ → Bool
named c hash size path = is_named (indexes c) hash size path

-- ---- what code keeps of it

-- the path is this held one, in one of these folders
abbrev pub is_in : List (List ℕ) → List ℕ → List ℕ → Bool
is_in folders path held = same path held && among (folder_of held) folders

-- the entry makes its folder live, which has this name and isn't among the read ones
abbrev pub is_unread_by : List (List ℕ) → List ℕ → List ℕ → List (List ℕ) → Listed → Bool
is_unread_by held text folder read l =
    same text (inner folder (folder_of l.entry.path)) && (is_live held folder l && not (among (folder_of l.entry.path) read))
