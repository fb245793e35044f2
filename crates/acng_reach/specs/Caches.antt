-- The held whole bodies, and what the indexes among them say.
use Rattle.std.specs.Prelude.{ℕ, ◌^◌, nat_le, Bool, not, ◌||◌, ◌&&◌, ◌==◌, List, [], ◌∷◌, length, map, cond, codes, bytes_eq, Option, None, option_map}
use Rattle.std.specs.Option.{option_or}
use Rattle.std.specs.List.{flat_map}
use Rattle.std.specs.Result.{result_ok}
use Rattle.sha2.specs.Sha256.{sha256}
use Rattle.acng_base.specs.Names.{folder_of}
use Rattle.acng_index.specs.Releases.{Listed as Release, release}
use Rattle.acng_index.specs.Frames.{inrelease}
use Rattle.acng_index.specs.Packages.{packages}
use Rattle.acng_index.specs.declared.entry.IndexEntry.{IndexEntry}
use Rattle.acng_index.specs.declared.name.Named.{Named}
use Rattle.acng_reach.specs.Names.{is_last, sibling, place_of, by_hash_of, is_packages}
use Rattle.acng_reach.specs.Sets.{among}
use Rattle.acng_reach.specs.declared.index.Listed.{Listed}
use Rattle.acng_reach.specs.declared.index.Index.{Index}

-- the paths of the held whole bodies in byte order, and the text of each
pub record Cache : Type 0 where
  pub paths : List (List ℕ)
  pub text : List ℕ → List ℕ

abbrev pub is_held : Cache → List ℕ → Bool
is_held c path = among path c.paths

-- ---- current indexes

-- an `InRelease`, or a `Release` without one beside it
abbrev pub is_current : Cache → List ℕ → Bool
is_current c path = is_last (codes "InRelease") path
    || (is_last (codes "Release") path && not (is_held c (sibling path (codes "InRelease"))))

abbrev pub read_by_name : List ℕ → List ℕ → Option Release
read_by_name path text = result_ok (cond (is_last (codes "InRelease") path) (inrelease text) (release text))

-- ---- the lists of packages of an index

-- the text has the entry's size and hash; no entry has more than 2^41 bytes
abbrev pub is_listed : IndexEntry → List ℕ → Bool
is_listed e text = length text == e.size && (nat_le e.size (2 ^ 41) && bytes_eq (sha256 text) e.hash.0)

-- the names in the text of a list of packages, where it is the entry's and reads
abbrev pub names_in : IndexEntry → List ℕ → Option (List Named)
names_in e text = cond (is_listed e text) (result_ok (packages text)) None

abbrev pub names_at : Cache → IndexEntry → List ℕ → Option (List Named)
names_at c e path = cond (is_held c path) (names_in e (c.text path)) None

-- the names of an entry, whose file is held at its path or at its name by hash
abbrev pub names_of : Cache → List ℕ → IndexEntry → Option (List Named)
names_of c folder e =
    cond (is_packages e.path) (option_or (names_at c e (place_of folder e)) (names_at c e (by_hash_of folder e))) None

abbrev pub listed_by : Cache → List ℕ → IndexEntry → Listed
listed_by c folder e = record { entry = e; names = names_of c folder e }

abbrev pub list_by : Cache → List ℕ → Release → List Listed
list_by c folder r = map (listed_by c folder) r.entries

-- the index at a path, with its list where it reads
abbrev pub index_at : Cache → List ℕ → Index
index_at c path = record {
  place = path;
  list = option_map (list_by c (folder_of path)) (read_by_name path (c.text path));
}

abbrev pub found_at : Cache → List ℕ → List Index
found_at c path = cond (is_current c path) (index_at c path ∷ []) []

-- the current indexes, in the order of their paths
abbrev pub indexes : Cache → List Index
indexes c = flat_map (found_at c) c.paths
