-- The class of a file, by its path: this project's own rules for the files of a Debian repository.
use Rattle.std.specs.Prelude.{ℕ, Bool, false, not, ◌&&◌, ◌||◌, nat_le, List, [], ◌∷◌, cond, codes, bytes_eq, Option}
use Rattle.std.specs.List.{list_any, list_all}
use Rattle.std.specs.Option.{option_map_or}
use Rattle.acng_base.specs.Names.{begins_with, has_ending, from_last, base_name}
use Rattle.acng_base.specs.Paths.{segments}
use Rattle.acng_class.specs.Patterns.{found_by}
use Rattle.acng_class.specs.declared.class.Class.{Class}
use Rattle.acng_class.specs.declared.class.Class.TheVariants.{Solid, Volatile, Forbidden}

-- ---- the tests of the table

-- a digit from 0 to 9 or a letter from a to f, in either case
abbrev pub is_hex_digit : ℕ → Bool
is_hex_digit b = nat_le 48 b && nat_le b 57 || nat_le 65 b && nat_le b 70 || nat_le 97 b && nat_le b 102

-- how a `Release` file names its hashes
abbrev pub hash_names : List (List ℕ)
hash_names = codes "MD5Sum" ∷ codes "SHA1" ∷ codes "SHA256" ∷ codes "SHA512" ∷ []

-- a file whose name is the hash of its bytes
unfoldable pub is_by_hash : List ℕ → Bool
is_by_hash path =
    bytes_eq (from_last 2 path) (codes "by-hash") && list_any (bytes_eq (from_last 1 path)) hash_names
    && list_all is_hex_digit (from_last 0 path)

-- a difference between two states of an index; the list of them is itself an index
unfoldable pub is_difference : List ℕ → Bool
is_difference path = has_ending (from_last 1 path) (codes ".diff") && not (bytes_eq (base_name path) (codes "Index"))

-- whole names of files that a repository writes anew
abbrev pub index_names : List (List ℕ)
index_names = codes "Release" ∷ codes "InRelease" ∷ codes "Release.gpg" ∷ codes "Packages" ∷ codes "Sources" ∷ codes "Index"
    ∷ codes "ls-lR" ∷ codes "MD5SUMS" ∷ codes "SHA256SUMS" ∷ []

-- and how others begin
abbrev pub index_fronts : List (List ℕ)
index_fronts = codes "Contents-" ∷ codes "Translation-" ∷ codes "Components-" ∷ codes "Commands-" ∷ codes "icons-" ∷ []

-- a segment begins as an installer's folder does
abbrev pub has_installer : List ℕ → Bool
has_installer path = list_any (λ s. begins_with s (codes "installer-")) (segments path)

-- a file that a repository writes anew, or one of an installer's folder
unfoldable pub is_index : List ℕ → Bool
is_index path =
    list_any (bytes_eq (base_name path)) index_names || list_any (begins_with (base_name path)) index_fronts || has_installer path

-- the endings of files that never change
abbrev pub solid_endings : List (List ℕ)
solid_endings = codes ".deb" ∷ codes ".udeb" ∷ codes ".ddeb" ∷ codes ".dsc" ∷ codes ".gz" ∷ codes ".xz" ∷ codes ".bz2" ∷ codes ".lzma"
    ∷ codes ".zst" ∷ codes ".asc" ∷ codes ".changes" ∷ codes ".buildinfo" ∷ []

unfoldable pub has_solid_ending : List ℕ → Bool
has_solid_ending path = list_any (has_ending (from_last 0 path)) solid_endings

-- a pattern that isn't given is found nowhere
unfoldable pub is_found : Option (List ℕ) → List ℕ → Bool
is_found pattern path = option_map_or (λ source. found_by source path) pattern false

-- ---- the table: the first line that fits decides

-- a path's class under the patterns of further solid and further volatile files
unfoldable pub class_of : Option (List ℕ) → Option (List ℕ) → List ℕ → Class
class_of solid volatile path =
    cond (is_by_hash path) Solid
    (cond (is_difference path) Solid
    (cond (is_index path) Volatile
    (cond (is_found volatile path) Volatile
    (cond (has_solid_ending path) Solid
    (cond (is_found solid path) Solid
    Forbidden)))))
