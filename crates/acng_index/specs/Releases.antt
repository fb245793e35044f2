-- A release file (Debian wiki, RepositoryFormat): the files that it lists by their SHA-256.
use Rattle.std.specs.Prelude.{ℕ, ◌+◌, Bool, false, List, [], ◌∷◌, ◌++◌, option_map, cond, codes, bytes_eq, Option, Some, None, Result, Ok, Err}
use Rattle.std.specs.Option.{option_map_or}
use Rattle.acng_base.specs.Fields.{length_of}
use Rattle.acng_base.specs.Cuts.{is_empty, pieces, words}
use Rattle.acng_base.specs.declared.hash.Hash.{Hash}
use Rattle.acng_stanza.specs.Stanzas.{Field, field, value_of, Reading, reading_from}
use Rattle.acng_index.specs.Texts.{hash_of, is_path, and_then, or_refuse}
use Rattle.acng_index.specs.declared.entry.IndexEntry.{IndexEntry}
use Rattle.acng_index.specs.declared.fault.IndexFault.{IndexFault}
use Rattle.acng_index.specs.declared.fault.IndexFault.TheVariants.{Stanza, NotOneStanza, NoList, BadEntry}

-- the files, and whether they can be had by their hashes
pub record Listed : Type 0 where
  pub entries : List IndexEntry
  pub by_hash : Bool

-- ---- entries

abbrev pub entry_by : List ℕ → Option Hash → Option ℕ → Option IndexEntry
entry_by path None size = None
entry_by path (Some hash) None = None
entry_by path (Some hash) (Some size) = cond (is_path path) (Some (record { hash = hash; size = size; path = path })) None

-- a hash, a size and a path
abbrev pub entry_of : List (List ℕ) → Option IndexEntry
entry_of (h ∷ s ∷ p ∷ []) = entry_by p (hash_of h) (length_of s)
entry_of _ = None

-- the entry of line n; an empty line says nothing
abbrev pub line_entries : ℕ → List ℕ → Result (List IndexEntry) IndexFault
line_entries n l = cond (is_empty l) (Ok []) (and_then (or_refuse (BadEntry n) (entry_of (words l))) (λ e. Ok (e ∷ [])))

-- the lines of the list, of which the first is line n of the text
abbrev pub entries_of : ℕ → List (List ℕ) → Result (List IndexEntry) IndexFault
entries_of n [] = Ok []
entries_of n (l ∷ ls) = and_then (line_entries n l) (λ es. and_then (entries_of (n + 1) ls) (λ more. Ok (es ++ more)))

-- ---- the file

abbrev pub is_yes : Option (List ℕ) → Bool
is_yes None = false
is_yes (Some value) = bytes_eq value (codes "yes")

abbrev pub has_hashes : List Field → Bool
has_hashes fields = is_yes (option_map value_of (field (codes "Acquire-By-Hash") fields))

abbrev pub release_of : List Field → Result Listed IndexFault
release_of fields =
    and_then (or_refuse NoList (field (codes "SHA256") fields))
    (λ f. and_then (entries_of f.line (pieces f.value)) (λ es. Ok (record { entries = es; by_hash = has_hashes fields })))

abbrev pub only : List (List Field) → Result Listed IndexFault
only (s ∷ []) = release_of s
only _ = Err NotOneStanza

-- the refusal of a stanza goes before every other one
abbrev pub release_by : Reading → Result Listed IndexFault
release_by r = option_map_or (λ f. Err (Stanza f)) r.fault (only r.stanzas)

-- a text whose first line has this number
abbrev pub release_from : ℕ → List ℕ → Result Listed IndexFault
release_from n text = release_by (reading_from n text)

abbrev pub release : List ℕ → Result Listed IndexFault
release text = release_from 1 text
