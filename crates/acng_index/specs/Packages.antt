-- A list of packages (Debian wiki, RepositoryFormat): the files that it names.
use Rattle.std.specs.Prelude.{ℕ, List, [], ◌∷◌, drop, cond, codes, bytes_eq, take, length, Bool, Option, Some, None, Result, Ok, Err}
use Rattle.std.specs.Option.{option_map_or}
use Rattle.acng_base.specs.Fields.{length_of}
use Rattle.acng_stanza.specs.Stanzas.{Field, field, nth, Reading, reading}
use Rattle.acng_index.specs.Texts.{hash_of, is_path, and_then, or_refuse}
use Rattle.acng_index.specs.declared.name.Named.{Named}
use Rattle.acng_index.specs.declared.fault.IndexFault.{IndexFault}
use Rattle.acng_index.specs.declared.fault.IndexFault.TheVariants.{Stanza, NoFilename, BadName, BadField}

-- the text begins with these bytes
abbrev pub begins_as : List ℕ → List ℕ → Bool
begins_as front text = bytes_eq (take (length front) text) front

-- a leading `./` is dropped
abbrev pub plain_name : List ℕ → List ℕ
plain_name text = cond (begins_as (codes "./") text) (drop 2 text) text

abbrev pub path_of : Field → Result (List ℕ) IndexFault
path_of f = cond (is_path (plain_name f.value)) (Ok (plain_name f.value)) (Err (BadName f.line))

abbrev pub kept : {A : Type 0} → ℕ → Option A → Result (Option A) IndexFault
kept n None = Err (BadField n)
kept n (Some x) = Ok (Some x)

-- a field that may be missing
abbrev pub maybe : {A : Type 0} → (List ℕ → Option A) → Option Field → Result (Option A) IndexFault
maybe read None = Ok None
maybe read (Some f) = kept f.line (read f.value)

-- the file that a stanza names
abbrev pub named_of : List Field → Result Named IndexFault
named_of s =
    and_then (or_refuse (NoFilename (nth s 0).line) (field (codes "Filename") s))
    (λ f. and_then (path_of f)
    (λ path. and_then (maybe length_of (field (codes "Size") s))
    (λ size. and_then (maybe hash_of (field (codes "SHA256") s))
    (λ hash. Ok (record { path = path; size = size; hash = hash })))))

abbrev pub names_of : List (List Field) → Result (List Named) IndexFault
names_of [] = Ok []
names_of (s ∷ ss) = and_then (named_of s) (λ n. and_then (names_of ss) (λ ns. Ok (n ∷ ns)))

-- the refusal of a stanza goes before every other one
abbrev pub packages_by : Reading → Result (List Named) IndexFault
packages_by r = option_map_or (λ f. Err (Stanza f)) r.fault (names_of r.stanzas)

abbrev pub packages : List ℕ → Result (List Named) IndexFault
packages text = packages_by (reading text)
