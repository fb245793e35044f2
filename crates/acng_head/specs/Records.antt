-- The record of a file of the cache: its text, as a function of the head. The format is this project's own, version 1.
use Rattle.std.specs.Prelude.{◌≡◌, ◌≢◌, ℕ, ◌^◌, ◌<◌, ◌≤◌, true, List, [], ◌∷◌, ◌++◌, length, codes, decimal, Option}
use Rattle.std.specs.Prelude.{None, Some, option_map, IfSome}
use Rattle.std.specs.Option.{option_copied}
use Rattle.hex.specs.Hex.{IsBytes, encode_lower}
use Rattle.acng_base.specs.Moments.{moment_limit}
use Rattle.acng_base.specs.Paths.{path_refusal}
use Rattle.acng_base.specs.Tags.{is_tag}
use Rattle.acng_base.specs.declared.clock.Moment.{Moment}
use Rattle.acng_base.specs.declared.hash.Hash.{Hash}
use Rattle.acng_head.specs.declared.head.Head.{Head}
use Rattle.acng_head.specs.declared.head.Label.{Label}
use Rattle.acng_head.specs.declared.head.Label.TheVariants.{Fetched, Imported}
use Rattle.acng_head.specs.declared.lines.Lines.{Lines}

-- ---- lines

-- no byte of the text is this one
abbrev pub Lacks : ℕ → List ℕ → Type 0
Lacks byte [] = Unit {0}
Lacks byte (b ∷ bs) = (b ≢ byte) × Lacks byte bs

-- a line of a key and a value, and what follows it
abbrev pub line : List ℕ → List ℕ → List ℕ → List ℕ
line key value rest = key ++ (value ++ 10 ∷ rest)

-- a line that may be missing, and what follows it
abbrev pub maybe : List ℕ → Option (List ℕ) → List ℕ → List ℕ
maybe key None rest = rest
maybe key (Some value) rest = line key value rest

-- the values of a record's lines
pub record Values : Type 0 where
  pub path : List ℕ
  pub origin : List ℕ
  pub size : List ℕ
  pub tag : Option (List ℕ)
  pub modified : Option (List ℕ)
  pub checked : List ℕ
  pub mark : Option (List ℕ)

-- each value is inside one line
pub record AreValues (v : Values) : Type 0 where
  pub path : Lacks 10 v.path
  pub origin : Lacks 10 v.origin
  pub size : Lacks 10 v.size
  pub tag : IfSome v.tag (Lacks 10)
  pub modified : IfSome v.modified (Lacks 10)
  pub checked : Lacks 10 v.checked
  pub mark : IfSome v.mark (Lacks 10)

-- the text of the lines, in their order
unfoldable pub text_of : Values → List ℕ
text_of v =
    line (codes "acng-head 1") []
    (line (codes "path ") v.path
    (line (codes "origin ") v.origin
    (line (codes "size ") v.size
    (maybe (codes "tag ") v.tag
    (maybe (codes "modified ") v.modified
    (line (codes "checked ") v.checked
    (maybe (codes "mark ") v.mark
    (line (codes "end") [] []))))))))

-- the values that a text was cut into
abbrev pub cut_values : Lines → Values
cut_values l = record {
  path = l.path.now;
  origin = l.origin.now;
  size = l.size.now;
  tag = option_copied l.tag;
  modified = option_copied l.modified;
  checked = l.checked.now;
  mark = option_copied l.mark;
}

-- ---- heads

-- two attempts, or a hash in lower-case digits
abbrev pub origin_text : Label → List ℕ
origin_text (Fetched first last) = codes "fetched " ++ (decimal first ++ 32 ∷ decimal last)
origin_text (Imported sha256 size) = codes "imported " ++ encode_lower sha256.0

abbrev pub moment_text : Option Moment → Option (List ℕ)
moment_text o = option_map (λ (m : Moment). decimal m.0) o

-- the values of the lines of a head
unfoldable pub values_of : Head → Values
values_of h = record {
  path = h.path;
  origin = origin_text h.label;
  size = decimal h.size;
  tag = h.tag;
  modified = moment_text h.modified;
  checked = decimal h.checked.0;
  mark = moment_text h.mark;
}

-- the record of a head
abbrev pub record_text : Head → List ℕ
record_text h = text_of (values_of h)

-- attempts are below 2^63 and in order; an import has as many bytes as the file
abbrev pub IsBoundedLabel : ℕ → Label → Type 0
IsBoundedLabel bytes (Fetched first last) = (first ≤ last) × (last < 2 ^ 63)
IsBoundedLabel bytes (Imported sha256 size) = size ≡ bytes

-- the bounds of a head that has a record
pub record IsBounded (h : Head) : Type 0 where
  pub label : IsBoundedLabel h.size h.label
  pub size : h.size ≤ 2 ^ 41
  pub modified : IfSome h.modified (λ m. m.0 < moment_limit)

-- a hash has 32 bytes
abbrev pub IsHash : Hash → Type 0
IsHash h = (length h.0 ≡ 32) × IsBytes h.0

abbrev pub IsTypedLabel : Label → Type 0
IsTypedLabel (Fetched first last) = Unit {0}
IsTypedLabel (Imported sha256 size) = IsHash sha256

-- what the types of a head's fields say
pub record IsTyped (h : Head) : Type 0 where
  pub path : path_refusal h.path ≡ None
  pub label : IsTypedLabel h.label
  pub tag : IfSome h.tag (λ t. is_tag t ≡ true)
  pub checked : h.checked.0 < 2 ^ 64
  pub mark : IfSome h.mark (λ m. m.0 < 2 ^ 64)

-- a head that has a record
pub record IsHead (h : Head) : Type 0 where
  pub typed : IsTyped h
  pub bounded : IsBounded h

-- the text is the record of this head
pub record IsRecordOf (bytes : List ℕ) (h : Head) : Type 0 where
  pub head : IsHead h
  pub text : record_text h ≡ bytes

-- a text is the record of one head
abbrev pub OneRecord : Type 0
OneRecord = (bytes : List ℕ) (g h : Head) → IsRecordOf bytes g → IsRecordOf bytes h → g ≡ h
