-- What a start finds.
use Rattle.std.specs.Prelude.{◌≡◌, ◌==◌, ◌⊎◌, ℕ, ◌+◌, ◌^◌, ◌<◌, max, true, cond, is_some, List, [], ◌∷◌, length, take, Option, None, Some}
use Rattle.std.specs.List.{list_any}
use Rattle.std.specs.FinMap as map
use Rattle.std.specs.Ordering.{nat_cmp}
use Rattle.acng_head.specs.declared.head.Head.{Head}
use Rattle.acng_head.specs.declared.head.Label.{Label}
use Rattle.acng_head.specs.declared.head.Label.TheVariants.{Fetched, Imported}
use Rattle.acng_head.specs.Records.{IsHead, record_text}
use Rattle.acng_keeper.specs.Kept.{Kept, Store, Stored, IdSet, stored}
use Rattle.acng_rows.specs.declared.removal.Removal.{Removal}
use Rattle.acng_rows.specs.declared.removal.Removal.TheVariants as removal
use Rattle.acng_rows.specs.declared.row.Whole.{Whole}
use Rattle.acng_rows.specs.Rows.{Rows, whole_at, out_at, head_of, row_of}
use Rattle.acng_rows.specs.Goods.{IsNamed}
use Rattle.acng_rows.specs.Removals.{IsIn}

-- the first heads of a list, and these bodies
abbrev pub front : List (ℕ × List ℕ) → Store → ℕ → Stored
front heads bodies i = record { heads = map.from_entries {R = nat_cmp} (take i heads); bodies = bodies }

-- these bytes are the record of a head that has a body of its size
pub record FitsBody (bodies : Store) (id : ℕ) (bytes : List ℕ) (h : Head) : Type 0 where
  pub text : List ℕ
  pub reads : IsHead h
  pub record_is : record_text h ≡ bytes
  pub body : map.get bodies id ≡ Some text
  pub size : length text ≡ h.size

-- what one head makes of the rows: nothing, since it has no body of its size, or the row of its path
abbrev pub Steps : Store → ℕ → List ℕ → Rows → Rows → Type 0
Steps bodies id bytes rows new = (((h : Head) → FitsBody bodies id bytes h → ⊥) × (new ≡ rows))
    ⊎ ((h : Head) × FitsBody bodies id bytes h × (new ≡ map.insert rows h.path (row_of id h)))

-- the same where nothing is known of bodies
abbrev pub Enters : ℕ → Rows → Rows → Type 0
Enters id rows new = (new ≡ rows) ⊎ ((h : Head) × IsHead h × (new ≡ map.insert rows h.path (row_of id h)))

-- no ticket is out, and each row has a whole body with an id of its own, whose head can be written
pub record AreFound (next : ℕ) (rows : Rows) : Type 0 where
  pub heads : (path : List ℕ) (w : Whole) → whole_at rows path ≡ Some w → IsHead (head_of path w)
  pub below : (path : List ℕ) (w : Whole) → whole_at rows path ≡ Some w → w.id < next
  pub apart : (path other : List ℕ) (w x : Whole) → whole_at rows path ≡ Some w → whole_at rows other ≡ Some x → w.id ≡ x.id → path ≡ other
  pub wholes : (path : List ℕ) → is_some (whole_at rows path) ≡ map.contains_key rows path
  pub outs : (path : List ℕ) → out_at rows path ≡ None

-- the keeper has what it had
pub record Same (old new : Kept) : Type 0 where
  pub stored_is : stored new ≡ stored old
  pub loose_is : new.loose ≡ old.loose
  pub trail_is : new.trail ≡ old.trail

-- the label names no attempt from n on
abbrev pub NamesBelow : ℕ → Label → Type 0
NamesBelow n (Fetched first last) = last < n
NamesBelow n (Imported hash size) = Unit {0}

-- the attempt just below n is the last that the label names
abbrev pub NamesUpTo : ℕ → Label → Type 0
NamesUpTo n (Fetched first last) = n ≡ last + 1
NamesUpTo n (Imported hash size) = ⊥

-- some row names the attempt just below n
pub record HasLast (rows : Rows) (n : ℕ) : Type 0 where
  pub path : List ℕ
  pub whole : Whole
  pub at : whole_at rows path ≡ Some whole
  pub named : NamesUpTo n whole.label

-- the least number above each attempt that the whole bodies name
pub record IsFree (rows : Rows) (n : ℕ) : Type 0 where
  pub above : (path : List ℕ) (w : Whole) → whole_at rows path ≡ Some w → NamesBelow n w.label
  pub least : (n ≡ 0) ⊎ HasLast rows n

-- these are the ids of the whole bodies
pub record AreIds (rows : Rows) (ids : IdSet) : Type 0 where
  pub each : (path : List ℕ) (w : Whole) → whole_at rows path ≡ Some w → map.contains_key ids w.id ≡ true
  pub only : (id : ℕ) → map.contains_key ids id ≡ true → IsNamed rows id

-- the first attempt after n and after those that the label names
abbrev pub free_after : ℕ → Label → ℕ
free_after n (Fetched first last) = max n (last + 1)
free_after n (Imported hash size) = n

-- the same of a row's whole body, where it has one
abbrev pub free_by : ℕ → Option Whole → ℕ
free_by n None = n
free_by n (Some w) = free_after n w.label

-- with the id of a row's whole body, where it has one
abbrev pub ids_with : IdSet → Option Whole → IdSet
ids_with ids None = ids
ids_with ids (Some w) = map.insert ids w.id tt

-- the attempts of the label are below 2^63
abbrev pub IsSmall : Label → Type 0
IsSmall (Fetched first last) = last < 2 ^ 63
IsSmall (Imported hash size) = Unit {0}

-- the removals of the ids of a list that aren't in the set
abbrev pub off : (ℕ → Removal) → IdSet → List ℕ → List Removal
off make ids [] = []
off make ids (id ∷ rest) = cond (map.contains_key ids id) (off make ids rest) (make id ∷ off make ids rest)

-- the list has the head of each of these ids, and the body of each of those, that isn't the rows'
pub record Lists (rows : Rows) (gone : List Removal) (head_ids body_ids : List ℕ) : Type 0 where
  pub heads : (id : ℕ) → list_any (λ i. id == i) head_ids ≡ true → IsNamed rows id ⊎ IsIn (removal.Head id) gone
  pub bodies : (id : ℕ) → list_any (λ i. id == i) body_ids ≡ true → IsNamed rows id ⊎ IsIn (removal.Body id) gone

-- the list has all that isn't the rows'
pub record Covers (rows : Rows) (list : List Removal) (k : Kept) : Type 0 where
  pub heads : (id : ℕ) → map.contains_key k.heads id ≡ true → IsNamed rows id ⊎ IsIn (removal.Head id) list
  pub bodies : (id : ℕ) → map.contains_key k.bodies id ≡ true → IsNamed rows id ⊎ IsIn (removal.Body id) list
  pub loose : (id : ℕ) → map.contains_key k.loose id ≡ true → IsIn (removal.Body id) list
