-- Which rows the stored heads and bodies stand for, and which rows a keeper holds.
use Rattle.std.specs.Prelude.{◌≡◌, ◌≢◌, ◌⊎◌, ◌<◌, ◌≤◌, ℕ, Bool, true, false, List, length, Option, None, Some}
use Rattle.std.specs.FinMap as map
use Rattle.acng_base.specs.declared.clock.Moment.{Moment}
use Rattle.acng_head.specs.declared.head.Head.{Head}
use Rattle.acng_head.specs.declared.head.Label.{Label}
use Rattle.acng_head.specs.Records.{IsHead, record_text}
use Rattle.acng_keeper.specs.Kept.{Kept, Stored, stored}
use Rattle.acng_rows.specs.declared.row.Whole.{Whole}
use Rattle.acng_rows.specs.Rows.{Rows, head_of, whole_of, whole_at}

-- ---- good heads

-- the id has the record of this head, and its sealed body is this text, of the head's size
pub record IsGood (s : Stored) (id : ℕ) (h : Head) (text : List ℕ) : Type 0 where
  pub head : map.get s.heads id ≡ Some (record_text h)
  pub reads : IsHead h
  pub body : map.get s.bodies id ≡ Some text
  pub size : length text ≡ h.size

-- what a head says but for its moments
pub record Core : Type 0 where
  pub path : List ℕ
  pub label : Label
  pub size : ℕ
  pub tag : Option (List ℕ)
  pub modified : Option Moment

abbrev pub core_of : Head → Core
core_of h = record { path = h.path; label = h.label; size = h.size; tag = h.tag; modified = h.modified }

-- ---- the rows that a start finds

-- the whole body has the good head of the path with the greatest id
pub record IsGreatest (s : Stored) (path : List ℕ) (w : Whole) : Type 0 where
  pub text : List ℕ
  pub good : IsGood s w.id (head_of path w) text
  pub most : (id : ℕ) (h : Head) (t : List ℕ) → IsGood s id h t → h.path ≡ path → id ≤ w.id

-- the whole body of a path, where it has a good head
abbrev pub IsRow : Stored → List ℕ → Option Whole → Type 0
IsRow s path None = (id : ℕ) (h : Head) (t : List ℕ) → IsGood s id h t → h.path ≢ path
IsRow s path (Some w) = IsGreatest s path w

-- a start over these heads and bodies finds the whole bodies of these rows
pub record StandsFor (rows : Rows) (s : Stored) : Type 0 where
  pub each : (path : List ℕ) → IsRow s path (whole_at rows path)

-- ---- the rows that a keeper holds

-- the keeper has this whole body; its head may have other moments, which a refused call put
pub record HeldAs (s : Stored) (path : List ℕ) (w : Whole) : Type 0 where
  pub head : Head
  pub text : List ℕ
  pub good : IsGood s w.id head text
  pub alike : core_of head ≡ core_of (head_of path w)

-- each whole body of the rows has its head and its body
pub record Holds (rows : Rows) (s : Stored) : Type 0 where
  pub each : (path : List ℕ) (w : Whole) → whole_at rows path ≡ Some w → HeldAs s path w

-- the whole bodies have heads that can be written, ids of their own below the next, and the keeper has them
pub record AreHeld (tells : Bool) (next : ℕ) (rows : Rows) (k : Kept) : Type 0 where
  pub heads : (path : List ℕ) (w : Whole) → whole_at rows path ≡ Some w → IsHead (head_of path w)
  pub below : (path : List ℕ) (w : Whole) → whole_at rows path ≡ Some w → w.id < next
  pub apart : (path other : List ℕ) (w x : Whole) → whole_at rows path ≡ Some w → whole_at rows other ≡ Some x → w.id ≡ x.id → path ≡ other
  pub holds : tells ≡ true → Holds rows (stored k)

-- no row has a whole body with this id
pub record IsUnnamed (rows : Rows) (id : ℕ) : Type 0 where
  pub each : (path : List ℕ) (w : Whole) → whole_at rows path ≡ Some w → w.id ≢ id

-- a row has a whole body with this id
pub record IsNamed (rows : Rows) (id : ℕ) : Type 0 where
  pub path : List ℕ
  pub whole : Whole
  pub at : whole_at rows path ≡ Some whole
  pub is : whole.id ≡ id

-- the keeper has nothing but what the rows name
pub record IsAll (rows : Rows) (k : Kept) : Type 0 where
  pub heads : (id : ℕ) → map.contains_key k.heads id ≡ true → IsNamed rows id
  pub bodies : (id : ℕ) → map.contains_key k.bodies id ≡ true → IsNamed rows id
  pub loose : (id : ℕ) → map.contains_key k.loose id ≡ false

-- ---- how good heads go on

-- this id had a good head with the same body, which said the same but for its moments
pub record WasGood (s : Stored) (id : ℕ) (h : Head) (text : List ℕ) : Type 0 where
  pub was : Head
  pub good : IsGood s id was text
  pub alike : core_of was ≡ core_of h

-- no good head of another file came
pub record GoodsStay (s t : Stored) : Type 0 where
  pub each : (id : ℕ) (h : Head) (text : List ℕ) → IsGood t id h text → WasGood s id h text

-- none came but of a file that may come
pub record GoodsCome (come : Core → List ℕ → Type 0) (s t : Stored) : Type 0 where
  pub each : (id : ℕ) (h : Head) (text : List ℕ) → IsGood t id h text → WasGood s id h text ⊎ come (core_of h) text

-- the id has a head that reads
pub record HasHead (s : Stored) (id : ℕ) : Type 0 where
  pub head : Head
  pub at : map.get s.heads id ≡ Some (record_text head)
  pub reads : IsHead head

-- no id got a head that reads but one of the new rows, whose body is sealed
pub record HeadsCome (new : Rows) (s t : Stored) : Type 0 where
  pub each : (id : ℕ) → HasHead t id → HasHead s id ⊎ (IsNamed new id × (map.contains_key t.bodies id ≡ true))

-- no file may come
abbrev pub none_comes : Core → List ℕ → Type 0
none_comes core text = ⊥

-- the keeper has the sealed body, of its size
pub record HasBody (k : Kept) (w : Whole) : Type 0 where
  pub text : List ℕ
  pub body : map.get k.bodies w.id ≡ Some text
  pub size : length text ≡ w.size

-- the file of this whole body may come
abbrev pub whole_comes : List ℕ → Whole → Kept → Core → List ℕ → Type 0
whole_comes path w k core text = (core ≡ core_of (head_of path w)) × (map.get k.bodies w.id ≡ Some text)

-- ---- exactly the rows

-- the whole body has a good head of its path
pub record HasGood (s : Stored) (path : List ℕ) (w : Whole) : Type 0 where
  pub text : List ℕ
  pub good : IsGood s w.id (head_of path w) text

-- the good heads are those of the rows and no other
pub record IsExact (rows : Rows) (s : Stored) : Type 0 where
  pub each : (path : List ℕ) (w : Whole) → whole_at rows path ≡ Some w → HasGood s path w
  pub only : (id : ℕ) (h : Head) (text : List ℕ) → IsGood s id h text → whole_at rows h.path ≡ Some (whole_of id h)

-- What stands between two rows: no good head came but of a file that may come. Where the keeper had the old rows, no unsealed
-- body got a head, and the keeper has the old rows or the new ones; where it had just these, a start finds the old or the new.
pub record IsBetween (come : Core → List ℕ → Type 0) (rows new : Rows) (s t : Stored) : Type 0 where
  pub goods : GoodsCome come s t
  pub heads : Holds rows s → HeadsCome new s t
  pub holds : Holds rows s → Holds rows t ⊎ Holds new t
  pub stands : IsExact rows s → StandsFor rows t ⊎ StandsFor new t

-- no head that reads is of an unsealed body
pub record AreSealed (k : Kept) : Type 0 where
  pub each : (id : ℕ) (h : Head) → map.get k.heads id ≡ Some (record_text h) → IsHead h → map.contains_key k.loose id ≡ false

-- each good head and its body are so, and no head that reads is of an unsealed body
pub record IsFaithfulTo (P : Core → List ℕ → Type 0) (k : Kept) : Type 0 where
  pub good : (id : ℕ) (h : Head) (text : List ℕ) → IsGood (stored k) id h text → P (core_of h) text
  pub sealed : AreSealed k
