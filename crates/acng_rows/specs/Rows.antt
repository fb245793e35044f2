-- The rows of a cache as contracts see them, and what calls make of them.
use Rattle.std.specs.Prelude.{◌≡◌, ⊤, ℕ, ◌^◌, ◌<◌, Bool, cond, ◌||◌, is_some, List, Option, None, Some, IfSome}
use Rattle.std.specs.Ordering.{nat_cmp}
use Rattle.std.specs.Cmp.Lexicographic.{slice_cmp}
use Rattle.std.specs.declared.cmp.Ordering.TheVariants.{Less}
use Rattle.std.specs.declared.ops.Bound.{Bound}
use Rattle.std.specs.declared.ops.Bound.TheVariants.{Excluded, Unbounded}
use Rattle.std.specs.FinMap as map
use Rattle.acng_head.specs.declared.head.Head.{Head}
use Rattle.acng_head.specs.declared.head.Label.{Label}
use Rattle.acng_rows.specs.declared.row.Whole.{Whole}
use Rattle.acng_rows.specs.declared.stamp.Stamp.{Stamp}
use Rattle.acng_rows.specs.declared.stamp.Stamp.TheVariants.{Checked, Mark}
use Rattle.acng_rows.specs.Paths.{PathsTo}

-- a ticket that is out: its first try, the ids of its new and its partial body, and the label of its old body
pub record Load : Type 0 where
  pub first : ℕ
  pub fresh : ℕ
  pub part : Option ℕ
  pub was : Option Label

-- what a path has
pub record Row : Type 0 where
  pub whole : Option Whole
  pub out : Option Load

abbrev pub Rows : Type 0
Rows = PathsTo Row

-- a row with nothing
abbrev pub bare : Row
bare = record { whole = None; out = None }

-- ---- whole bodies and their heads

-- the head of a whole body
abbrev pub head_of : List ℕ → Whole → Head
head_of path w = record {
  path = path;
  label = w.label;
  size = w.size;
  tag = w.tag;
  modified = w.modified;
  checked = w.checked;
  mark = w.mark;
}

-- the whole body with this id that a head tells of
abbrev pub whole_of : ℕ → Head → Whole
whole_of id h = record {
  id = id;
  label = h.label;
  size = h.size;
  tag = h.tag;
  modified = h.modified;
  checked = h.checked;
  mark = h.mark;
}

abbrev pub row_of : ℕ → Head → Row
row_of id h = record { whole = Some (whole_of id h); out = None }

abbrev pub id_in_whole : Option Whole → Option ℕ
id_in_whole None = None
id_in_whole (Some w) = Some w.id

-- with another moment
abbrev pub stamped : Stamp → Whole → Whole
stamped (Checked now) w = record w { checked = now }
stamped (Mark mark) w = record w { mark = mark }

-- what the type of a moment says
abbrev pub StampFits : Stamp → Type 0
StampFits (Checked now) = now.0 < 2 ^ 64
StampFits (Mark mark) = IfSome mark (λ m. m.0 < 2 ^ 64)

abbrev pub stamped_in : Stamp → Option Whole → Option Whole
stamped_in stamp None = None
stamped_in stamp (Some w) = Some (stamped stamp w)

-- ---- what the row of a path has

abbrev pub whole_in : Option Row → Option Whole
whole_in None = None
whole_in (Some r) = r.whole

abbrev pub out_in : Option Row → Option Load
out_in None = None
out_in (Some r) = r.out

abbrev pub whole_at : Rows → List ℕ → Option Whole
whole_at rows path = whole_in (map.get rows path)

abbrev pub out_at : Rows → List ℕ → Option Load
out_at rows path = out_in (map.get rows path)

-- the path comes after the other, where there is one
abbrev pub IsAfter : Option (List ℕ) → List ℕ → Type 0
IsAfter None path = ⊤
IsAfter (Some other) path = slice_cmp nat_cmp other path ≡ Less

-- where the paths after another begin
abbrev pub start_of : Option (List ℕ) → Bound (List ℕ)
start_of None = Unbounded
start_of (Some path) = Excluded path

-- ---- what calls make of the row of a path

-- it has this whole body; what is out stays
abbrev pub with_whole : Rows → List ℕ → Option Whole → Rows
with_whole rows path w = map.insert rows path (record { whole = w; out = out_at rows path })

-- this is out; the whole body stays
abbrev pub with_out : Rows → List ℕ → Option Load → Rows
with_out rows path out = map.insert rows path (record { whole = whole_at rows path; out = out })

-- nothing is out any more. A row with no whole body goes, unless something else of the path is to stay.
abbrev pub closed : Rows → List ℕ → Bool → Rows
closed rows path stays = cond (stays || is_some (whole_at rows path)) (with_out rows path None) (map.remove rows path)

-- its whole body has another moment
abbrev pub restamped : Stamp → Rows → List ℕ → Rows
restamped stamp rows path = with_whole rows path (stamped_in stamp (whole_at rows path))

-- it has no whole body any more. A row of which nothing is out goes.
abbrev pub without_whole : Rows → List ℕ → Rows
without_whole rows path = cond (is_some (out_at rows path)) (with_whole rows path None) (map.remove rows path)

-- there is a row, which was made where there was none
abbrev pub reserved : Bool → Rows → List ℕ → Rows
reserved made rows path = cond made (map.insert rows path bare) rows

-- the row that was made is taken back
abbrev pub released : Bool → Rows → List ℕ → Rows
released made rows path = cond made (map.remove rows path) rows
