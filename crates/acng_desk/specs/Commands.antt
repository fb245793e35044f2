-- What each call makes of what a desk knows: one function over all calls. A call that is refused, or that only looks, leaves
-- it as it is; what a refused `settle`, `remove` or `put_import` leaves is said at the call.
use Rattle.std.specs.Prelude.{ℕ, ◌+◌, ◌^◌, Bool, cond, nat_le, List, [], ◌∷◌, is_some, Option, None, Some}
use Rattle.std.specs.FinMap as map
use Rattle.acng_base.specs.declared.clock.Moment.{Moment}
use Rattle.acng_base.specs.declared.hash.Hash.{Hash}
use Rattle.acng_class.specs.declared.class.Class.{Class}
use Rattle.acng_head.specs.declared.head.Label.TheVariants.{Imported}
use Rattle.acng_grow.specs.Grown.{Grown}
use Rattle.acng_rows.specs.declared.row.Whole.{Whole}
use Rattle.acng_rows.specs.declared.stamp.Stamp.TheVariants.{Mark}
use Rattle.acng_rows.specs.Rows.{whole_at, with_whole, without_whole, restamped}
use Rattle.acng_desk.specs.House.{Plain, spot_at}
use Rattle.acng_desk.specs.Tickets.{Ticketed}
use Rattle.acng_desk.specs.Begins.{begin_case, let_in, is_full}
use Rattle.acng_desk.specs.Settles.{end_of, ended}

pub data Command : Type 0 where
  Begin : (path : List ℕ) (class : Class) (now : Moment) → Command
  Settle : (ticket : Ticketed) (body : Grown) → Command
  SetMark : (path : List ℕ) (mark : Option Moment) → Command
  Remove : (path : List ℕ) → Command
  NewBody : Command
  PutImport : (path : List ℕ) (id : ℕ) (hash : Hash) (size : ℕ) (now : Moment) → Command
  -- a body is dropped or fetched, or a row is looked at
  Look : Command

-- ---- marks and removals: nothing happens where no whole body is held

abbrev pub marked : Option Moment → List ℕ → Plain → Plain
marked mark path p = cond (is_some (whole_at p.rows path)) (record p { rows = restamped (Mark mark) p.rows path }) p

-- a ticket that is out keeps its row; else the partial body goes with the row
abbrev pub removed : List ℕ → Plain → Plain
removed path p = cond (is_some (whole_at p.rows path))
    (record p { rows = without_whole p.rows path; parts = map.remove p.parts path }) p

-- ---- imports

abbrev pub is_out_of_ids : Plain → Bool
is_out_of_ids p = nat_le (2 ^ 63) p.next_id

abbrev pub made : Plain → Plain
made p = cond (is_out_of_ids p) p (record p { next_id = p.next_id + 1 })

abbrev pub imported : ℕ → Hash → ℕ → Moment → Whole
imported id hash size now = record {
  id = id;
  label = Imported hash size;
  size = size;
  tag = None;
  modified = None;
  checked = now;
  mark = None;
}

-- the whole body is put in the place of what the path had; a ticket that is out, and a partial body, stay
abbrev pub put_in : List ℕ → Whole → Plain → Plain
put_in path w p = record p { rows = with_whole p.rows path (Some w) }

abbrev pub put_import : List ℕ → Whole → Plain → Plain
put_import path w p = cond (is_full (spot_at p path)) p (put_in path w p)

-- ---- one call, and a list of them

abbrev pub step : Command → Plain → Plain
step (Begin path class now) p = let_in (begin_case (spot_at p path) class now.0) path p
step (Settle ticket body) p = ended (end_of (spot_at p body.path) ticket body) ticket body p
step (SetMark path mark) p = marked mark path p
step (Remove path) p = removed path p
step NewBody p = made p
step (PutImport path id hash size now) p = put_import path (imported id hash size now) p
step Look p = p

abbrev pub steps : List Command → Plain → Plain
steps [] p = p
steps (c ∷ cs) p = steps cs (step c p)
