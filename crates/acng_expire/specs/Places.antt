-- What a path of a desk has, and what a run of expiration makes of it. Moments are seconds.
use Rattle.std.specs.Prelude.{ℕ, Bool, false, List, cond, is_some, Option, None, Some, option_map}
use Rattle.std.specs.FinMap as map
use Rattle.acng_base.specs.declared.clock.Moment.{Moment}
use Rattle.acng_rows.specs.declared.row.Whole.{Whole}
use Rattle.acng_rows.specs.Rows.{Row, whole_in}
use Rattle.acng_desk.specs.House.{Plain, Parked}
use Rattle.acng_expire.specs.Runs.{new_mark, is_over}

pub record Place : Type 0 where
  pub row : Option Row
  pub part : Option Parked

abbrev pub place_at : Plain → List ℕ → Place
place_at p path = record { row = map.get p.rows path; part = map.get p.parts path }

abbrev pub whole_of : Place → Option Whole
whole_of p = whole_in p.row

-- ---- marks

abbrev pub seconds : Option Moment → Option ℕ
seconds mark = option_map (λ (m : Moment). m.0) mark

abbrev pub moment_of : Option ℕ → Option Moment
moment_of n = option_map (λ (s : ℕ). record { 0 = s }) n

-- the whole body has the mark that the round of marks gives it, and is else as it was
abbrev pub remarked : ℕ → Bool → Whole → Whole
remarked now reached w = record w { mark = moment_of (new_mark reached now (seconds w.mark)) }

abbrev pub remarked_row : ℕ → Bool → Option Row → Option Row
remarked_row now reached None = None
remarked_row now reached (Some r) = Some (record { whole = option_map (remarked now reached) r.whole; out = r.out })

abbrev pub remarked_place : ℕ → Bool → Place → Place
remarked_place now reached p = record { row = remarked_row now reached p.row; part = p.part }

abbrev pub has_mark : Option Whole → Bool
has_mark None = false
has_mark (Some w) = is_some w.mark

-- ---- removals

-- the mark of the whole body lies before the moment by more than the limit
abbrev pub is_due : ℕ → ℕ → Option Whole → Bool
is_due limit now None = false
is_due limit now (Some w) = is_over limit now (seconds w.mark)

-- a ticket that is out keeps its row
abbrev pub emptied_row : Option Row → Option Row
emptied_row None = None
emptied_row (Some r) = cond (is_some r.out) (Some (record { whole = None; out = r.out })) None

-- a partial body goes with the whole one
abbrev pub emptied : Place → Place
emptied p = record { row = emptied_row p.row; part = None }

abbrev pub cleared : ℕ → ℕ → Place → Place
cleared limit now p = cond (is_due limit now (whole_of p)) (emptied p) p

-- ---- both rounds

abbrev pub expired : ℕ → ℕ → Bool → Place → Place
expired limit now reached p = cleared limit now (remarked_place now reached p)
