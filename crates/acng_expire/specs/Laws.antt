-- The law over all lists of runs, and how runs over a desk are such a list.
use Rattle.std.specs.Prelude.{◌≡◌, ◌<◌, ℕ, Bool, List, Some, option_map}
use Rattle.acng_rows.specs.declared.row.Whole.{Whole}
use Rattle.acng_rows.specs.Rows.{whole_at}
use Rattle.acng_desk.specs.House.{Plain, House as Desk}
use Rattle.acng_expire.specs.Runs.{Path, Row, House, Event, Follow, IsDone}
use Rattle.acng_expire.specs.Doomed.{Lawful, before}
use Rattle.acng_expire.specs.Places.{seconds}
use Rattle.acng_expire.specs.Rounds.{Run}
use Rattle.acng_expire.specs.Expirations.{IsFinished, IsAsBefore}

-- every id of a house is below its next
pub record IsHouse (h : House) : Type 0 where
  pub each : (p : Path) (r : Row) → h.held p ≡ Some r → r.id < h.next

-- one mark for each body gives exactly the removals and marks that the runs so far ask for
abbrev pub OneMarkSuffices : Type 0
OneMarkSuffices =
    (limit : ℕ) (h : House) (es : List Event) → IsHouse h → Follow limit h es → (p : Path) → Lawful limit p (before (h.held p)) h es

-- ---- the bodies of a desk

abbrev pub body_of : Whole → Row
body_of w = record { id = w.id; mark = seconds w.mark }

abbrev pub bodies_of : Plain → House
bodies_of p = record { held = λ path. option_map body_of (whole_at p.rows path); next = p.next_id }

-- A run over a desk that is done is one of the law, and one that is aborted changes no body.
pub record AreRuns : Type 0 where
  pub done : (r : Run) (old new : Plain) (removed marked : ℕ) → IsFinished r old new removed marked
      → IsDone r.limit r.now r.reached (bodies_of old) (bodies_of new)
  pub aborted : (tells : Bool) (old new : Desk) → IsAsBefore tells old new → bodies_of new.plain ≡ bodies_of old.plain
