-- Which bodies a run dooms, by all runs before it.
use Rattle.std.specs.Prelude.{◌≡◌, ◌<◌, ◌≤◌, ◌↔◌, ℕ, ◌-◌, Bool, true, false, ◌&&◌, ◌==◌, not, List, [], ◌∷◌, length, Option, Some, None, slice_index_or}
use Rattle.acng_expire.specs.Runs.{Path, Row, House, Event, Done, Aborted, Other}

-- what a run that wasn't aborted found at one path: the body that was held, and whether the path was reached
pub record Seen : Type 0 where
  pub now : ℕ
  pub body : Option ℕ
  pub reached : Bool

abbrev pub is_body : ℕ → Option ℕ → Bool
is_body id None = false
is_body id (Some x) = id == x

-- the body was held, and its path wasn't reached
abbrev pub is_unreached : ℕ → Seen → Bool
is_unreached id s = is_body id s.body && not s.reached

abbrev pub nothing_seen : Seen
nothing_seen = record { now = 0; body = None; reached = true }

-- The runs are listed with the last one first. The body is unreached from the one at place i up to the last.
pub record IsUnreachedFrom (id i : ℕ) (runs : List Seen) : Type 0 where
  pub within : i < length runs
  pub each : (k : ℕ) → k ≤ i → is_unreached id (slice_index_or runs k nothing_seen) ≡ true

abbrev pub moment : ℕ → List Seen → ℕ
moment i runs = (slice_index_or runs i nothing_seen).now

-- the body is doomed at the last run: it has been unreached from an earlier run on, by more than the limit
pub record IsDoomed (limit now id : ℕ) (runs : List Seen) : Type 0 where
  pub from : ℕ
  pub unreached : IsUnreachedFrom id from runs
  pub earlier : moment from runs < now
  pub long : limit < now - moment from runs

-- the least moment from which it is unreached
pub record IsLeast (id m : ℕ) (runs : List Seen) : Type 0 where
  pub from : ℕ
  pub unreached : IsUnreachedFrom id from runs
  pub is : moment from runs ≡ m
  pub least : (i : ℕ) → IsUnreachedFrom id i runs → m ≤ moment i runs

-- the mark of a body that stays: none where it is reached at the last run
abbrev pub IsMark : ℕ → List Seen → Option ℕ → Type 0
IsMark id runs None = (i : ℕ) → ¬ (IsUnreachedFrom id i runs)
IsMark id runs (Some m) = IsLeast id m runs

-- ---- one run against the law

abbrev pub body_of : Option Row → Option ℕ
body_of None = None
body_of (Some r) = Some r.id

abbrev pub seen : ℕ → Bool → Option Row → Seen
seen now reached row = record { now = now; body = body_of row; reached = reached }

-- a mark that stood before the first run counts as one more run at that moment
abbrev pub before_row : Row → Option ℕ → List Seen
before_row r None = []
before_row r (Some m) = record { now = m; body = Some r.id; reached = false } ∷ []

abbrev pub before : Option Row → List Seen
before None = []
before (Some r) = before_row r r.mark

-- a held body is gone after the run exactly where it is doomed, and else has its mark
pub record GoesAs (limit now : ℕ) (runs : List Seen) (r : Row) (new : Option Row) : Type 0 where
  pub removed : (new ≡ None) ↔ IsDoomed limit now r.id runs
  pub stays : (s : Row) → new ≡ Some s → (s.id ≡ r.id) × IsMark r.id runs s.mark

abbrev pub HeldGoes : ℕ → ℕ → List Seen → Option Row → Option Row → Type 0
HeldGoes limit now runs None new = new ≡ None
HeldGoes limit now runs (Some r) new = GoesAs limit now runs r new

-- each run of a list meets the law at a path, after these runs before it
abbrev pub Lawful : ℕ → Path → List Seen → House → List Event → Type 0
Lawful limit p runs h [] = Unit {0}
Lawful limit p runs h (Done now reached after ∷ es) =
    HeldGoes limit now (seen now (reached p) (h.held p) ∷ runs) (h.held p) (after.held p)
    × Lawful limit p (seen now (reached p) (h.held p) ∷ runs) after es
Lawful limit p runs h (Aborted ∷ es) = Lawful limit p runs h es
Lawful limit p runs h (Other after ∷ es) = Lawful limit p runs after es
