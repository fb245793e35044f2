-- What a run of expiration does to each held body, and what may happen between runs. Moments are seconds.
use Rattle.std.specs.Prelude.{◌≡◌, ◌⊎◌, ◌≤◌, ◌<◌, ℕ, ◌-◌, Bool, true, false, ◌&&◌, List, [], ◌∷◌, nat_lt, cond, min, Option, Some, None}

-- a path, as its bytes
abbrev pub Path : Type 0
Path = List ℕ

-- a held body by its id, and the moment from which it has been unreached
pub record Row : Type 0 where
  pub id : ℕ
  pub mark : Option ℕ

-- the held bodies by path, and the id that the next body gets
pub record House : Type 0 where
  pub held : Path → Option Row
  pub next : ℕ

-- ---- a run that is done

-- before the moment, and by more than the limit
abbrev pub is_past : ℕ → ℕ → ℕ → Bool
is_past limit now m = nat_lt m now && nat_lt limit (now - m)

abbrev pub least : Option ℕ → ℕ → ℕ
least None now = now
least (Some m) now = min m now

-- the mark of a body after the round of marks
abbrev pub new_mark : Bool → ℕ → Option ℕ → Option ℕ
new_mark true now mark = None
new_mark false now mark = Some (least mark now)

abbrev pub is_over : ℕ → ℕ → Option ℕ → Bool
is_over limit now None = false
is_over limit now (Some m) = is_past limit now m

-- a body after both rounds
abbrev pub after_row : ℕ → ℕ → Bool → Row → Option Row
after_row limit now reached r =
    cond (is_over limit now (new_mark reached now r.mark)) None (Some (record { id = r.id; mark = new_mark reached now r.mark }))

abbrev pub after_held : ℕ → ℕ → Bool → Option Row → Option Row
after_held limit now reached None = None
after_held limit now reached (Some r) = after_row limit now reached r

-- the house after a run that is done, where these paths are reached
pub record IsDone (limit now : ℕ) (reached : Path → Bool) (old new : House) : Type 0 where
  pub each : (p : Path) → new.held p ≡ after_held limit now (reached p) (old.held p)
  pub next : new.next ≡ old.next

-- ---- other steps

-- a path keeps its body with its mark, loses it, or has a new one without a mark
abbrev pub Changes : ℕ → ℕ → Option Row → Option Row → Type 0
Changes low high old new =
    (new ≡ old)
    ⊎ ((new ≡ None)
    ⊎ ((id : ℕ) × (low ≤ id) × (id < high) × (new ≡ Some (record { id = id; mark = None }))))

pub record IsStep (old new : House) : Type 0 where
  pub each : (p : Path) → Changes old.next new.next (old.held p) (new.held p)
  pub next : old.next ≤ new.next

-- ---- lists of runs and steps, each with the house after it

pub data Event : Type 0 where
  Done : (now : ℕ) (reached : Path → Bool) (after : House) → Event
  Aborted : Event
  Other : (after : House) → Event

-- these events may follow one another, from this house on
abbrev pub Follow : ℕ → House → List Event → Type 0
Follow limit h [] = Unit {0}
Follow limit h (Done now reached after ∷ es) = IsDone limit now reached h after × Follow limit after es
Follow limit h (Aborted ∷ es) = Follow limit h es
Follow limit h (Other after ∷ es) = IsStep h after × Follow limit after es
