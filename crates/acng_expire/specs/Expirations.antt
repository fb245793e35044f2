-- What a run of expiration makes of a desk, by its answer.
use Rattle.std.specs.Prelude.{◌≡◌, ◌<◌, ◌⊎◌, ℕ, ◌+◌, Bool, true, false, ◌&&◌, nat_le, List, [], length, take, slice_index_or}
use Rattle.acng_keeper.specs.declared.slip.KeepFault.{KeepFault}
use Rattle.acng_keeper.specs.declared.slip.KeepFault.TheVariants as keep
use Rattle.acng_desk.specs.House.{Plain, House}
use Rattle.acng_desk.specs.Stops.{IsFound as FindsRows}
use Rattle.acng_reach.specs.Desks.{held_paths, cache_of, rest_of}
use Rattle.acng_reach.specs.Found.{Found, IsReach}
use Rattle.acng_expire.specs.Places.{place_at, expired}
use Rattle.acng_expire.specs.Rounds.{Run, run_of, with_marks, with_removals, HasPlaces, how_many, is_doomed, is_marked_at}
use Rattle.acng_expire.specs.declared.run.Expired.{Expired}
use Rattle.acng_expire.specs.declared.run.Expired.TheVariants.{Done, Aborted, Stopped, NoMemory}

-- ---- what is found first

-- what the held indexes say, where the keeper tells it
pub record IsSurvey (tells : Bool) (old : House) (failed : List (List ℕ)) (found : Found) : Type 0 where
  pub reach : tells ≡ true → IsReach (cache_of tells old) failed found
  pub held : found.held ≡ held_paths old.plain.rows

-- so many problems stop the run; a limit of 0 stops none
abbrev pub is_broken : ℕ → ℕ → Bool
is_broken most problems = nat_le 1 most && nat_le most problems

abbrev pub is_stopped : Plain → Found → Bool
is_stopped p found = is_broken p.rules.abort_limit (length found.problems)

-- ---- the ends of a run

-- both rounds were done: each path has what they make of it. Counted are the whole bodies that went, and those that have a
-- mark now.
pub record IsFinished (r : Run) (old new : Plain) (removed marked : ℕ) : Type 0 where
  pub places : HasPlaces (λ q. expired r.limit r.now (r.reached q) (place_at old q)) old new
  pub removed_is : removed ≡ how_many (is_doomed r old) r.paths
  pub marked_is : marked ≡ how_many (is_marked_at new) r.paths

-- it was cut in the round of marks: the first paths have theirs, and nothing is removed
pub record IsCutInMarks (r : Run) (old new : Plain) (removed : ℕ) : Type 0 where
  pub at : ℕ
  pub within : at < length r.paths
  pub places : HasPlaces (with_marks r (place_at old) (take at r.paths)) old new
  pub none : removed ≡ 0

-- It was cut in the round of removals: all paths have their marks. Those of the first paths that are due are gone, the one
-- whose removal was refused among them; it isn't counted.
pub record IsCutInRemovals (r : Run) (old new : Plain) (removed : ℕ) : Type 0 where
  pub at : ℕ
  pub within : at < length r.paths
  pub places : HasPlaces (with_removals r.limit r.now (with_marks r (place_at old) r.paths) (take (at + 1) r.paths)) old new
  pub doomed : is_doomed r old (slice_index_or r.paths at []) ≡ true
  pub removed_is : removed ≡ how_many (is_doomed r old) (take at r.paths)

-- a desk, its heads and its bodies are as they were
abbrev pub IsAsBefore : Bool → House → House → Type 0
IsAsBefore tells old new = rest_of tells new ≡ rest_of tells old

-- ---- a run by what was found

-- what a refused call leaves: the run was cut in one of the rounds
abbrev pub IsCutIn : Run → Plain → Plain → ℕ → Type 0
IsCutIn r old new removed = IsCutInMarks r old new removed ⊎ IsCutInRemovals r old new removed

-- the fault of a call as the end of a run
abbrev pub cut : {P : Type 0} → KeepFault P → ℕ → Expired P
cut (keep.Slip p) removed = Stopped p removed
cut keep.NoMemory removed = NoMemory removed

abbrev pub HasRun : {P : Type 0} → Bool → ℕ → Found → House → House → Expired P → Type 0
HasRun tells now found old new (Done removed marked) =
    IsFinished (run_of old.plain now found) old.plain new.plain removed marked × (tells ≡ true → FindsRows old → FindsRows new)
HasRun tells now found old new (Aborted problems) = ⊥
HasRun tells now found old new (Stopped slip removed) =
    IsCutIn (run_of old.plain now found) old.plain new.plain removed × (old.faults.may_fail ≡ true)
HasRun tells now found old new (NoMemory removed) = IsCutIn (run_of old.plain now found) old.plain new.plain removed

-- ---- each answer

pub record IsDoneBy (tells : Bool) (failed : List (List ℕ)) (now : ℕ) (old new : House) (removed marked : ℕ) : Type 0 where
  pub found : Found
  pub survey : IsSurvey tells old failed found
  pub goes : is_stopped old.plain found ≡ false
  pub finished : IsFinished (run_of old.plain now found) old.plain new.plain removed marked
  -- where a start would have found exactly the rows, it still does
  pub exact : tells ≡ true → FindsRows old → FindsRows new

pub record IsAbortedBy (tells : Bool) (failed : List (List ℕ)) (old new : House) (problems : ℕ) : Type 0 where
  pub found : Found
  pub survey : IsSurvey tells old failed found
  pub stops : is_stopped old.plain found ≡ true
  pub problems_are : problems ≡ length found.problems
  pub same : IsAsBefore tells old new

-- a call was refused in one of the rounds
pub record IsCutBy (tells : Bool) (failed : List (List ℕ)) (now : ℕ) (old new : House) (removed : ℕ) : Type 0 where
  pub found : Found
  pub survey : IsSurvey tells old failed found
  pub goes : is_stopped old.plain found ≡ false
  pub cut : IsCutIn (run_of old.plain now found) old.plain new.plain removed

-- or before them, when nothing had changed
abbrev pub IsCut : Bool → List (List ℕ) → ℕ → House → House → ℕ → Type 0
IsCut tells failed now old new removed = (IsAsBefore tells old new × (removed ≡ 0)) ⊎ IsCutBy tells failed now old new removed

-- The run at this moment answered so. A slip comes only where calls may fail; want of memory is free.
abbrev pub HasExpired : {P : Type 0} → Bool → List (List ℕ) → ℕ → House → House → Expired P → Type 0
HasExpired tells failed now old new (Done removed marked) = IsDoneBy tells failed now old new removed marked
HasExpired tells failed now old new (Aborted problems) = IsAbortedBy tells failed old new problems
HasExpired tells failed now old new (Stopped slip removed) = IsCut tells failed now old new removed × (old.faults.may_fail ≡ true)
HasExpired tells failed now old new (NoMemory removed) = IsCut tells failed now old new removed
