-- A reader of an answer: what it makes of all that may follow, and what each step says of that.
use Rattle.std.specs.Prelude.{◌≡◌, ℕ, ◌+◌, ◌-◌, ◌^◌, ◌<◌, ◌≤◌, ◌==◌, Bool, List, ◌++◌, length, drop, slice_range, cond, Option, Some, None, IsSome, IfSome, option_map, ⊤}
use Rattle.std.specs.Option.{option_or}
use Rattle.acng_base.specs.Heads.{Head}
use Rattle.acng_base.specs.Fields.{location_of}
use Rattle.acng_base.specs.Answers.{Outcome, Whole, Early, Bad, Reading, nothing, after_head, after_body, within, IsTaken}
use Rattle.acng_answer.specs.declared.stage.End.{End}
use Rattle.acng_answer.specs.declared.stage.End.TheVariants as ends
use Rattle.acng_answer.specs.declared.stage.Stage.{Stage}
use Rattle.acng_answer.specs.declared.step.AnswerHead.{AnswerHead}
use Rattle.acng_answer.specs.declared.step.Step.{Step}
use Rattle.acng_answer.specs.declared.step.Step.TheVariants as steps
use Rattle.acng_answer.specs.Blocks.{IsBounded, answer_head}
use Rattle.acng_answer.specs.Stages.{staged, Fits, FitsHead, due_at, IsDone}

-- ---- ends

abbrev pub step_of : End → Step
step_of ends.Whole = steps.Whole
step_of ends.Early = steps.Early
step_of (ends.Bad at) = steps.Bad at

-- the step is an end, and the text reads as that end alone
abbrev pub Stops : Step → Reading → Type 0
Stops steps.Whole r = r ≡ nothing Whole
Stops steps.Early r = r ≡ nothing Early
Stops (steps.Bad at) r = r ≡ nothing (Bad at)
Stops steps.More r = ⊥
Stops steps.Head r = ⊥
Stops (steps.Body start stop) r = ⊥

-- the answer has ended so, whatever follows
abbrev pub IsOver : Step → (Bool → List ℕ → Reading) → Type 0
IsOver step read = (ended : Bool) (text : List ℕ) → Stops step (read ended text)

-- ---- the reader

-- the place of the next byte, the limit, what comes next, what came of a head or of a size line, what is told of the
-- final head, and its Location
pub record State : Type 0 where
  pub at : ℕ
  pub limit : ℕ
  pub stage : Stage
  pub held : List ℕ
  pub head : Option AnswerHead
  pub location : Option (List ℕ)

-- what the reader makes of all that may follow, the connection's end among it
abbrev pub rest : State → Bool → List ℕ → Reading
rest r ended text = within (r.limit - r.at) r.limit (staged r.stage r.held r.at) ended text

-- the bytes of the body that are still due, where the head said how many
abbrev pub due : State → Option ℕ
due r = due_at r.stage

-- the same at once after the head: the bytes of a 206's range, else the counted ones
abbrev pub due_told : AnswerHead → Option ℕ
due_told h = option_or (cond (h.status == 206) (option_map (λ r. r.1 + 1 - r.0) h.range) None) h.length

-- what is always true of the fields
pub record IsSound
    (capacity at limit : ℕ) (stage : Stage) (held : List ℕ) (head : Option AnswerHead) (location : Option (List ℕ))
    : Type 0 where
  pub room : 16384 ≤ capacity
  pub below : at ≤ limit
  pub limited : limit ≤ 2 ^ 41
  pub fits : Fits stage held at
  pub told : FitsHead stage head location
  pub bounds : IfSome head IsBounded

-- ---- steps

-- the old reading is a head that is taken, and then the new reading
pub record TellsHead
    (used : ℕ) (piece : List ℕ) (told : Option AnswerHead) (location : Option (List ℕ)) (old new : Bool → List ℕ → Reading)
    : Type 0 where
  pub head : Head
  pub taken : IsTaken head
  pub told_is : told ≡ Some (answer_head head)
  pub located : location ≡ location_of head
  pub reads : (ended : Bool) (more : List ℕ) → old ended (piece ++ more) ≡ after_head head (new ended (drop used piece ++ more))

-- the old reading is a part of the body, and then the new reading
pub record TellsBody (start stop used : ℕ) (piece : List ℕ) (old new : Bool → List ℕ → Reading) : Type 0 where
  pub some : start < stop
  pub inside : stop ≤ used
  pub reads : (ended : Bool) (more : List ℕ)
      → old ended (piece ++ more) ≡ after_body (slice_range piece start stop) (new ended (drop used piece ++ more))

-- the old reading is this end alone, and so is the new one
abbrev pub TellsEnd : Outcome → List ℕ → (Bool → List ℕ → Reading) → (Bool → List ℕ → Reading) → Type 0
TellsEnd o piece old new = (ended : Bool) (more : List ℕ) → (old ended (piece ++ more) ≡ nothing o) × (new ended more ≡ nothing o)

-- what a step says, whatever follows the piece: the old reading is what the step brings, and then the new reading; `told`
-- and `location` are what the reader tells afterwards
abbrev pub Tells : Step → ℕ → List ℕ → Option AnswerHead → Option (List ℕ) → (Bool → List ℕ → Reading) → (Bool → List ℕ → Reading)
    → Type 0
Tells steps.More used piece told location old new =
    (ended : Bool) (more : List ℕ) → old ended (piece ++ more) ≡ new ended (drop used piece ++ more)
Tells steps.Head used piece told location old new = TellsHead used piece told location old new
Tells (steps.Body start stop) used piece told location old new = TellsBody start stop used piece old new
Tells steps.Whole used piece told location old new = TellsEnd Whole piece old new
Tells steps.Early used piece told location old new = TellsEnd Early piece old new
Tells (steps.Bad at) used piece told location old new = TellsEnd (Bad at) piece old new

-- a step that isn't an end uses a byte
abbrev pub Progresses : ℕ → Step → Type 0
Progresses used steps.More = 0 < used
Progresses used steps.Head = 0 < used
Progresses used (steps.Body start stop) = 0 < used
Progresses used steps.Whole = ⊤
Progresses used steps.Early = ⊤
Progresses used (steps.Bad at) = ⊤

-- the head is told by one step, before the body, and stays
abbrev pub KeepsHead : Step → Option AnswerHead → Option AnswerHead → Type 0
KeepsHead steps.Head old new = old ≡ None
KeepsHead steps.More old new = new ≡ old
KeepsHead (steps.Body start stop) old new = (IsSome old) × (new ≡ old)
KeepsHead steps.Whole old new = new ≡ old
KeepsHead steps.Early old new = new ≡ old
KeepsHead (steps.Bad at) old new = new ≡ old

-- so is its Location
abbrev pub KeepsLocation : Step → Option (List ℕ) → Option (List ℕ) → Type 0
KeepsLocation steps.Head old new = old ≡ None
KeepsLocation steps.More old new = new ≡ old
KeepsLocation (steps.Body start stop) old new = new ≡ old
KeepsLocation steps.Whole old new = new ≡ old
KeepsLocation steps.Early old new = new ≡ old
KeepsLocation (steps.Bad at) old new = new ≡ old

-- so many bytes of the body are counted off
abbrev pub CountsOff : ℕ → Option ℕ → Option ℕ → Type 0
CountsOff count None new = new ≡ None
CountsOff count (Some n) new = (count ≤ n) × (new ≡ Some (n - count))

-- a head says how many bytes are due, each part of the body is counted off, and a whole answer has none due
abbrev pub Counts : Step → Option AnswerHead → Option ℕ → Option ℕ → Type 0
Counts steps.More told old new = new ≡ old
Counts steps.Head told old new = IfSome told (λ h. new ≡ due_told h)
Counts (steps.Body start stop) told old new = CountsOff (stop - start) old new
Counts steps.Whole told old new = IsDone old
Counts steps.Early told old new = ⊤
Counts (steps.Bad at) told old new = ⊤

-- ---- steps past the head

-- the head stays told
abbrev pub KeepsTold : Step → Stage → Type 0
KeepsTold step stage =
    (head : Option AnswerHead) (location : Option (List ℕ)) → IsSome head
    → KeepsHead step head head × KeepsLocation step location location × FitsHead stage head location

-- what a step past the head says, whatever is told
abbrev pub TellsOn : Step → ℕ → List ℕ → (Bool → List ℕ → Reading) → (Bool → List ℕ → Reading) → Type 0
TellsOn step used piece old new =
    (told : Option AnswerHead) (location : Option (List ℕ)) → Tells step used piece told location old new

-- a part has room for so many bytes
abbrev pub HasRoom : Option ℕ → ℕ → Type 0
HasRoom None n = ⊤
HasRoom (Some m) n = n ≤ m
