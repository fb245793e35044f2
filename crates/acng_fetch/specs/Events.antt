-- What comes of an answer, one event at a time, and what is left of its reading.
use Rattle.std.specs.Prelude.{◌≡◌, ℕ, ◌+◌, ◌-◌, ◌<◌, ◌≤◌, ◌^◌, true, not, List, ◌++◌, length, slice_range, Option, Some, None, IsSome}
use Rattle.std.specs.Prelude.{IfSome, ⊤}
use Rattle.acng_site.specs.declared.conn.Conn.{Ghosts as ConnGhosts}
use Rattle.acng_base.specs.Heads.{Head as AnswerOf}
use Rattle.acng_base.specs.Fields.{location_of}
use Rattle.acng_base.specs.Answers.{Reading, Outcome, Whole, Early, Open, Bad, nothing, after_head, after_body}
use Rattle.acng_answer.specs.Blocks.{answer_head}
use Rattle.acng_answer.specs.Stages.{IsDone}
use Rattle.acng_answer.specs.Reader.{rest, due_told, CountsOff}
use Rattle.acng_answer.specs.declared.step.AnswerHead.{AnswerHead}
use Rattle.acng_answer.specs.declared.step.Step.{Step}
use Rattle.acng_answer.specs.declared.step.Step.TheVariants as step
use Rattle.acng_fetch.specs.declared.exchange.Exchange.{Exchange}
use Rattle.acng_fetch.specs.declared.exchange.End.{End}
use Rattle.acng_fetch.specs.declared.exchange.End.TheVariants as ends
use Rattle.acng_fetch.specs.declared.exchange.Event.{Event}
use Rattle.acng_fetch.specs.declared.exchange.Event.TheVariants as event

-- a connection that fails leaves its text open
abbrev pub outcome_of : {P : Type 0} → End P → Outcome
outcome_of ends.Whole = Whole
outcome_of ends.Early = Early
outcome_of (ends.Bad at) = Bad at
outcome_of (ends.Slip p) = Open

-- the end that a step says
abbrev pub IsEndOf : {P : Type 0} → Step → End P → Type 0
IsEndOf s ends.Whole = s ≡ step.Whole
IsEndOf s ends.Early = s ≡ step.Early
IsEndOf s (ends.Bad at) = s ≡ step.Bad at
IsEndOf s (ends.Slip p) = ⊥

-- the step is no end
abbrev pub GoesOn : Step → Type 0
GoesOn step.More = ⊤
GoesOn step.Head = ⊤
GoesOn (step.Body start stop) = ⊤
GoesOn step.Whole = ⊥
GoesOn step.Early = ⊥
GoesOn (step.Bad at) = ⊥

-- the bytes that were read and aren't used lie in the buffer, which isn't empty, and the reader is within its limit
pub record IsReady {C : Type 0} (x : Exchange C) : Type 0 where
  pub room : 0 < length x.buf.items
  pub ordered : x.pending.from ≤ x.pending.to
  pub within : x.pending.to ≤ length x.buf.items
  pub below : x.reader.at ≤ x.reader.limit
  pub limited : x.reader.limit ≤ 2 ^ 41

-- what is left of the reading of an answer: what the reader makes of the bytes in the buffer and of those to come
abbrev pub left_of : {C P : Type 0} → ConnGhosts C P → Exchange C → Reading
left_of c x = rest x.reader (not (c.faulted x.conn)) (slice_range x.buf.items x.pending.from x.pending.to ++ c.left x.conn)

-- the event, where the connection tells: the old reading is made of what came and of what is left now
abbrev pub Brings : {C P Q : Type 0} → ConnGhosts C P → Event Q → Exchange C → Exchange C → Type 0
Brings c event.Head old new =
    (h : AnswerOf) × (new.reader.head ≡ Some (answer_head h)) × (new.reader.location ≡ location_of h)
    × (c.tells ≡ true → left_of c old ≡ after_head h (left_of c new))
Brings c (event.Body start stop) old new =
    c.tells ≡ true → left_of c old ≡ after_body (slice_range new.buf.items start stop) (left_of c new)
Brings c (event.Ended e) old new = c.tells ≡ true → left_of c old ≡ nothing (outcome_of e)

-- a body's bytes lie in the buffer, and the reader has used them
abbrev pub IsPart : {P : Type 0} → Event P → List ℕ → ℕ → ℕ → Type 0
IsPart event.Head buf before after = ⊤
IsPart (event.Body start stop) buf before after = (start < stop) × (stop ≤ length buf) × (before + (stop - start) ≤ after)
IsPart (event.Ended e) buf before after = ⊤

-- the head comes once, and before the body
abbrev pub ComesInOrder : {P : Type 0} → Event P → Option AnswerHead → Option AnswerHead → Type 0
ComesInOrder event.Head old new = old ≡ None
ComesInOrder (event.Body start stop) old new = (IsSome old) × (new ≡ old)
ComesInOrder (event.Ended e) old new = new ≡ old

-- an end, by what was due of the body before it
abbrev pub EndsDue : {P : Type 0} → End P → Option ℕ → Type 0
EndsDue ends.Whole due = IsDone due
EndsDue ends.Early due = ⊤
EndsDue (ends.Bad at) due = ⊤
EndsDue (ends.Slip p) due = ⊤

-- a head says how many bytes are due, each part of the body is counted off, and a whole answer has none due
abbrev pub Counts : {P : Type 0} → Event P → Option AnswerHead → Option ℕ → Option ℕ → Type 0
Counts event.Head told old new = IfSome told (λ h. new ≡ due_told h)
Counts (event.Body start stop) told old new = CountsOff (stop - start) old new
Counts (event.Ended e) told old new = EndsDue e old

abbrev pub IfSlipEnd : {P : Type 0} → End P → (P → Type 0) → Type 0
IfSlipEnd ends.Whole A = ⊤
IfSlipEnd ends.Early A = ⊤
IfSlipEnd (ends.Bad at) A = ⊤
IfSlipEnd (ends.Slip p) A = A p

abbrev pub IfSlip : {P : Type 0} → Event P → (P → Type 0) → Type 0
IfSlip event.Head A = ⊤
IfSlip (event.Body start stop) A = ⊤
IfSlip (event.Ended e) A = IfSlipEnd e A
