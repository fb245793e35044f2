-- What the end of the text means in each stage.
use Rattle.std.proofs.Common.{◌≡◌, ◌≢◌, ◌==◌, ℕ, zero, suc, ◌+◌, ◌-◌, ◌<◌, ◌≤◌, ◌⊎◌, inl, inr, Bool, true, false, List, [], ◌∷◌, ◌++◌, length, take, drop, Option, Some, None, cond, refl, ap, sym, ◌∙◌, subst, arith, nat_le, nat_lt, append_assoc, append-nil, option_map, min, slice_range}
use Rattle.std.proofs.lemmas.List.{take-append-drop, length-take-le, take-append-le, drop-append-le, length-append, length-drop, length-take, take_all, take-take}
use Rattle.std.proofs.lemmas.Bool.Decides.{leb_tells, eqb_tells}
use Rattle.std.proofs.Math.Seq.{take-append-add, drop-append-add}
use Rattle.std.proofs.Math.ListN.{drop_of_length-le}
use Rattle.std.proofs.lemmas.Bool.{le-leb}
use borrow.Author.Tests.{lt-leb}
use Rattle.acng_base.specs.declared.block.LineState.{LineState}
use Rattle.acng_base.specs.declared.block.LineState.TheVariants.{Before}
use Rattle.acng_base.specs.Lines.{block_len, head_block_len, state_after}
use Rattle.acng_base.specs.SizeLines.{first_line_len}
use Rattle.acng_base.specs.Answers.{Outcome, Whole, Early, Open, Bad, Reading, nothing, wants_more, within, from_chunk, less_than, overfull, on_room, on_bytes}
use Rattle.acng_base.proofs.Scans.{goes_on}
use Rattle.acng_base.proofs.BlockLines.{before}
use Rattle.acng_answer.specs.declared.stage.End.{End}
use Rattle.acng_answer.specs.declared.stage.End.TheVariants as ends
use Rattle.acng_answer.specs.declared.stage.Stage.{Stage}
use Rattle.acng_answer.specs.declared.stage.Stage.TheVariants.{Heads, CountedBody, OpenBody, SizeLine, Chunk, ChunkLf, Trailer, Ended}
use Rattle.acng_answer.specs.declared.step.AnswerHead.{AnswerHead}
use Rattle.acng_answer.specs.declared.step.Step.{Step}
use Rattle.acng_answer.specs.declared.step.Step.TheVariants as steps
use Rattle.acng_answer.specs.Stages.{staged, Fits, EndsDone, at_end, in_chunk, in_trailer, outcome_of}
use Rattle.acng_answer.specs.Reader.{step_of, Stops, Counts}
use Rattle.acng_answer.proofs.Texts.{take_none}

-- no byte of a chunk, and no end
open_chunk : (left : ℕ) (p : Option ℕ) (at : ℕ) (ended : Bool) → in_chunk left p at ended [] ≡ nothing (wants_more ended)
open_chunk left p at ended = room (less_than p left)
  where
    bytes : (b : Bool) → on_bytes (λ p a rest. from_chunk p a ended rest) left p at ended [] b ≡ nothing (wants_more ended)
    bytes true = refl
    bytes false = let e : drop {A = ℕ} left [] ≡ [] = drop_of_length-le [] (omega arith) in rw (e, take_none left) refl

    room : (o : Option ℕ) → on_room (λ p a rest. from_chunk p a ended rest) left p at ended [] o ≡ nothing (wants_more ended)
    room (Some m) = let t : nat_lt m 0 ≡ false = lt-leb (suc m) 0 (omega arith) in rw (t, take_none m) refl
    room None = bytes (nat_lt 0 left)

pub stage_ends : (stage : Stage) (held : List ℕ) (at : ℕ) → Fits stage held at → (ended : Bool) → staged stage held at ended [] ≡ nothing (at_end stage ended)
stage_ends (Heads m start) held at f ended =
    let none : head_block_len (take 16384 (held ++ [])) ≡ None =
    sym (before (take 16384 (held ++ []))) ∙ ap (block_len Before) (ap (take 16384) (append-nil held) ∙ take_all 16384 held (omega (arith, f.2))) ∙ goes_on Before m held f.0 in
    let short : nat_le 16384 (length (held ++ [])) ≡ false = rw append-nil (lt-leb 16384 (length held) f.2) in
    rw (none, short) refl
stage_ends (CountedBody left) held at f ended = let t : nat_le left 0 ≡ false = lt-leb left 0 f in rw (t, take_none left) refl
stage_ends (OpenBody None) held at f ended = refl
stage_ends (OpenBody (Some n)) held at f ended = let t : nat_lt n 0 ≡ false = lt-leb (suc n) 0 (omega arith) in rw t refl
stage_ends (SizeLine p start) held at f ended =
    let none : first_line_len (take 1024 (held ++ [])) ≡ None = ap first_line_len (ap (take 1024) (append-nil held) ∙ take_all 1024 held (omega (arith, f.2))) ∙ f.0 in
    let short : nat_le 1024 (length (held ++ [])) ≡ false = rw append-nil (lt-leb 1024 (length held) f.2) in
    rw (none, short) refl
stage_ends (Chunk p left) held at f ended = open_chunk left p at ended
stage_ends (ChunkLf p start) held at f ended = refl
stage_ends (Trailer p m start) held at f ended =
    let short : nat_le (16384 - (at - start)) 0 ≡ false = lt-leb (16384 - (at - start)) 0 (omega (arith, f.0, f.1)) in
    rw (take_none (16384 - (at - start)), short) refl
stage_ends (Ended e due) held at f ended = refl

-- where nothing more has come, an answer that hasn't ended is open
pub stage_open : (stage : Stage) (held : List ℕ) (at : ℕ) → Fits stage held at → ((e : End) (due : Option ℕ) → stage ≢ Ended e due) → staged stage held at false [] ≡ nothing Open
stage_open stage held at f live = stage_ends stage held at f false ∙ goes_on_from stage live
  where
    goes_on_from : (stage : Stage) → ((e : End) (due : Option ℕ) → stage ≢ Ended e due) → nothing (at_end stage false) ≡ nothing Open
    goes_on_from (OpenBody (Some n)) live = either (0 == n)
      where
        either : (b : Bool) → nothing (cond b Open Open) ≡ nothing Open
        either true = refl
        either false = refl
    goes_on_from (OpenBody None) live = refl
    goes_on_from (Heads m start) live = refl
    goes_on_from (CountedBody left) live = refl
    goes_on_from (SizeLine p start) live = refl
    goes_on_from (Chunk p left) live = refl
    goes_on_from (ChunkLf p start) live = refl
    goes_on_from (Trailer p m start) live = refl
    goes_on_from (Ended e due) live = absurd (live e due refl)

-- the same up to a limit
pub rest_ends : (left limit : ℕ) (stage : Stage) (held : List ℕ) (at : ℕ) → Fits stage held at → (ended : Bool)
    → within left limit (staged stage held at) ended [] ≡ nothing (at_end stage ended)
rest_ends left limit stage held at f ended = let t = le-leb 0 left (omega arith) in rw t (stage_ends stage held at f ended)

pub rest_open : (left limit : ℕ) (stage : Stage) (held : List ℕ) (at : ℕ) → Fits stage held at → ((e : End) (due : Option ℕ) → stage ≢ Ended e due)
    → within left limit (staged stage held at) false [] ≡ nothing Open
rest_open left limit stage held at f live = let t = le-leb 0 left (omega arith) in rw t (stage_open stage held at f live)

-- the end of a stage is its step
pub end_stops : (e : End) (r : Reading) → r ≡ nothing (outcome_of e) → Stops (step_of e) r
end_stops ends.Whole r h = h
end_stops ends.Early r h = h
end_stops (ends.Bad at) r h = h

-- an answer that goes on has no end
pub not_over : (step : Step) → Stops step (nothing Open) → ⊥
not_over steps.More h = h
not_over steps.Head h = h
not_over (steps.Body start stop) h = h
not_over steps.Whole h = let o : Open ≡ Whole = ap (λ (r : Reading). r.outcome) h in cc
not_over steps.Early h = let o : Open ≡ Early = ap (λ (r : Reading). r.outcome) h in cc
not_over (steps.Bad at) h = let o : Open ≡ Bad at = ap (λ (r : Reading). r.outcome) h in cc

-- the step of an outcome
step_at : Outcome → Step
step_at Whole = steps.Whole
step_at Early = steps.Early
step_at Open = steps.More
step_at (Bad at) = steps.Bad at

step_at_end : (e : End) → step_at (outcome_of e) ≡ step_of e
unfolding step_at
step_at_end ends.Whole = refl
step_at_end ends.Early = refl
step_at_end (ends.Bad at) = refl

-- an end is one step
pub over_is : (e : End) (step : Step) → Stops step (nothing (outcome_of e)) → step_of e ≡ step
unfolding step_at
over_is e steps.More h = absurd h
over_is e steps.Head h = absurd h
over_is e (steps.Body start stop) h = absurd h
over_is e steps.Whole h = sym (step_at_end e) ∙ ap (λ (r : Reading). step_at r.outcome) h
over_is e steps.Early h = sym (step_at_end e) ∙ ap (λ (r : Reading). step_at r.outcome) h
over_is e (steps.Bad at) h = sym (step_at_end e) ∙ ap (λ (r : Reading). step_at r.outcome) h

-- a whole answer has no byte due
pub ended_counts : (e : End) (due : Option ℕ) (told : Option AnswerHead) → EndsDone e due → Counts (step_of e) told due due
ended_counts ends.Whole due told h = h
ended_counts ends.Early due told h = tt
ended_counts (ends.Bad at) due told h = tt
