-- What each stage of a reader makes of the text that follows.
use Rattle.std.specs.Prelude.{◌≡◌, ℕ, ◌+◌, ◌-◌, ◌<◌, ◌≤◌, Bool, ◌==◌, List, [], ◌∷◌, ◌++◌, length, take, cond, Option, Some, None, IsSome, ⊤}
use Rattle.acng_base.specs.declared.block.LineState.{LineState}
use Rattle.acng_base.specs.declared.block.LineState.TheVariants.{Before}
use Rattle.acng_base.specs.Lines.{block_len, state_after}
use Rattle.acng_base.specs.SizeLines.{first_line_len}
use Rattle.acng_base.specs.Answers.{Outcome, Whole, Early, Open, Bad, Reading, nothing, wants_more, counted_body, open_body, on_trailer, chunk_bytes, from_chunk, on_seam, seam, from_head}
use Rattle.acng_answer.specs.declared.stage.End.{End}
use Rattle.acng_answer.specs.declared.stage.End.TheVariants as ends
use Rattle.acng_answer.specs.declared.stage.Stage.{Stage}
use Rattle.acng_answer.specs.declared.stage.Stage.TheVariants.{Heads, CountedBody, OpenBody, SizeLine, Chunk, ChunkLf, Trailer, Ended}
use Rattle.acng_answer.specs.declared.step.AnswerHead.{AnswerHead}

-- how an answer ended
abbrev pub outcome_of : End → Outcome
outcome_of ends.Whole = Whole
outcome_of ends.Early = Early
outcome_of (ends.Bad at) = Bad at

-- the heads of status 100 to 199 are skipped
abbrev pub without_interim : Reading → Reading
without_interim r = record { interim = []; head = r.head; body = r.body; outcome = r.outcome }

-- ---- chunks

-- what follows a chunk's bytes: CR LF, and the next chunk
abbrev pub after_seam : Option ℕ → ℕ → Bool → List ℕ → Reading
after_seam part at ended text = on_seam (λ a rest. from_chunk part a ended rest) at (seam at ended text)

-- the last n bytes of a chunk, and what follows them
abbrev pub in_chunk : ℕ → Option ℕ → ℕ → Bool → List ℕ → Reading
in_chunk n part at ended text = chunk_bytes (λ p a rest. from_chunk p a ended rest) n part at ended text

-- the lines after the last chunk, of which so many bytes may come and the first byte has the place `start`
abbrev pub in_trailer : LineState → ℕ → ℕ → Bool → List ℕ → Reading
in_trailer state room start ended text = on_trailer room start ended text (block_len state (take room text))

-- ---- stages

-- what a stage makes of the text that follows, whose first byte has the place `at`; `held` is what came of a head or of
-- a size line
abbrev pub staged : Stage → List ℕ → ℕ → Bool → List ℕ → Reading
staged (Heads state start) held at ended text = without_interim (from_head start ended (held ++ text))
staged (CountedBody left) held at ended text = counted_body left ended text
staged (OpenBody part) held at ended text = open_body part at ended text
staged (SizeLine part start) held at ended text = from_chunk part start ended (held ++ text)
staged (Chunk part left) held at ended text = in_chunk left part at ended text
staged (ChunkLf part start) held at ended text = after_seam part start ended (13 ∷ text)
staged (Trailer part state start) held at ended text = in_trailer state (16384 - (at - start)) start ended text
staged (Ended end due) held at ended text = nothing (outcome_of end)

-- no byte is due any more
abbrev pub IsDone : Option ℕ → Type 0
IsDone None = ⊤
IsDone (Some n) = n ≡ 0

abbrev pub EndsDone : End → Option ℕ → Type 0
EndsDone ends.Whole due = IsDone due
EndsDone ends.Early due = ⊤
EndsDone (ends.Bad at) due = ⊤

-- what is true of a stage at the place of the next byte
abbrev pub Fits : Stage → List ℕ → ℕ → Type 0
Fits (Heads state start) held at = (state_after Before held ≡ Some state) × (start + length held ≡ at) × (length held < 16384)
Fits (CountedBody left) held at = 0 < left
Fits (OpenBody part) held at = ⊤
Fits (SizeLine part start) held at = (first_line_len held ≡ None) × (start + length held ≡ at) × (length held < 1024)
Fits (Chunk part left) held at = held ≡ []
Fits (ChunkLf part start) held at = (held ≡ []) × (start + 1 ≡ at)
Fits (Trailer part state start) held at = (start ≤ at) × (at < start + 16384) × IsDone part
Fits (Ended end due) held at = EndsDone end due

-- the head is told from its end on
abbrev pub FitsHead : Stage → Option AnswerHead → Option (List ℕ) → Type 0
FitsHead (Heads state start) head location = (head ≡ None) × (location ≡ None)
FitsHead (CountedBody left) head location = IsSome head
FitsHead (OpenBody part) head location = IsSome head
FitsHead (SizeLine part start) head location = IsSome head
FitsHead (Chunk part left) head location = IsSome head
FitsHead (ChunkLf part start) head location = IsSome head
FitsHead (Trailer part state start) head location = IsSome head
FitsHead (Ended end due) head location = ⊤

-- the bytes of the body that are still due, where the head said how many
abbrev pub due_at : Stage → Option ℕ
due_at (Heads state start) = None
due_at (CountedBody left) = Some left
due_at (OpenBody part) = part
due_at (SizeLine part start) = part
due_at (Chunk part left) = part
due_at (ChunkLf part start) = part
due_at (Trailer part state start) = part
due_at (Ended end due) = due

-- what the end of the text means in a stage
abbrev pub at_end : Stage → Bool → Outcome
at_end (Heads state start) ended = wants_more ended
at_end (CountedBody left) ended = wants_more ended
at_end (OpenBody None) ended = cond ended Whole Open
at_end (OpenBody (Some n)) ended = cond (0 == n) (cond ended Whole Open) (wants_more ended)
at_end (SizeLine part start) ended = wants_more ended
at_end (Chunk part left) ended = wants_more ended
at_end (ChunkLf part start) ended = wants_more ended
at_end (Trailer part state start) ended = wants_more ended
at_end (Ended end due) ended = outcome_of end
