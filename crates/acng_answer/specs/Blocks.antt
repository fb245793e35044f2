-- What spans of a block say of its head, and what is made of the block.
use Rattle.std.specs.Prelude.{◌≡◌, ◌≤◌, ◌<◌, ◌^◌, ℕ, true, false, ◌==◌, cond, List, [], ◌∷◌, length, map, take, Option, Some, None, IfSome, option_map, ⊤}
use Rattle.httparse.specs.declared.spans.HeaderSpan.{HeaderSpan}
use Rattle.httparse.specs.declared.spans.ResponseSpans.{ResponseSpans}
use Rattle.httparse.specs.declared.spans.Span.{Span}
use Rattle.httparse.specs.Spans.{IsWithin, header_bytes, span_bytes}
use Rattle.acng_base.specs.Heads.{Head}
use Rattle.acng_base.specs.Fields.{agreed, content_range, tag_of, modified_of, location_of}
use Rattle.acng_base.specs.Framings.{Framing, Empty, Chunks, ToEnd, Counted, framing, part_len, stated_length}
use Rattle.acng_base.specs.Answers.{is_interim}
use Rattle.acng_answer.specs.declared.step.AnswerHead.{AnswerHead}
use Rattle.acng_answer.specs.declared.framing.Lengths.{Lengths}
use Rattle.acng_answer.specs.declared.framing.Lengths.TheVariants as lengths
use Rattle.acng_answer.specs.declared.framing.Framed.{Framed}
use Rattle.acng_answer.specs.declared.framing.Framed.TheVariants as framed
use Rattle.acng_answer.specs.declared.head.Judged.{Judged}
use Rattle.acng_answer.specs.declared.head.Judged.TheVariants as judged

-- ---- fields

-- the spans are those of the head
abbrev pub IsHeadAt : List ℕ → List HeaderSpan → ResponseSpans → Option Head → Type 0
IsHeadAt block headers r None = ⊥
IsHeadAt block headers r (Some h) = (r.code ≡ h.status) × (map (header_bytes block) (take r.headers headers) ≡ h.fields)

-- what the values of `Content-Length` say together
abbrev pub AreLengths : Lengths → List (List ℕ) → Type 0
AreLengths lengths.Absent vs = vs ≡ []
AreLengths (lengths.Agreed n) vs = (v : List ℕ) × (more : List (List ℕ)) × (vs ≡ v ∷ more) × (agreed vs ≡ Some n)
AreLengths lengths.Refused vs = (v : List ℕ) × (more : List (List ℕ)) × (vs ≡ v ∷ more) × (agreed vs ≡ None)

-- the same with one more value, of which this is the length
abbrev pub more_lengths : Lengths → Option ℕ → Lengths
more_lengths lengths.Absent None = lengths.Refused
more_lengths lengths.Absent (Some n) = lengths.Agreed n
more_lengths (lengths.Agreed n) None = lengths.Refused
more_lengths (lengths.Agreed n) (Some m) = cond (n == m) (lengths.Agreed n) lengths.Refused
more_lengths lengths.Refused given = lengths.Refused

-- ---- heads

-- first place, last place and total, up to 2^41
abbrev pub IsRange : ℕ × ℕ × ℕ → Type 0
IsRange r = (r.0 ≤ r.1) × (r.1 < r.2) × (r.2 ≤ 2 ^ 41)

-- a framing with the part that is due, as the code has it; None where the head isn't taken
abbrev pub IsFraming : Option Framing → Option ℕ → Option Framed → Type 0
IsFraming f part None = f ≡ None
IsFraming f part (Some framed.Empty) = f ≡ Some Empty
IsFraming f part (Some (framed.Counted n)) = f ≡ Some (Counted n)
IsFraming f part (Some (framed.ToEnd p)) = (f ≡ Some ToEnd) × (part ≡ p)
IsFraming f part (Some (framed.Chunks p)) = (f ≡ Some Chunks) × (part ≡ p)

-- how the body of a head is framed
abbrev pub IsFramedAs : Head → Framed → Type 0
IsFramedAs h f = IsFraming (framing h) (part_len h) (Some f)

-- what is told of a head
abbrev pub answer_head : Head → AnswerHead
answer_head h = record { status = h.status; length = stated_length h; range = content_range h; tag = tag_of h; modified = modified_of h }

-- the bounds of what is told
pub record IsBounded (told : AnswerHead) : Type 0 where
  pub status : told.status < 1000
  pub length : IfSome told.length (λ n. n ≤ 2 ^ 41)
  pub range : IfSome told.range IsRange
  pub modified : IfSome told.modified (λ m. m.0 < 253402300800)

-- a final head that is taken
pub record IsFinal (location : Option (List ℕ)) (f : Framed) (told : AnswerHead) (h : Head) : Type 0 where
  pub kind : is_interim h ≡ false
  pub framed_as : IsFramedAs h f
  pub told_is : told ≡ answer_head h
  pub bounds : IsBounded told
  pub located : location ≡ location_of h

-- what a block is, by the head that it has, and the Location that is kept
abbrev pub IsJudged : Option (List ℕ) → Judged → Option Head → Type 0
IsJudged location judged.Refused None = location ≡ None
IsJudged location judged.Refused (Some h) = (location ≡ None) × (is_interim h ≡ false) × (framing h ≡ None)
IsJudged location judged.Interim None = ⊥
IsJudged location judged.Interim (Some h) = (location ≡ None) × (is_interim h ≡ true)
IsJudged location (judged.Final f told) None = ⊥
IsJudged location (judged.Final f told) (Some h) = IsFinal location f told h
