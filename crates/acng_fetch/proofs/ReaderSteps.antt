-- What one step of a reader over a part of the buffer makes of the reading that is left.
use Rattle.std.proofs.Common.{◌≡◌, ℕ, ◌+◌, ◌-◌, ◌≤◌, Bool, not, List, ◌++◌, Option, length, slice_range, drop, ap, ◌∙◌, arith}
use Rattle.std.proofs.Common.{Some, None, IfSome, MatchOption, sym, subst}
use Rattle.acng_base.specs.Answers.{Reading, Whole, Early, Bad, nothing, after_head, after_body}
use Rattle.acng_answer.specs.Stages.{IsDone}
use Rattle.acng_answer.specs.declared.step.AnswerHead.{AnswerHead}
use Rattle.acng_answer.specs.declared.step.Step.TheVariants as step
use Rattle.acng_answer.specs.declared.step.Step.{Step}
use Rattle.acng_answer.specs.Reader.{State, rest, Tells, Stops}
use Rattle.acng_answer.specs.Reader.{Counts as CountsStep}
use Rattle.acng_fetch.specs.declared.exchange.End.{End}
use Rattle.acng_fetch.specs.declared.exchange.End.TheVariants as ends
use Rattle.acng_fetch.specs.Events.{IsEndOf, GoesOn, EndsDue}
use Rattle.acng_fetch.proofs.Pieces.{left_over, part_of}

-- the reader before and after it, the buffer with the bytes from one place to another, those that it used, and the bytes
-- that are still to come
module _ (old new : State) (faulted : Bool) (buf : List ℕ) (from to used : ℕ) (left : List ℕ) (told : Option AnswerHead)
    (location : Option (List ℕ)) where
  abbrev before : Reading
  before = rest old (not faulted) (slice_range buf from to ++ left)

  abbrev after : Reading
  after = rest new (not faulted) (slice_range buf (from + used) to ++ left)

  moved : rest new (not faulted) (drop used (slice_range buf from to) ++ left) ≡ after
  moved = ap (λ p. rest new (not faulted) (p ++ left)) (left_over buf from to used)

  pub after_more : Tells step.More used (slice_range buf from to) told location (rest old) (rest new) → before ≡ after
  after_more t = t (not faulted) left ∙ moved

  pub after_the_head : (t : Tells step.Head used (slice_range buf from to) told location (rest old) (rest new))
      → before ≡ after_head t.head after
  after_the_head t = t.reads (not faulted) left ∙ ap (after_head t.head) moved

  pub after_bytes : (start stop : ℕ) → to ≤ length buf → used ≤ to - from
      → Tells (step.Body start stop) used (slice_range buf from to) told location (rest old) (rest new)
      → before ≡ after_body (slice_range buf (from + start) (from + stop)) after
  after_bytes start stop h k t =
      t.reads (not faulted) left ∙ ap (after_body (slice_range (slice_range buf from to) start stop)) moved
      ∙ ap (λ b. after_body b after) (part_of buf from to start stop (let lt = t.inside in omega arith))

-- a step of a piece that is another one
pub at_slice : (T : Step → List ℕ → Type 0) (s t : Step) (a b : List ℕ) → s ≡ t → a ≡ b → T s a → T t b
at_slice T s t a b h k x = subst (λ y. T t y) k (subst (λ y. T y a) h x)

-- ---- ends

-- a whole answer has no byte due any more
done : (result : Step) (r : Reading) (told : Option AnswerHead) (due due' : Option ℕ) → r ≡ nothing Whole → Stops result r
    → CountsStep result told due due' → IsDone due
done step.Whole r told due due' w s c = c
done step.Early r told due due' w s c = absurd (let e : Whole ≡ Early = ap (λ x. x.outcome) (sym w ∙ s) in cc)
done (step.Bad at) r told due due' w s c = absurd (let e : Whole ≡ Bad at = ap (λ x. x.outcome) (sym w ∙ s) in cc)
done step.More r told due due' w s c = absurd s
done step.Head r told due due' w s c = absurd s
done (step.Body start stop) r told due due' w s c = absurd s

pub ends_due : {P : Type 0} (o : Option (End P)) (over result : Step) (r : Reading) (told : Option AnswerHead) (due due' : Option ℕ)
    → MatchOption o (GoesOn over) (λ e. IsEndOf over e) → Stops over r → Stops result r → CountsStep result told due due'
    → IfSome o (λ e. EndsDue e due)
ends_due None over result r told due due' m s t c = tt
ends_due (Some ends.Whole) over result r told due due' m s t c = done result r told due due' (subst (λ x. Stops x r) m s) t c
ends_due (Some ends.Early) over result r told due due' m s t c = tt
ends_due (Some (ends.Bad at)) over result r told due due' m s t c = tt
ends_due (Some (ends.Slip p)) over result r told due due' m s t c = absurd m
