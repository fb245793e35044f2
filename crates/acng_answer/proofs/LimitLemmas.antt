-- A reading up to a limit, in two parts.
use Rattle.std.proofs.Common.{◌≡◌, ℕ, zero, suc, ◌+◌, ◌-◌, ◌<◌, ◌≤◌, ◌⊎◌, inl, inr, Bool, true, false, List, [], ◌∷◌, ◌++◌, length, take, drop, refl, ap, sym, ◌∙◌, arith, nat_le, slice_range, Option}
use Rattle.std.proofs.lemmas.List.{length-append, length-drop, length-take, take_all, take-take}
use Rattle.std.proofs.lemmas.Bool.Decides.{leb_tells}
use borrow.Author.Tests.{lt-leb}
use Rattle.acng_base.specs.Heads.{Head}
use Rattle.acng_base.specs.Answers.{Outcome, Whole, Early, Open, Bad, Reading, nothing, after_body, after_head, within, on_limit, at_limit}
use Rattle.acng_answer.specs.declared.step.AnswerHead.{AnswerHead}
use Rattle.acng_answer.specs.declared.step.Step.{Step}
use Rattle.acng_answer.specs.declared.step.Step.TheVariants as steps
use Rattle.acng_answer.specs.Reader.{Tells, TellsEnd}
use Rattle.acng_answer.proofs.Texts.{take_over, same_le}

abbrev capped : Bool → ℕ → Reading → Reading
capped true limit r = r
capped false limit r = at_limit limit r

-- what a reading within a limit looks at, before a part is used and after it
record Looks (left limit used : ℕ) (piece more : List ℕ) (ended : Bool) : Type 0 where
  all : Bool
  mark : Bool
  rest : List ℕ
  before : (f : Bool → List ℕ → Reading) → within left limit f ended (piece ++ more) ≡ capped all limit (f mark (take left piece ++ rest))
  after : (f : Bool → List ℕ → Reading) → within (left - used) limit f ended (drop used piece ++ more) ≡ capped all limit (f mark (drop used (take left piece) ++ rest))

drop_take : (used left : ℕ) (xs : List ℕ) → drop used (take left xs) ≡ take (left - used) (drop used xs)
drop_take zero left xs = let e : left ≡ left - 0 = omega arith in ap (λ j. take j xs) e
drop_take (suc u) zero xs = let e : 0 ≡ 0 - suc u = omega arith in ap (λ j. take j (drop (suc u) xs)) e
drop_take (suc u) (suc l) [] = sym (take_all (suc l - suc u) [] (omega arith))
drop_take (suc u) (suc l) (x ∷ xs) = let e : l - u ≡ suc l - suc u = omega arith in drop_take u l xs ∙ ap (λ j. take j (drop u xs)) e

looks : (left limit used : ℕ) (piece more : List ℕ) (ended : Bool) → used ≤ length piece → used ≤ left → Looks left limit used piece more ended
looks left limit used piece more ended h k = cases (leb_tells (length (piece ++ more)) left)
  where
    same : nat_le (length (piece ++ more)) left ≡ nat_le (length (drop used piece ++ more)) (left - used)
    same = rw (length-append, length-append, length-drop) (same_le (length piece + length more) left ((length piece - used) + length more) (left - used) (λ p. omega arith) (λ p. omega arith))

    cases : ((nat_le (length (piece ++ more)) left ≡ true) × (length (piece ++ more) ≤ left)) ⊎ ((nat_le (length (piece ++ more)) left ≡ false) × (left < length (piece ++ more))) → Looks left limit used piece more ended
    cases (inl t) =
        let size = length-append piece more in
        let short : length piece ≤ left = omega (arith, t.1) in
        let whole : take left piece ≡ piece = take_all left piece short in
        record {
          all = true;
          mark = ended;
          rest = more;
          before = λ f. ap (on_limit left limit f ended (piece ++ more)) t.0 ∙ ap (λ p. f ended (p ++ more)) (sym whole);
          after = λ f. ap (on_limit (left - used) limit f ended (drop used piece ++ more)) (sym same ∙ t.0) ∙ ap (λ p. f ended (drop used p ++ more)) (sym whole);
        }
    cases (inr t) = record {
      all = false;
      mark = false;
      rest = take (left - length piece) more;
      before = λ f. ap (on_limit left limit f ended (piece ++ more)) t.0 ∙ ap (λ p. at_limit limit (f false p)) (take_over left piece more);
      after = λ f. ap (on_limit (left - used) limit f ended (drop used piece ++ more)) (sym same ∙ t.0)
          ∙ ap (λ p. at_limit limit (f false p)) (take_over (left - used) (drop used piece) more
          ∙ ap (λ p. p ++ take ((left - used) - length (drop used piece)) more) (sym (drop_take used left piece))
          ∙ ap (λ j. drop used (take left piece) ++ take j more) room);
    }
      where
        room : (left - used) - length (drop used piece) ≡ left - length piece
        room = rw length-drop (omega arith)

capped_body : (xs : List ℕ) (r : Reading) (limit : ℕ) (b : Bool) → capped b limit (after_body xs r) ≡ after_body xs (capped b limit r)
capped_body xs r limit true = refl
capped_body xs r limit false = refl

capped_head : (h : Head) (r : Reading) (limit : ℕ) (b : Bool) → capped b limit (after_head h r) ≡ after_head h (capped b limit r)
capped_head h r limit true = refl
capped_head h r limit false = refl

-- an end stays
pub record Ends (o : Outcome) : Type 0 where
  pub kept : (limit : ℕ) → at_limit limit (nothing o) ≡ nothing o

capped_end : (o : Outcome) (limit : ℕ) (b : Bool) → Ends o → capped b limit (nothing o) ≡ nothing o
capped_end o limit true e = refl
capped_end o limit false e = e.kept limit

pub ended_within : (o : Outcome) (left limit : ℕ) (f : Bool → List ℕ → Reading) → Ends o → ((ended : Bool) (more : List ℕ) → f ended more ≡ nothing o)
    → (ended : Bool) (more : List ℕ) → within left limit f ended more ≡ nothing o
ended_within o left limit f e h ended more = cases (nat_le (length more) left)
  where
    cases : (b : Bool) → on_limit left limit f ended more b ≡ nothing o
    cases true = h ended more
    cases false = ap (at_limit limit) (h false (take left more)) ∙ e.kept limit

-- no byte may come any more, and one comes
pub limit_reached : (left limit : ℕ) (read : Bool → List ℕ → Reading) (ended : Bool) (text : List ℕ) → left ≡ 0 → 0 < length text → read false [] ≡ nothing Open
    → within left limit read ended text ≡ nothing (Bad limit)
limit_reached left limit read ended text none some open_ =
    let t : nat_le (length text) left ≡ false = lt-leb (length text) left (omega arith) in
    ap (on_limit left limit read ended text) t ∙ ap (λ k. at_limit limit (read false (take k text))) none ∙ ap (at_limit limit) open_

slice_take : (left : ℕ) (piece : List ℕ) (start stop : ℕ) → start < stop → stop ≤ length (take left piece) → slice_range (take left piece) start stop ≡ slice_range piece start stop
slice_take left piece start stop h k =
    let size = length-take left piece in
    ap (take (stop - start)) (drop_take start left piece) ∙ take-take (stop - start) (left - start) (drop start piece) (omega arith)

-- a step on a part of the piece is one on the piece
module _ (left limit used : ℕ) (piece : List ℕ) (old new : Bool → List ℕ → Reading) (h : used ≤ length (take left piece)) where
  fits_piece : (used ≤ length piece) × (used ≤ left)
  fits_piece = let size = length-take left piece in (omega arith, omega arith)

  ended_tells : (o : Outcome) → Ends o → TellsEnd o (take left piece) old new → TellsEnd o piece (within left limit old) (within (left - used) limit new)
  ended_tells o e t = λ ended more.
      let l = looks left limit used piece more ended fits_piece.0 fits_piece.1 in (
        l.before old ∙ ap (capped l.all limit) (t l.mark l.rest).0 ∙ capped_end o limit l.all e,
        ended_within o (left - used) limit new e (λ ended more. (t ended more).1) ended more,
      )

  pub limited : (told : Option AnswerHead) (location : Option (List ℕ)) (step : Step) → Tells step used (take left piece) told location old new → Tells step used piece told location (within left limit old) (within (left - used) limit new)
  limited told location steps.More t = λ ended more.
      let l = looks left limit used piece more ended fits_piece.0 fits_piece.1 in
      l.before old ∙ ap (capped l.all limit) (t l.mark l.rest) ∙ sym (l.after new)
  limited told location steps.Head t = record {
    head = t.head;
    taken = t.taken;
    told_is = t.told_is;
    located = t.located;
    reads = λ ended more.
        let l = looks left limit used piece more ended fits_piece.0 fits_piece.1 in
        l.before old ∙ ap (capped l.all limit) (t.reads l.mark l.rest) ∙ capped_head t.head _ limit l.all ∙ ap (after_head t.head) (sym (l.after new));
  }
  limited told location (steps.Body start stop) t = record {
    some = t.some;
    inside = t.inside;
    reads = λ ended more.
        let l = looks left limit used piece more ended fits_piece.0 fits_piece.1 in
        l.before old ∙ ap (capped l.all limit) (t.reads l.mark l.rest) ∙ capped_body _ _ limit l.all
        ∙ ap (after_body (slice_range (take left piece) start stop)) (sym (l.after new))
        ∙ ap (λ b. after_body b (within (left - used) limit new ended (drop used piece ++ more))) (slice_take left piece start stop t.some (let k = t.inside in omega (arith, h)));
  }
  limited told location steps.Whole t = ended_tells Whole (record { kept = λ _. refl }) t
  limited told location steps.Early t = ended_tells Early (record { kept = λ _. refl }) t
  limited told location (steps.Bad at) t = ended_tells (Bad at) (record { kept = λ _. refl }) t
