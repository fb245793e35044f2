-- Bodies that come in two parts.
use Rattle.std.proofs.Common.{◌≡◌, ◌≢◌, ◌==◌, ℕ, zero, suc, ◌+◌, ◌-◌, ◌<◌, ◌≤◌, ◌⊎◌, inl, inr, Bool, true, false, List, [], ◌∷◌, ◌++◌, length, take, drop, Option, Some, None, cond, refl, ap, sym, ◌∙◌, subst, arith, nat_le, nat_lt, append_assoc, append-nil, option_map, min, slice_range}
use Rattle.std.proofs.lemmas.List.{take-append-drop, length-take-le, take-append-le, drop-append-le, length-append, length-drop, length-take, take_all, take-take}
use Rattle.std.proofs.lemmas.Bool.Decides.{leb_tells, eqb_tells}
use Rattle.std.proofs.Math.Seq.{take-append-add, drop-append-add}
use Rattle.std.proofs.Math.ListN.{drop_of_length-le}
use Rattle.std.proofs.lemmas.Bool.{le-leb}
use borrow.Author.Tests.{lt-leb}
use Rattle.acng_base.specs.Answers.{Outcome, Whole, Early, Open, Bad, Reading, nothing, just, after_body, wants_more, counted_body, open_body}
use Rattle.acng_answer.specs.declared.stage.End.TheVariants as ends
use Rattle.acng_answer.specs.declared.stage.Stage.{Stage}
use Rattle.acng_answer.specs.declared.stage.Stage.TheVariants.{Heads, CountedBody, OpenBody, SizeLine, Chunk, ChunkLf, Trailer, Ended}
use Rattle.acng_answer.specs.declared.step.AnswerHead.{AnswerHead}
use Rattle.acng_answer.specs.declared.step.Step.{Step}
use Rattle.acng_answer.specs.declared.step.Step.TheVariants as steps
use Rattle.acng_answer.specs.Stages.{staged}
use Rattle.acng_answer.specs.Reader.{Tells}
use Rattle.acng_answer.proofs.Texts.{same_le, same_eq, take_none, first_whole, in_parts}

-- a body to the end, of a part
pub open_more : (n at : ℕ) (xs more : List ℕ) (ended : Bool) → length xs ≤ n
    → open_body (Some n) at ended (xs ++ more) ≡ after_body xs (open_body (Some (n - length xs)) (at + length xs) ended more)
open_more n at xs more ended h =
    let m = n - length xs in
    let n_is : n ≡ length xs + m = omega arith in
    let place : at + n ≡ (at + length xs) + m = omega arith in
    let body_is : take n (xs ++ more) ≡ xs ++ take m more = ap (λ j. take j (xs ++ more)) n_is ∙ take-append-add xs more m in
    let test : nat_lt n (length (xs ++ more)) ≡ nat_lt m (length more) =
    rw length-append (same_le (suc n) (length xs + length more) (suc m) (length more) (λ p. omega arith) (λ p. omega arith)) in
    let test2 : (length (xs ++ more) == n) ≡ (length more == m) =
    rw length-append (same_eq (length xs + length more) n (length more) m (λ p. omega arith) (λ p. omega arith)) in
    rw (body_is, test, test2, place) (pushed (Bad ((at + length xs) + m)) (cond (length more == m) (cond ended Whole Open) (wants_more ended)) (take m more) more (nat_lt m (length more)))
  where
    pushed : (p q : Outcome) (ys zs : List ℕ) (b : Bool) → cond b (just (xs ++ ys) p) (just (xs ++ zs) q) ≡ after_body xs (cond b (just ys p) (just zs q))
    pushed p q ys zs true = refl
    pushed p q ys zs false = refl

-- the same as a step
pub open_part_tells : (n at count : ℕ) (piece held : List ℕ) (told : Option AnswerHead) (location : Option (List ℕ)) → 0 < count → count ≤ n → count ≤ length piece
    → Tells (steps.Body 0 count) count piece told location (staged (OpenBody (Some n)) held at) (staged (OpenBody (Some (n - count))) held (at + count))
open_part_tells n at count piece held told location some h k = record {
  some = some;
  inside = omega arith;
  reads = λ ended more.
      let size = length-take-le count piece k in
      rw (first_whole count piece) (ap (open_body (Some n) at ended) (in_parts count piece more) ∙ open_more n at (take count piece) (drop count piece ++ more) ended (omega arith)
      ∙ ap (λ c. after_body (take count piece) (open_body (Some (n - c)) (at + c) ended (drop count piece ++ more))) size);
}

-- all bytes to the connection's end
pub open_tells : (at : ℕ) (piece held : List ℕ) (told : Option AnswerHead) (location : Option (List ℕ)) → 0 < length piece
    → Tells (steps.Body 0 (length piece)) (length piece) piece told location (staged (OpenBody None) held at) (staged (OpenBody None) held (at + length piece))
open_tells at piece held told location some = record {
  some = some;
  inside = omega arith;
  reads = λ ended more.
      let all : slice_range piece 0 (length piece) ≡ piece = take_all (length piece - 0) piece (omega arith) in
      let none : drop (length piece) piece ++ more ≡ more = ap (λ t. t ++ more) (drop_of_length-le piece (omega arith)) in
      rw (all, none) refl;
}

-- a byte past the part
pub open_full : (at : ℕ) (piece held : List ℕ) (told : Option AnswerHead) (location : Option (List ℕ)) → 0 < length piece
    → Tells (steps.Bad at) 0 piece told location (staged (OpenBody (Some 0)) held at) (staged (Ended (ends.Bad at) None) held (at + 0))
open_full at piece held told location some = λ ended more. (
  let size = length-append piece more in
      let long : nat_lt 0 (length (piece ++ more)) ≡ true = le-leb 1 (length (piece ++ more)) (omega arith) in
      let place : at + 0 ≡ at = omega arith in
      rw (long, place) refl,
  refl,
)

-- a counted body
pub counted_more : (n : ℕ) (xs more : List ℕ) (ended : Bool) → length xs ≤ n → counted_body n ended (xs ++ more) ≡ after_body xs (counted_body (n - length xs) ended more)
counted_more n xs more ended h =
    let m = n - length xs in
    let n_is : n ≡ length xs + m = omega arith in
    let body_is : take n (xs ++ more) ≡ xs ++ take m more = ap (λ j. take j (xs ++ more)) n_is ∙ take-append-add xs more m in
    let test : nat_le n (length (xs ++ more)) ≡ nat_le m (length more) =
    rw length-append (same_le n (length xs + length more) m (length more) (λ p. omega arith) (λ p. omega arith)) in
    rw (body_is, test) refl

-- the same as a step; the count may be all that is left
counted_front : (n count : ℕ) (piece : List ℕ) → count ≤ n → count ≤ length piece → (ended : Bool) (more : List ℕ)
    → counted_body n ended (piece ++ more) ≡ after_body (take count piece) (counted_body (n - count) ended (drop count piece ++ more))
counted_front n count piece h k ended more =
    let size = length-take-le count piece k in
    ap (counted_body n ended) (in_parts count piece more) ∙ counted_more n (take count piece) (drop count piece ++ more) ended (omega arith)
    ∙ ap (λ c. after_body (take count piece) (counted_body (n - c) ended (drop count piece ++ more))) size

pub counted_tells : (n at : ℕ) (piece held : List ℕ) (told : Option AnswerHead) (location : Option (List ℕ)) → 0 < length piece → length piece < n
    → Tells (steps.Body 0 (length piece)) (length piece) piece told location (staged (CountedBody n) held at) (staged (CountedBody (n - length piece)) held (at + length piece))
counted_tells n at piece held told location some h = record {
  some = some;
  inside = omega arith;
  reads = λ ended more. rw (first_whole (length piece) piece) (counted_front n (length piece) piece (omega arith) (omega arith) ended more);
}

pub counted_ends : (n at : ℕ) (piece held : List ℕ) (due : Option ℕ) (told : Option AnswerHead) (location : Option (List ℕ)) → 0 < n → n ≤ length piece
    → Tells (steps.Body 0 n) n piece told location (staged (CountedBody n) held at) (staged (Ended ends.Whole due) held (at + n))
counted_ends n at piece held due told location some h = record {
  some = some;
  inside = omega arith;
  reads = λ ended more.
      let none : n - n ≡ 0 = omega arith in
      rw (first_whole n piece) (counted_front n n piece (omega arith) h ended more ∙ ap (λ k. after_body (take n piece) (counted_body k ended (drop n piece ++ more))) none ∙ ap (after_body (take n piece)) (no_more ended (drop n piece ++ more)));
}
  where
    no_more : (ended : Bool) (text : List ℕ) → counted_body 0 ended text ≡ nothing Whole
    no_more ended [] = refl
    no_more ended (b ∷ text) = let t : nat_le 0 (suc (length text)) ≡ true = le-leb 0 (suc (length text)) (omega arith) in rw t refl
