-- How the lines after the last chunk read that come in two parts.
use Rattle.std.proofs.Common.{◌≡◌, ◌≢◌, ◌==◌, ℕ, zero, suc, ◌+◌, ◌-◌, ◌<◌, ◌≤◌, ◌⊎◌, inl, inr, Bool, true, false, List, [], ◌∷◌, ◌++◌, length, take, drop, Option, Some, None, cond, refl, ap, sym, ◌∙◌, subst, arith, nat_le, nat_lt, append_assoc, append-nil, option_map, min, slice_range}
use Rattle.std.proofs.lemmas.List.{take-append-drop, length-take-le, take-append-le, drop-append-le, length-append, length-drop, length-take, take_all, take-take}
use Rattle.std.proofs.lemmas.Bool.Decides.{leb_tells, eqb_tells}
use Rattle.std.proofs.Math.Seq.{take-append-add, drop-append-add}
use Rattle.std.proofs.Math.ListN.{drop_of_length-le}
use Rattle.std.proofs.lemmas.Bool.{le-leb}
use borrow.Author.Tests.{lt-leb}
use Rattle.acng_base.specs.declared.block.LineState.{LineState}
use Rattle.acng_base.specs.declared.block.LineState.TheVariants.{Between}
use Rattle.acng_base.specs.Lines.{block_len, section_len, state_after}
use Rattle.acng_base.specs.Answers.{Outcome, Whole, Early, Open, Bad, Reading, nothing, wants_more, on_trailer, trailer, unended, is_due}
use Rattle.acng_base.proofs.Scans.{goes_on, block_stays, block_append}
use Rattle.acng_base.proofs.BlockLines.{inside_and_between}
use Rattle.acng_answer.specs.declared.stage.End.TheVariants as ends
use Rattle.acng_answer.specs.declared.stage.Stage.{Stage}
use Rattle.acng_answer.specs.declared.stage.Stage.TheVariants.{Heads, CountedBody, OpenBody, SizeLine, Chunk, ChunkLf, Trailer, Ended}
use Rattle.acng_answer.specs.declared.step.AnswerHead.{AnswerHead}
use Rattle.acng_answer.specs.declared.step.Step.{Step}
use Rattle.acng_answer.specs.declared.step.Step.TheVariants as steps
use Rattle.acng_answer.specs.Stages.{staged, in_trailer, IsDone}
use Rattle.acng_answer.specs.Sizes.{IsSized}
use Rattle.acng_answer.specs.Reader.{Tells}
use Rattle.acng_answer.proofs.Texts.{same_le, take_over}

-- the first byte after the chunk of size 0
pub trailer_begins : (part : Option ℕ) (next : ℕ) (ended : Bool) (text : List ℕ) → trailer next ended text ≡ staged (Trailer part Between next) [] next ended text
trailer_begins part next ended text =
    let none : 16384 - (next - next) ≡ 16384 = omega arith in
    rw none (ap (on_trailer 16384 next ended text) (sym ((inside_and_between (take 16384 text)).1)))

module _ (m : LineState) (room start : ℕ) (ended : Bool) (piece more : List ℕ) where
  -- the lines end in the piece
  pub lines_end : (n : ℕ) → block_len m (take room piece) ≡ Some n → in_trailer m room start ended (piece ++ more) ≡ nothing Whole
  lines_end n e =
      let is : block_len m (take room (piece ++ more)) ≡ Some n =
      ap (block_len m) (take_over room piece more) ∙ (block_stays m (take room piece) (take (room - length piece) more) n e).0 in
      rw is refl

  -- they go on past it
  pub lines_go_on : (n : LineState) → state_after m piece ≡ Some n → length piece < room → in_trailer m room start ended (piece ++ more) ≡ in_trailer n (room - length piece) start ended more
  lines_go_on n e short =
      let all : take room piece ≡ piece = take_all room piece (omega arith) in
      let is : block_len m (take room (piece ++ more)) ≡ option_map (λ k. length piece + k) (block_len n (take (room - length piece) more)) =
      ap (block_len m) (take_over room piece more ∙ ap (λ t. t ++ take (room - length piece) more) all) ∙ block_append m n piece (take (room - length piece) more) e in
      rw is (cases (block_len n (take (room - length piece) more)))
    where
      same : nat_le room (length (piece ++ more)) ≡ nat_le (room - length piece) (length more)
      same = rw length-append (same_le room (length piece + length more) (room - length piece) (length more) (λ p. omega arith) (λ p. omega arith))

      cases : (o : Option ℕ) → on_trailer room start ended (piece ++ more) (option_map (λ k. length piece + k) o) ≡ on_trailer (room - length piece) start ended more o
      cases None = rw same refl
      cases (Some k) = refl

  -- so many bytes, and no end
  pub lines_full : (n : LineState) → state_after m (take room piece) ≡ Some n → room ≤ length piece → in_trailer m room start ended (piece ++ more) ≡ nothing (Bad start)
  lines_full n e le =
      let is : block_len m (take room (piece ++ more)) ≡ None = ap (block_len m) (take-append-le room piece more le) ∙ goes_on m n (take room piece) e in
      let long : nat_le room (length (piece ++ more)) ≡ true = rw length-append (le-leb room (length piece + length more) (omega arith)) in
      rw (is, long) refl

-- ---- the same as steps; `p` is the front of the piece for which there is room

module _ (part : Option ℕ) (m : LineState) (start at : ℕ) (piece p held : List ℕ) (room : ℕ) (room_is : room ≡ 16384 - (at - start)) (front : p ≡ take room piece) (told : Option AnswerHead) (location : Option (List ℕ)) where
  pub end_tells : (n : ℕ) (due : Option ℕ) → block_len m p ≡ Some n → Tells steps.Whole n piece told location (staged (Trailer part m start) held at) (staged (Ended ends.Whole due) held (at + n))
  end_tells n due e = λ ended more. (
    ap (λ k. in_trailer m k start ended (piece ++ more)) (sym room_is) ∙ lines_end m room start ended piece more n (ap (block_len m) (sym front) ∙ e),
    refl,
  )

  pub bad_tells : (n : LineState) (used : ℕ) → state_after m p ≡ Some n → length p ≡ room → Tells (steps.Bad start) used piece told location (staged (Trailer part m start) held at) (staged (Ended (ends.Bad start) None) held (at + used))
  bad_tells n used e full = λ ended more. (
    let size = length-take room piece in let size2 = ap length front in
        ap (λ k. in_trailer m k start ended (piece ++ more)) (sym room_is) ∙ lines_full m room start ended piece more n (ap (state_after m) (sym front) ∙ e) (omega arith),
    refl,
  )

  pub more_tells : (n : LineState) (used : ℕ) → state_after m p ≡ Some n → used ≡ length p → length p < room → start ≤ at → Tells steps.More used piece told location (staged (Trailer part m start) held at) (staged (Trailer part n start) held (at + used))
  more_tells n used e is short below = λ ended more.
      let size = length-take room piece in
      let size2 = ap length front in
      let all : p ≡ piece = front ∙ take_all room piece (omega arith) in
      let none : drop used piece ++ more ≡ more = ap (λ t. t ++ more) (drop_of_length-le piece (omega (arith, ap length all))) in
      let left : room - length piece ≡ 16384 - ((at + used) - start) = omega (arith, ap length all) in
      ap (λ k. in_trailer m k start ended (piece ++ more)) (sym room_is)
      ∙ lines_go_on m room start ended piece more n (ap (state_after m) (sym all) ∙ e) (omega (arith, ap length all))
      ∙ ap (λ k. in_trailer n k start ended more) left ∙ ap (in_trailer n (16384 - ((at + used) - start)) start ended) (sym none)

-- ---- after the size line of the last chunk

done : (part : Option ℕ) → is_due part ≡ false → IsDone part
done None e = tt
done (Some m) e = cases (leb_tells 1 m)
  where
    cases : ((nat_lt 0 m ≡ true) × (1 ≤ m)) ⊎ ((nat_lt 0 m ≡ false) × (m < 1)) → m ≡ 0
    cases (inl t) = absurd (cc)
    cases (inr t) = omega (arith, t.1)

pub last_bad : (part : Option ℕ) (start next : ℕ) → is_due part ≡ true → IsSized part start next (Some 0) (steps.Bad start) (Ended (ends.Bad start) None)
last_bad part start next e = record {
  kind = (refl, refl);
  fits = tt;
  reads = λ ended text. rw e refl;
}

pub last_more : (part : Option ℕ) (start next : ℕ) → is_due part ≡ false → IsSized part start next (Some 0) steps.More (Trailer part Between next)
last_more part start next e = record {
  kind = tt;
  fits = (omega arith, omega arith, done part e);
  reads = λ ended text. rw e (trailer_begins part next ended text);
}

-- a front that isn't shorter than its room has just so many bytes
pub full_front : (piece p : List ℕ) (room : ℕ) → p ≡ take room piece → room ≤ length p → length p ≡ room
full_front piece p room front le = let size = ap length front ∙ length-take room piece in omega arith
