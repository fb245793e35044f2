-- How a head reads that comes in two parts.
use Rattle.std.proofs.Common.{◌≡◌, ◌≢◌, ◌==◌, ℕ, zero, suc, ◌+◌, ◌-◌, ◌<◌, ◌≤◌, ◌⊎◌, inl, inr, Bool, true, false, List, [], ◌∷◌, ◌++◌, length, take, drop, Option, Some, None, cond, refl, ap, sym, ◌∙◌, subst, arith, nat_le, nat_lt, append_assoc, append-nil, option_map, min, slice_range}
use Rattle.std.proofs.lemmas.List.{take-append-drop, length-take-le, take-append-le, drop-append-le, length-append, length-drop, length-take, take_all, take-take}
use Rattle.std.proofs.lemmas.Bool.Decides.{leb_tells, eqb_tells}
use Rattle.std.proofs.Math.Seq.{take-append-add, drop-append-add}
use Rattle.std.proofs.Math.ListN.{drop_of_length-le}
use Rattle.std.proofs.lemmas.Bool.{le-leb}
use borrow.Author.Tests.{lt-leb}
use Rattle.acng_base.specs.declared.block.LineState.{LineState}
use Rattle.acng_base.specs.declared.block.LineState.TheVariants.{Before}
use Rattle.acng_base.specs.Lines.{block_len, head_block_len, state_after}
use Rattle.acng_base.specs.Heads.{Head, head_of}
use Rattle.acng_base.specs.Framings.{Framing, Empty, Counted, ToEnd, Chunks, framing, part_len, due_of}
use Rattle.acng_base.specs.Answers.{Outcome, Whole, Early, Open, Bad, Reading, nothing, after_head, after_interim, wants_more, heads, from_head, on_block, on_head, on_kind, is_interim, body}
use Rattle.acng_base.proofs.Scans.{goes_on, block_stays, block_append, state_append}
use Rattle.acng_base.proofs.BlockLines.{before}
use Rattle.acng_answer.specs.declared.framing.Framed.{Framed}
use Rattle.acng_answer.specs.declared.framing.Framed.TheVariants as framed
use Rattle.acng_answer.specs.declared.head.Judged.TheVariants as judged
use Rattle.acng_answer.specs.declared.stage.End.TheVariants as ends
use Rattle.acng_answer.specs.declared.stage.Stage.{Stage}
use Rattle.acng_answer.specs.declared.stage.Stage.TheVariants.{Heads, CountedBody, OpenBody, SizeLine, Chunk, ChunkLf, Trailer, Ended}
use Rattle.acng_answer.specs.declared.step.AnswerHead.{AnswerHead}
use Rattle.acng_answer.specs.declared.step.Step.{Step}
use Rattle.acng_answer.specs.declared.step.Step.TheVariants as steps
use Rattle.acng_answer.specs.Blocks.{IsBounded, IsFramedAs, IsJudged}
use Rattle.acng_answer.specs.Stages.{staged, without_interim}
use Rattle.acng_answer.specs.Reader.{Tells, due_told}
use Rattle.acng_answer.proofs.Texts.{take_over}

-- two readings of what follows a block that agree on each shorter text
pub on_block_same : (f g : ℕ → List ℕ → Reading) (at : ℕ) (ended : Bool) (text : List ℕ) (o : Option ℕ)
    → ((n : ℕ) → o ≡ Some n → (a : ℕ) → f a (drop n text) ≡ g a (drop n text))
    → on_block f at ended text o ≡ on_block g at ended text o
on_block_same f g at ended text None e = refl
on_block_same f g at ended text (Some n) e = by_head (head_of (take n text))
  where
    by_kind : (h : Head) (b : Bool) → on_kind f h at n ended text b ≡ on_kind g h at n ended text b
    by_kind h true = ap (after_interim h) (e n refl (at + n))
    by_kind h false = refl

    by_head : (o : Option Head) → on_head f at n ended text o ≡ on_head g at n ended text o
    by_head None = refl
    by_head (Some h) = by_kind h (is_interim h)

pub heads_fuel : (f g at : ℕ) (ended : Bool) (text : List ℕ) → length text < f → length text < g → heads f at ended text ≡ heads g at ended text
heads_fuel zero g at ended text p q = absurd (omega arith)
heads_fuel (suc f) zero at ended text p q = absurd (omega arith)
heads_fuel (suc f) (suc g) at ended text p q =
    on_block_same (λ a rest. heads f a ended rest) (λ a rest. heads g a ended rest) at ended text (head_block_len (take 16384 text))
    (λ n e a. let s = block_stays Before (take 16384 text) [] n (before (take 16384 text) ∙ e) in
    let len = length-drop n text in let len2 = length-take 16384 text in
    heads_fuel f g a ended (drop n text) (omega arith) (omega arith))

-- what was held of a head, and the bytes that follow, up to the limit of a head
pub head_room : (h text : List ℕ) → length h ≤ 16384 → take 16384 (h ++ text) ≡ h ++ take (16384 - length h) text
head_room h text le = take_over 16384 h text ∙ ap (λ t. t ++ take (16384 - length h) text) (take_all 16384 h le)

module _ (start : ℕ) (m : LineState) (h piece : List ℕ) (marked : state_after Before h ≡ Some m) (fits : length h < 16384) where
  -- the block ends in the piece
  head_ends : (n : ℕ) → block_len m (take (16384 - length h) piece) ≡ Some n → (more : List ℕ)
      → head_block_len (take 16384 (h ++ (piece ++ more))) ≡ Some (length h + n)
  head_ends n e more =
      let room = 16384 - length h in
      let over = take_over room piece more in
      let stays = block_stays m (take room piece) (take (room - length piece) more) n e in
      sym (before (take 16384 (h ++ (piece ++ more))))
      ∙ ap (block_len Before) (head_room h (piece ++ more) (omega arith))
      ∙ block_append Before m h (take room (piece ++ more)) marked
      ∙ ap (λ t. option_map (λ k. length h + k) (block_len m t)) over
      ∙ ap (option_map (λ k. length h + k)) stays.0

  -- the block, and what follows it
  head_parts : (n : ℕ) → n ≤ length piece → (more : List ℕ)
      → (take (length h + n) (h ++ (piece ++ more)) ≡ h ++ take n piece) × (drop (length h + n) (h ++ (piece ++ more)) ≡ drop n piece ++ more)
  head_parts n le more = (
    take-append-add h (piece ++ more) n ∙ ap (λ t. h ++ t) (take-append-le n piece more le),
    drop-append-add h (piece ++ more) n ∙ drop-append-le n piece more le,
  )

  -- the reading, once the block is whole
  head_whole : (n : ℕ) → block_len m (take (16384 - length h) piece) ≡ Some n → (ended : Bool) (more : List ℕ)
      → from_head start ended (h ++ (piece ++ more))
      ≡ on_head (λ a rest. heads (length (h ++ (piece ++ more))) a ended rest) start (length h + n) ended (h ++ (piece ++ more)) (head_of (h ++ take n piece))
  head_whole n e ended more =
      let stays = block_stays m (take (16384 - length h) piece) [] n e in
      let len = length-take (16384 - length h) piece in
      let parts = head_parts n (omega arith) more in
      rw (head_ends n e more, parts.0) refl

  head_refused : (n : ℕ) → block_len m (take (16384 - length h) piece) ≡ Some n → head_of (h ++ take n piece) ≡ None
      → (ended : Bool) (more : List ℕ) → from_head start ended (h ++ (piece ++ more)) ≡ nothing (Bad start)
  head_refused n e none ended more = head_whole n e ended more ∙ rw none refl

  head_misframed : (n : ℕ) (hd : Head) → block_len m (take (16384 - length h) piece) ≡ Some n → head_of (h ++ take n piece) ≡ Some hd
      → is_interim hd ≡ false → framing hd ≡ None
      → (ended : Bool) (more : List ℕ) → from_head start ended (h ++ (piece ++ more)) ≡ nothing (Bad start)
  head_misframed n hd e some kind frame ended more = head_whole n e ended more ∙ rw (some, kind, frame) refl

  head_final : (n : ℕ) (hd : Head) (f : Framing) → block_len m (take (16384 - length h) piece) ≡ Some n → head_of (h ++ take n piece) ≡ Some hd
      → is_interim hd ≡ false → framing hd ≡ Some f
      → (ended : Bool) (more : List ℕ) → from_head start ended (h ++ (piece ++ more))
      ≡ after_head hd (body f (part_len hd) (start + (length h + n)) ended (drop n piece ++ more))
  head_final n hd f e some kind frame ended more =
      let stays = block_stays m (take (16384 - length h) piece) [] n e in
      let len = length-take (16384 - length h) piece in
      let parts = head_parts n (omega arith) more in
      head_whole n e ended more ∙ rw (some, kind, frame, parts.1) refl

  head_interim : (n : ℕ) (hd : Head) → block_len m (take (16384 - length h) piece) ≡ Some n → head_of (h ++ take n piece) ≡ Some hd
      → is_interim hd ≡ true
      → (ended : Bool) (more : List ℕ) → from_head start ended (h ++ (piece ++ more))
      ≡ after_interim hd (from_head (start + (length h + n)) ended (drop n piece ++ more))
  head_interim n hd e some kind ended more =
      let stays = block_stays m (take (16384 - length h) piece) [] n e in
      let len = length-take (16384 - length h) piece in
      let parts = head_parts n (omega arith) more in
      let text = h ++ (piece ++ more) in
      let size = length-append h (piece ++ more) in
      let size2 = length-append piece more in
      let size3 = length-append (drop n piece) more in
      let size4 = length-drop n piece in
      head_whole n e ended more ∙ rw (some, kind, parts.1)
      (ap (after_interim hd) (heads_fuel (length text) (suc (length (drop n piece ++ more))) (start + (length h + n)) ended (drop n piece ++ more) (omega arith) (omega arith)))

  -- 16,384 bytes, and no end
  head_full : (n : LineState) → state_after m (take (16384 - length h) piece) ≡ Some n → 16384 - length h ≤ length piece
      → (ended : Bool) (more : List ℕ) → from_head start ended (h ++ (piece ++ more)) ≡ nothing (Bad start)
  head_full n e le ended more =
      let room = 16384 - length h in
      let none : head_block_len (take 16384 (h ++ (piece ++ more))) ≡ None =
      sym (before (take 16384 (h ++ (piece ++ more)))) ∙ ap (block_len Before) (head_room h (piece ++ more) (omega arith) ∙ ap (λ t. h ++ t) (take-append-le room piece more le))
      ∙ goes_on Before n (h ++ take room piece) (state_append Before m h (take room piece) marked ∙ e) in
      let long : nat_le 16384 (length (h ++ (piece ++ more))) ≡ true = rw (length-append, length-append) (le-leb _ _ (omega arith)) in
      rw (none, long) refl

-- ---- the same as steps

framed_some : (hd : Head) (f : Framed) → IsFramedAs hd f → (g : Framing) × (framing hd ≡ Some g)
framed_some hd framed.Empty h = (Empty, h)
framed_some hd (framed.Counted n) h = (Counted n, h)
framed_some hd (framed.ToEnd part) h = (ToEnd, h.0)
framed_some hd (framed.Chunks part) h = (Chunks, h.0)

module _ (start : ℕ) (m : LineState) (h piece p : List ℕ) (marked : state_after Before h ≡ Some m) (fits : length h < 16384) (front : p ≡ take (16384 - length h) piece) where
  module _ (n : ℕ) (e : block_len m p ≡ Some n) (le : n ≤ length p) where
    in_piece : block_len m (take (16384 - length h) piece) ≡ Some n
    in_piece = ap (block_len m) (sym front) ∙ e

    same_block : h ++ take n p ≡ h ++ take n piece
    same_block =
        let len = length-take (16384 - length h) piece in
        let len2 = ap length front in
        ap (λ t. h ++ take n t) front ∙ ap (λ t. h ++ t) (take-take n (16384 - length h) piece (omega arith))

    pub refused_tells : (l : Option (List ℕ)) → IsJudged l judged.Refused (head_of (h ++ take n p)) → (at : ℕ) (told : Option AnswerHead) (location : Option (List ℕ)) (held : List ℕ)
        → Tells (steps.Bad start) n piece told location (staged (Heads m start) h at) (staged (Ended (ends.Bad start) None) held (at + n))
    refused_tells l j at told location held = cases (head_of (h ++ take n p)) (ap head_of (sym same_block)) j
      where
        cases : (o : Option Head) → head_of (h ++ take n piece) ≡ o → IsJudged l judged.Refused o
            → Tells (steps.Bad start) n piece told location (staged (Heads m start) h at) (staged (Ended (ends.Bad start) None) held (at + n))
        cases None is j = λ ended more. (ap without_interim (head_refused start m h piece marked fits n in_piece is ended more), refl)
        cases (Some hd) is j = λ ended more. (ap without_interim (head_misframed start m h piece marked fits n hd in_piece is j.1 j.2 ended more), refl)

    pub interim_tells : (l : Option (List ℕ)) → IsJudged l judged.Interim (head_of (h ++ take n p)) → (at next : ℕ) → next ≡ start + (length h + n) → (held : List ℕ) → held ≡ []
        → (told : Option AnswerHead) (location : Option (List ℕ)) → Tells steps.More n piece told location (staged (Heads m start) h at) (staged (Heads Before next) held (at + n))
    interim_tells l j at next is held empty told location = rw empty (cases (head_of (h ++ take n p)) (ap head_of (sym same_block)) j)
      where
        cases : (o : Option Head) → head_of (h ++ take n piece) ≡ o → IsJudged l judged.Interim o → Tells steps.More n piece told location (staged (Heads m start) h at) (staged (Heads Before next) [] (at + n))
        cases None head j = absurd j
        cases (Some hd) head j = λ ended more. ap without_interim (head_interim start m h piece marked fits n hd in_piece head j.1 ended more) ∙ ap (λ k. without_interim (from_head k ended (drop n piece ++ more))) (sym is)

    pub final_tells : (f : Framed) (stage : Stage) (told : AnswerHead) (location : Option (List ℕ)) → IsJudged location (judged.Final f told) (head_of (h ++ take n p)) → (at next : ℕ) → next ≡ start + (length h + n) → (held : List ℕ) → held ≡ []
        → ((hd : Head) (g : Framing) → IsFramedAs hd f → framing hd ≡ Some g → (ended : Bool) (text : List ℕ) → body g (part_len hd) next ended text ≡ staged stage [] next ended text)
        → Tells steps.Head n piece (Some told) location (staged (Heads m start) h at) (staged stage held next)
    final_tells f stage told location j at next is held empty reads = rw empty (cases (head_of (h ++ take n p)) (ap head_of (sym same_block)) j)
      where
        cases : (o : Option Head) → head_of (h ++ take n piece) ≡ o → IsJudged location (judged.Final f told) o → Tells steps.Head n piece (Some told) location (staged (Heads m start) h at) (staged stage [] next)
        cases None head j = absurd j
        cases (Some hd) head j =
            let g = framed_some hd f j.framed_as in
            record {
              head = hd;
              taken = (j.kind, g.0, g.1);
              told_is = ap Some j.told_is;
              located = j.located;
              reads = λ ended more.
                  ap without_interim (head_final start m h piece marked fits n hd g.0 in_piece head j.kind g.1 ended more)
                  ∙ ap (λ k. without_interim (after_head hd (body g.0 (part_len hd) k ended (drop n piece ++ more)))) (sym is)
                  ∙ ap (λ r. without_interim (after_head hd r)) (reads hd g.0 j.framed_as g.1 ended (drop n piece ++ more));
            }

  pub full_tells : (n : LineState) → state_after m p ≡ Some n → length (h ++ p) ≡ 16384 → (at : ℕ) (held : List ℕ) (used : ℕ) (told : Option AnswerHead) (location : Option (List ℕ))
      → Tells (steps.Bad start) used piece told location (staged (Heads m start) h at) (staged (Ended (ends.Bad start) None) held (at + used))
  full_tells n e full at held used told location =
      let len = length-take (16384 - length h) piece in
      let len2 = ap length front in
      let len3 = length-append h p in
      λ ended more. (ap without_interim (head_full start m h piece marked fits n (ap (state_after m) (sym front) ∙ e) (omega arith) ended more), refl)

-- ---- what is told of a final head

pub final_due : (l : Option (List ℕ)) (f : Framed) (told : AnswerHead) (o : Option Head) → IsJudged l (judged.Final f told) o → (due : Option ℕ) → ((h : Head) → IsFramedAs h f → due ≡ due_of h) → due ≡ due_told told
final_due l f told None j due is = absurd j
final_due l f told (Some h) j due is = is h j.framed_as ∙ sym (ap due_told j.told_is)

pub final_bounds : (l : Option (List ℕ)) (f : Framed) (told : AnswerHead) (o : Option Head) → IsJudged l (judged.Final f told) o → IsBounded told
final_bounds l f told None j = absurd j
final_bounds l f told (Some h) j = j.bounds
