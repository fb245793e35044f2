-- How a size line reads that comes in two parts.
use Rattle.std.proofs.Common.{◌≡◌, ◌≢◌, ◌==◌, ℕ, zero, suc, ◌+◌, ◌-◌, ◌<◌, ◌≤◌, ◌⊎◌, inl, inr, Bool, true, false, List, [], ◌∷◌, ◌++◌, length, take, drop, Option, Some, None, cond, refl, ap, sym, ◌∙◌, subst, arith, nat_le, nat_lt, append_assoc, append-nil, option_map, min, slice_range}
use Rattle.std.proofs.lemmas.List.{take-append-drop, length-take-le, take-append-le, drop-append-le, length-append, length-drop, length-take, take_all, take-take}
use Rattle.std.proofs.lemmas.Bool.Decides.{leb_tells, eqb_tells}
use Rattle.std.proofs.Math.Seq.{take-append-add, drop-append-add}
use Rattle.std.proofs.Math.ListN.{drop_of_length-le}
use Rattle.std.proofs.lemmas.Bool.{le-leb}
use borrow.Author.Tests.{lt-leb}
use Rattle.std.specs.List.{position, position_from}
use Rattle.std.proofs.lemmas.Iterator.Adapters.{position_from-zero}
use Rattle.acng_base.specs.Cuts.{is_lf}
use Rattle.acng_base.specs.SizeLines.{first_line_len, size_of}
use Rattle.acng_base.specs.Answers.{Outcome, Whole, Early, Open, Bad, Reading, nothing, chunks, from_chunk, on_size, last_chunk}
use Rattle.acng_answer.specs.declared.stage.End.TheVariants as ends
use Rattle.acng_answer.specs.declared.stage.Stage.{Stage}
use Rattle.acng_answer.specs.declared.stage.Stage.TheVariants.{Heads, CountedBody, OpenBody, SizeLine, Chunk, ChunkLf, Trailer, Ended}
use Rattle.acng_answer.specs.declared.step.AnswerHead.{AnswerHead}
use Rattle.acng_answer.specs.declared.step.Step.{Step}
use Rattle.acng_answer.specs.declared.step.Step.TheVariants as steps
use Rattle.acng_answer.specs.Stages.{staged, in_chunk}
use Rattle.acng_answer.specs.Sizes.{IsSized, after_size}
use Rattle.acng_answer.specs.Reader.{Tells}
use Rattle.acng_answer.proofs.Texts.{take_over}
use Rattle.acng_answer.proofs.ChunkLemmas.{bytes_same, chunks_fuel}

pub line_append : (xs ys : List ℕ) → first_line_len xs ≡ None → first_line_len (xs ++ ys) ≡ option_map (λ k. length xs + k) (first_line_len ys)
line_append [] ys h = same (first_line_len ys)
  where
    same : (o : Option ℕ) → o ≡ option_map (λ k. 0 + k) o
    same None = refl
    same (Some k) = let e : k ≡ 0 + k = omega arith in ap Some e
line_append (b ∷ xs) ys h = cases (b == 10) (first_line_len xs) refl h (λ e. line_append xs ys e)
  where
    twice : (o : Option ℕ) → option_map (λ k. 1 + k) (option_map (λ k. length xs + k) o) ≡ option_map (λ k. suc (length xs) + k) o
    twice None = refl
    twice (Some k) = let e : 1 + (length xs + k) ≡ suc (length xs) + k = omega arith in ap Some e

    cases : (t : Bool) (o : Option ℕ) → first_line_len xs ≡ o → cond t (Some 1) (option_map (λ k. 1 + k) o) ≡ None → (first_line_len xs ≡ None → first_line_len (xs ++ ys) ≡ option_map (λ k. length xs + k) (first_line_len ys))
        → cond t (Some 1) (option_map (λ k. 1 + k) (first_line_len (xs ++ ys))) ≡ option_map (λ k. suc (length xs) + k) (first_line_len ys)
    cases true o e h again = cc
    cases false None e h again = ap (option_map (λ k. 1 + k)) (again e) ∙ twice (first_line_len ys)
    cases false (Some k) e h again = cc

pub line_stays : (xs ys : List ℕ) (n : ℕ) → first_line_len xs ≡ Some n → (first_line_len (xs ++ ys) ≡ Some n) × (0 < n) × (n ≤ length xs)
line_stays [] ys n h = cc
line_stays (b ∷ xs) ys n h = cases (b == 10) (first_line_len xs) refl h (λ k e. line_stays xs ys k e)
  where
    cases : (t : Bool) (o : Option ℕ) → first_line_len xs ≡ o → cond t (Some 1) (option_map (λ k. 1 + k) o) ≡ Some n
        → ((k : ℕ) → first_line_len xs ≡ Some k → (first_line_len (xs ++ ys) ≡ Some k) × (0 < k) × (k ≤ length xs))
        → (cond t (Some 1) (option_map (λ k. 1 + k) (first_line_len (xs ++ ys))) ≡ Some n) × (0 < n) × (n ≤ suc (length xs))
    cases true o e h again = let at : 1 ≡ n = cc in (h, omega arith, omega arith)
    cases false None e h again = cc
    cases false (Some k) e h again = let r = again k e in let at : 1 + k ≡ n = cc in (ap (option_map (λ k. 1 + k)) r.0 ∙ h, omega arith, omega arith)

module _ (p : Option ℕ) (start : ℕ) (held piece : List ℕ) (unbroken : first_line_len held ≡ None) (fits : length held < 1024) where
  line_room : (text : List ℕ) → take 1024 (held ++ text) ≡ held ++ take (1024 - length held) text
  line_room text = take_over 1024 held text ∙ ap (λ t. t ++ take (1024 - length held) text) (take_all 1024 held (omega arith))

  module _ (n : ℕ) (e : first_line_len (take (1024 - length held) piece) ≡ Some n) where
    line_ends : (more : List ℕ) → first_line_len (take 1024 (held ++ (piece ++ more))) ≡ Some (length held + n)
    line_ends more =
        let room = 1024 - length held in
        ap first_line_len (line_room (piece ++ more))
        ∙ line_append held (take room (piece ++ more)) unbroken
        ∙ ap (λ t. option_map (λ k. length held + k) (first_line_len t)) (take_over room piece more)
        ∙ ap (option_map (λ k. length held + k)) (line_stays (take room piece) (take (room - length piece) more) n e).0

    in_piece : n ≤ length piece
    in_piece = let s = line_stays (take (1024 - length held) piece) [] n e in let size = length-take (1024 - length held) piece in omega arith

    -- the reading, once the line is whole
    pub line_whole : (ended : Bool) (more : List ℕ) → from_chunk p start ended (held ++ (piece ++ more))
        ≡ on_size (λ p a rest. chunks (length (held ++ (piece ++ more))) p a ended rest) p (start + (length held + n)) start ended (drop n piece ++ more) (size_of (held ++ take n piece))
    line_whole ended more =
        let block : take (length held + n) (held ++ (piece ++ more)) ≡ held ++ take n piece =
        take-append-add held (piece ++ more) n ∙ ap (λ t. held ++ t) (take-append-le n piece more in_piece) in
        let after : drop (length held + n) (held ++ (piece ++ more)) ≡ drop n piece ++ more =
        drop-append-add held (piece ++ more) n ∙ drop-append-le n piece more in_piece in
        rw (line_ends more, block, after) refl

    pub line_bad : size_of (held ++ take n piece) ≡ None → (ended : Bool) (more : List ℕ) → from_chunk p start ended (held ++ (piece ++ more)) ≡ nothing (Bad start)
    line_bad none ended more = line_whole ended more ∙ rw none refl

    pub line_last : size_of (held ++ take n piece) ≡ Some 0 → (ended : Bool) (more : List ℕ)
        → from_chunk p start ended (held ++ (piece ++ more)) ≡ last_chunk p (start + (length held + n)) start ended (drop n piece ++ more)
    line_last none ended more = line_whole ended more ∙ rw none refl

    pub line_size : (m : ℕ) → size_of (held ++ take n piece) ≡ Some (suc m) → (ended : Bool) (more : List ℕ)
        → from_chunk p start ended (held ++ (piece ++ more)) ≡ in_chunk (suc m) p (start + (length held + n)) ended (drop n piece ++ more)
    line_size m some ended more =
        let text = held ++ (piece ++ more) in
        let size = length-append held (piece ++ more) in
        let size2 = length-append piece more in
        let size3 = length-append (drop n piece) more in
        let size4 = length-drop n piece in
        let len = in_piece in
        let s = line_stays (take (1024 - length held) piece) [] n e in
        line_whole ended more ∙ rw some
        (bytes_same (λ p a rest. chunks (length text) p a ended rest) (λ p a rest. from_chunk p a ended rest) (length (drop n piece ++ more))
        (λ p a rest le. chunks_fuel (length text) (suc (length rest)) p a ended rest (omega arith) (omega arith))
        (suc m) p (start + (length held + n)) ended (drop n piece ++ more) (omega arith))

  -- 1,024 bytes, and no end
  pub line_full : first_line_len (take (1024 - length held) piece) ≡ None → 1024 - length held ≤ length piece
      → (ended : Bool) (more : List ℕ) → from_chunk p start ended (held ++ (piece ++ more)) ≡ nothing (Bad start)
  line_full e le ended more =
      let room = 1024 - length held in
      let none : first_line_len (take 1024 (held ++ (piece ++ more))) ≡ None =
      ap first_line_len (line_room (piece ++ more) ∙ ap (λ t. held ++ t) (take-append-le room piece more le))
      ∙ line_append held (take room piece) unbroken ∙ ap (option_map (λ k. length held + k)) e in
      let long : nat_le 1024 (length (held ++ (piece ++ more))) ≡ true = rw (length-append, length-append) (le-leb _ _ (omega arith)) in
      rw (none, long) refl

module _ (p : Option ℕ) (start : ℕ) (held piece : List ℕ) (unbroken : first_line_len held ≡ None) (fits : length held < 1024) (n : ℕ) (e : first_line_len (take (1024 - length held) piece) ≡ Some n) where
  reads_size : (o : Option ℕ) → size_of (held ++ take n piece) ≡ o → (ended : Bool) (more : List ℕ)
      → from_chunk p start ended (held ++ (piece ++ more)) ≡ after_size p start (start + (length held + n)) o ended (drop n piece ++ more)
  reads_size None is ended more = line_bad p start held piece unbroken fits n e is ended more
  reads_size (Some zero) is ended more = line_last p start held piece unbroken fits n e is ended more
  reads_size (Some (suc m)) is ended more = line_size p start held piece unbroken fits n e m is ended more

  pub sized_tells : (step : Step) (stage : Stage) (next at : ℕ) (told : Option AnswerHead) (location : Option (List ℕ)) (after : List ℕ) → next ≡ start + (length held + n) → after ≡ [] → IsSized p start next (size_of (held ++ take n piece)) step stage
      → Tells step n piece told location (staged (SizeLine p start) held at) (staged stage after next)
  sized_tells step stage next at told location after is empty s = rw empty (cases step stage s)
    where
      law : (step : Step) (stage : Stage) → IsSized p start next (size_of (held ++ take n piece)) step stage → (ended : Bool) (more : List ℕ) → from_chunk p start ended (held ++ (piece ++ more)) ≡ staged stage [] next ended (drop n piece ++ more)
      law step stage s ended more = reads_size (size_of (held ++ take n piece)) refl ended more
          ∙ ap (λ k. after_size p start k (size_of (held ++ take n piece)) ended (drop n piece ++ more)) (sym is) ∙ s.reads ended (drop n piece ++ more)

      cases : (step : Step) (stage : Stage) → IsSized p start next (size_of (held ++ take n piece)) step stage → Tells step n piece told location (staged (SizeLine p start) held at) (staged stage [] next)
      cases steps.More stage s = law steps.More stage s
      cases (steps.Bad k) stage s = λ ended more. (
        law (steps.Bad k) stage s ended more ∙ ap (λ t. staged t [] next ended (drop n piece ++ more)) s.kind.1 ∙ ap (λ j. nothing (Bad j)) (sym s.kind.0),
        ap (λ t. staged t [] next ended more) s.kind.1 ∙ ap (λ j. nothing (Bad j)) (sym s.kind.0),
      )
      cases steps.Head stage s = absurd s.kind
      cases (steps.Body a b) stage s = absurd s.kind
      cases steps.Whole stage s = absurd s.kind
      cases steps.Early stage s = absurd s.kind

pub same_line : (room n : ℕ) (held piece part : List ℕ) → part ≡ take room piece → n ≤ length part → held ++ take n part ≡ held ++ take n piece
same_line room n held piece part front le =
    let size = length-take room piece in
    let size2 = ap length front in
    ap (λ t. held ++ take n t) front ∙ ap (λ t. held ++ t) (take-take n room piece (omega arith))

-- ---- the first line feed

found_from : (text : List ℕ) (i : ℕ) → option_map (λ k. k + 1) (position_from is_lf i text) ≡ option_map (λ k. i + k) (first_line_len text)
found_from [] i = refl
found_from (b ∷ text) i = cases (b == 10) (found_from text (i + 1))
  where
    shift : (o : Option ℕ) → option_map (λ k. (i + 1) + k) o ≡ option_map (λ k. i + k) (option_map (λ k. 1 + k) o)
    shift None = refl
    shift (Some k) = let e : (i + 1) + k ≡ i + (1 + k) = omega arith in ap Some e

    cases : (t : Bool) → option_map (λ k. k + 1) (position_from is_lf (i + 1) text) ≡ option_map (λ k. (i + 1) + k) (first_line_len text)
        → option_map (λ k. k + 1) (cond t (Some i) (position_from is_lf (i + 1) text)) ≡ option_map (λ k. i + k) (cond t (Some 1) (option_map (λ k. 1 + k) (first_line_len text)))
    cases true again = refl
    cases false again = again ∙ shift (first_line_len text)

pub line_at : (text : List ℕ) → option_map (λ k. k + 1) (position is_lf text) ≡ first_line_len text
line_at text = ap (option_map (λ k. k + 1)) (position_from-zero is_lf text) ∙ found_from text 0 ∙ same (first_line_len text)
  where
    same : (o : Option ℕ) → option_map (λ k. 0 + k) o ≡ o
    same None = refl
    same (Some k) = let e : 0 + k ≡ k = omega arith in ap Some e
