-- How chunks read that come in two parts.
use Rattle.std.proofs.Common.{◌≡◌, ◌≢◌, ◌==◌, ℕ, zero, suc, ◌+◌, ◌-◌, ◌<◌, ◌≤◌, ◌⊎◌, inl, inr, Bool, true, false, List, [], ◌∷◌, ◌++◌, length, take, drop, Option, Some, None, cond, refl, ap, sym, ◌∙◌, subst, arith, nat_le, nat_lt, append_assoc, append-nil, option_map, min, slice_range, get_or}
use Rattle.std.proofs.lemmas.List.{take-append-drop, length-take-le, take-append-le, drop-append-le, length-append, length-drop, length-take, take_all, take-take}
use Rattle.std.proofs.lemmas.Bool.Decides.{leb_tells, eqb_tells}
use Rattle.std.proofs.Math.Seq.{take-append-add, drop-append-add}
use Rattle.std.proofs.Math.ListN.{drop_of_length-le}
use Rattle.std.proofs.lemmas.Bool.{le-leb}
use borrow.Author.Tests.{lt-leb}
use Rattle.acng_base.specs.SizeLines.{first_line_len, size_of}
use Rattle.acng_base.specs.Answers.{Outcome, Whole, Early, Open, Bad, Reading, nothing, just, after_body, wants_more, chunks, from_chunk, on_line, on_size, chunk_bytes, on_room, on_bytes, on_seam, seam, Seam, Joined, Torn, less_than, part_after, overfull}
use Rattle.acng_answer.specs.declared.stage.End.TheVariants as ends
use Rattle.acng_answer.specs.declared.stage.Stage.{Stage}
use Rattle.acng_answer.specs.declared.stage.Stage.TheVariants.{Heads, CountedBody, OpenBody, SizeLine, Chunk, ChunkLf, Trailer, Ended}
use Rattle.acng_answer.specs.declared.step.AnswerHead.{AnswerHead}
use Rattle.acng_answer.specs.declared.step.Step.{Step}
use Rattle.acng_answer.specs.declared.step.Step.TheVariants as steps
use Rattle.acng_answer.specs.Stages.{staged, in_chunk, after_seam}
use Rattle.acng_answer.specs.Reader.{HasRoom, Tells}
use Rattle.acng_answer.proofs.Texts.{same_le, first_whole, in_parts}

-- ---- fuel

seam_rest : (at : ℕ) (ended : Bool) (text rest : List ℕ) → seam at ended text ≡ Joined rest → length rest + 2 ≡ length text
seam_rest at ended [] rest e = cc
seam_rest at ended (b ∷ []) rest e = cc
seam_rest at ended (b ∷ c ∷ text) rest e = cases (b == 13) (c == 10) e
  where
    cases : (x y : Bool) → cond x (cond y (Joined text) (Torn (Bad (at + 1)))) (Torn (Bad at)) ≡ Joined rest → length rest + 2 ≡ suc (suc (length text))
    cases true true e = let same : text ≡ rest = cc in let size = ap length same in omega arith
    cases true false e = cc
    cases false y e = cc

module _ (f g : Option ℕ → ℕ → List ℕ → Reading) (most : ℕ) (agree : (p : Option ℕ) (a : ℕ) (rest : List ℕ) → length rest < most → f p a rest ≡ g p a rest) where
  seam_same : (p : Option ℕ) (at : ℕ) (s : Seam) → ((rest : List ℕ) → s ≡ Joined rest → length rest < most) → on_seam (f p) at s ≡ on_seam (g p) at s
  seam_same p at (Torn o) e = refl
  seam_same p at (Joined rest) e = agree p (at + 2) rest (e rest refl)

  pub bytes_same : (n : ℕ) (p : Option ℕ) (at : ℕ) (ended : Bool) (text : List ℕ) → length text ≤ most → chunk_bytes f n p at ended text ≡ chunk_bytes g n p at ended text
  bytes_same n p at ended text le = room (less_than p n)
    where
      bytes : (b : Bool) → on_bytes f n p at ended text b ≡ on_bytes g n p at ended text b
      bytes true = refl
      bytes false = ap (after_body (take n text)) (seam_same (part_after p n) (at + n) (seam (at + n) ended (drop n text))
          (λ rest e. let two = seam_rest (at + n) ended (drop n text) rest e in let size = length-drop n text in omega arith))

      room : (o : Option ℕ) → on_room f n p at ended text o ≡ on_room g n p at ended text o
      room (Some m) = refl
      room None = bytes (nat_lt (length text) n)

  line_same : (p : Option ℕ) (at : ℕ) (ended : Bool) (text : List ℕ) (o : Option ℕ) → length text ≤ most → on_line f p at ended text o ≡ on_line g p at ended text o
  line_same p at ended text None le = refl
  line_same p at ended text (Some n) le = by_size (size_of (take n text))
    where
      by_size : (o : Option ℕ) → on_size f p (at + n) at ended (drop n text) o ≡ on_size g p (at + n) at ended (drop n text) o
      by_size None = refl
      by_size (Some zero) = refl
      by_size (Some (suc m)) = bytes_same (suc m) p (at + n) ended (drop n text) (let size = length-drop n text in omega arith)

pub chunks_fuel : (f g : ℕ) (p : Option ℕ) (at : ℕ) (ended : Bool) (text : List ℕ) → length text < f → length text < g → chunks f p at ended text ≡ chunks g p at ended text
chunks_fuel zero g p at ended text h k = absurd (omega arith)
chunks_fuel (suc f) zero p at ended text h k = absurd (omega arith)
chunks_fuel (suc f) (suc g) p at ended text h k =
    line_same (λ p a rest. chunks f p a ended rest) (λ p a rest. chunks g p a ended rest) (length text)
    (λ p a rest le. chunks_fuel f g p a ended rest (omega arith) (omega arith)) p at ended text (first_line_len (take 1024 text)) (omega arith)

-- ---- a chunk's bytes in two parts

less_again : (p : Option ℕ) (n k : ℕ) → k ≤ n → HasRoom p k → less_than (part_after p k) (n - k) ≡ option_map (λ m. m - k) (less_than p n)
less_again None n k h i = refl
less_again (Some m) n k h i = rw (same_le (suc (m - k)) (n - k) (suc m) n (λ q. omega arith) (λ q. omega arith)) (either (nat_lt m n))
  where
    either : (b : Bool) → cond b (Some (m - k)) None ≡ option_map (λ m. m - k) (cond b (Some m) None)
    either true = refl
    either false = refl

part_twice : (p : Option ℕ) (n k : ℕ) → k ≤ n → part_after (part_after p k) (n - k) ≡ part_after p n
part_twice None n k h = refl
part_twice (Some m) n k h = let e : (m - k) - (n - k) ≡ m - n = omega arith in ap Some e

overfull_more : (m at : ℕ) (ended : Bool) (xs more : List ℕ) → length xs ≤ m
    → overfull m at ended (xs ++ more) ≡ after_body xs (overfull (m - length xs) (at + length xs) ended more)
overfull_more m at ended xs more h =
    let k = m - length xs in
    let m_is : m ≡ length xs + k = omega arith in
    let place : at + m ≡ (at + length xs) + k = omega arith in
    let body_is : take m (xs ++ more) ≡ xs ++ take k more = ap (λ j. take j (xs ++ more)) m_is ∙ take-append-add xs more k in
    let test : nat_lt m (length (xs ++ more)) ≡ nat_lt k (length more) =
    rw length-append (same_le (suc m) (length xs + length more) (suc k) (length more) (λ p. omega arith) (λ p. omega arith)) in
    rw (body_is, test, place) refl

-- a part that has room for the bytes, and less than the chunk
less_room : (p : Option ℕ) (n m k : ℕ) → less_than p n ≡ Some m → HasRoom p k → k ≤ m
less_room None n m k e h = absurd (cc)
less_room (Some j) n m k e h = cases (nat_lt j n) e
  where
    cases : (b : Bool) → cond b (Some j) None ≡ Some m → k ≤ m
    cases true e = let same : j ≡ m = cc in omega arith
    cases false e = absurd (cc)

-- the whole text is there: the chunk goes on into more
pub in_chunk_more : (n : ℕ) (p : Option ℕ) (at : ℕ) (ended : Bool) (xs more : List ℕ) → length xs ≤ n → HasRoom p (length xs)
    → in_chunk n p at ended (xs ++ more) ≡ after_body xs (in_chunk (n - length xs) (part_after p (length xs)) (at + length xs) ended more)
in_chunk_more n p at ended xs more le has = room (less_than p n) refl
  where
    k : ℕ
    k = n - length xs

    n_is : n ≡ length xs + (n - length xs)
    n_is = omega arith

    body_is : take n (xs ++ more) ≡ xs ++ take (n - length xs) more
    body_is = ap (λ j. take j (xs ++ more)) n_is ∙ take-append-add xs more (n - length xs)

    drop_is : drop n (xs ++ more) ≡ drop (n - length xs) more
    drop_is = ap (λ j. drop j (xs ++ more)) n_is ∙ drop-append-add xs more (n - length xs)

    place : at + n ≡ (at + length xs) + (n - length xs)
    place = omega arith

    test : nat_lt (length (xs ++ more)) n ≡ nat_lt (length more) (n - length xs)
    test = rw length-append (same_le (suc (length xs + length more)) n (suc (length more)) (n - length xs) (λ q. omega arith) (λ q. omega arith))

    next : Option ℕ → ℕ → List ℕ → Reading
    next = λ p a rest. from_chunk p a ended rest

    bytes : (b : Bool) → on_bytes (λ p a rest. from_chunk p a ended rest) n p at ended (xs ++ more) b ≡ after_body xs (on_bytes (λ p a rest. from_chunk p a ended rest) (n - length xs) (part_after p (length xs)) (at + length xs) ended more b)
    bytes true = refl
    bytes false = rw (body_is, drop_is, place, part_twice p n (length xs) le) (regroup (on_seam (λ a rest. from_chunk (part_after p n) a ended rest) ((at + length xs) + (n - length xs)) (seam ((at + length xs) + (n - length xs)) ended (drop (n - length xs) more))))
      where
        regroup : (r : Reading) → after_body (xs ++ take (n - length xs) more) r ≡ after_body xs (after_body (take (n - length xs) more) r)
        regroup r = ap (λ b. let out : Reading = record { interim = r.interim; head = r.head; body = b; outcome = r.outcome } in out) (append_assoc xs (take (n - length xs) more) r.body)

    room : (o : Option ℕ) → less_than p n ≡ o → in_chunk n p at ended (xs ++ more) ≡ after_body xs (in_chunk (n - length xs) (part_after p (length xs)) (at + length xs) ended more)
    room (Some m) e = rw (less_again p n (length xs) le has, e) (overfull_more m at ended xs more (less_room p n m (length xs) e has))
    room None e = rw (less_again p n (length xs) le has, e, test) (bytes (nat_lt (length more) (n - length xs)))

-- ---- the CR LF after a chunk's bytes: nothing of the chunk is left

not_more : (p : Option ℕ) → less_than p 0 ≡ None
not_more None = refl
not_more (Some m) = let t : nat_lt m 0 ≡ false = lt-leb (suc m) 0 (omega arith) in rw t refl

same_part : (p : Option ℕ) → part_after p 0 ≡ p
same_part None = refl
same_part (Some m) = let e : m - 0 ≡ m = omega arith in ap Some e

pub chunk_done : (p : Option ℕ) (at : ℕ) (ended : Bool) (text : List ℕ) → in_chunk 0 p at ended text ≡ after_seam p at ended text
chunk_done p at ended text =
    let test : nat_lt (length text) 0 ≡ false = lt-leb (suc (length text)) 0 (omega arith) in
    let place : at + 0 ≡ at = omega arith in
    rw (not_more p, test, same_part p, place) refl

pub seam_torn : (p : Option ℕ) (at : ℕ) (ended : Bool) (b : ℕ) (more : List ℕ) → (b == 13) ≡ false → after_seam p at ended (b ∷ more) ≡ nothing (Bad at)
seam_torn p at ended b [] h = rw h refl
seam_torn p at ended b (c ∷ more) h = rw h refl

pub seam_torn_late : (p : Option ℕ) (at : ℕ) (ended : Bool) (c : ℕ) (more : List ℕ) → (c == 10) ≡ false → after_seam p at ended (13 ∷ c ∷ more) ≡ nothing (Bad (at + 1))
seam_torn_late p at ended c more h = rw h refl

pub seam_joined : (p : Option ℕ) (at : ℕ) (ended : Bool) (more : List ℕ) → after_seam p at ended (13 ∷ 10 ∷ more) ≡ from_chunk p (at + 2) ended more
seam_joined p at ended more = refl

-- ---- the same as steps

pub chunk_tells : (n : ℕ) (p : Option ℕ) (at count : ℕ) (piece held : List ℕ) (told : Option AnswerHead) (location : Option (List ℕ)) → 0 < count → count ≤ n → HasRoom p count → count ≤ length piece
    → Tells (steps.Body 0 count) count piece told location (staged (Chunk p n) held at) (staged (Chunk (part_after p count) (n - count)) held (at + count))
chunk_tells n p at count piece held told location some h has k = record {
  some = some;
  inside = omega arith;
  reads = λ ended more.
      let size = length-take-le count piece k in
      rw (first_whole count piece) (ap (in_chunk n p at ended) (in_parts count piece more)
      ∙ in_chunk_more n p at ended (take count piece) (drop count piece ++ more) (omega arith) (subst (HasRoom p) (sym size) has)
      ∙ ap (λ c. after_body (take count piece) (in_chunk (n - c) (part_after p c) (at + c) ended (drop count piece ++ more))) size);
}

full_part : (n at : ℕ) (ended : Bool) (text : List ℕ) → 0 < n → 0 < length text → in_chunk n (Some 0) at ended text ≡ nothing (Bad at)
full_part n at ended text h some =
    let test : nat_lt 0 n ≡ true = le-leb 1 n h in
    let test2 : nat_lt 0 (length text) ≡ true = le-leb 1 (length text) some in
    let place : at + 0 ≡ at = omega arith in
    rw (test, test2, place) refl

-- a part that is full, and a byte more
pub full_tells : (n at : ℕ) (piece held held' : List ℕ) (told : Option AnswerHead) (location : Option (List ℕ)) → 0 < n → 0 < length piece
    → Tells (steps.Bad at) 0 piece told location (staged (Chunk (Some 0) n) held at) (staged (Ended (ends.Bad at) None) held' (at + 0))
full_tells n at piece held held' told location h some = λ ended more. (let size = length-append piece more in full_part n at ended (piece ++ more) h (omega arith), refl)

-- ---- CR LF as steps; the first byte is known

pub cr_tells : (p : Option ℕ) (at : ℕ) (piece held : List ℕ) (told : Option AnswerHead) (location : Option (List ℕ)) → 0 < length piece → get_or piece 0 0 ≡ 13
    → Tells steps.More 1 piece told location (staged (Chunk p 0) held at) (staged (ChunkLf p at) held (at + 1))
cr_tells p at [] held told location some is = absurd (omega arith)
cr_tells p at (b ∷ piece) held told location some is = λ ended more. chunk_done p at ended (b ∷ piece ++ more) ∙ ap (λ c. after_seam p at ended (c ∷ piece ++ more)) is

pub no_cr_tells : (p : Option ℕ) (at : ℕ) (piece held held' : List ℕ) (told : Option AnswerHead) (location : Option (List ℕ)) → 0 < length piece → (get_or piece 0 0 == 13) ≡ false
    → Tells (steps.Bad at) 0 piece told location (staged (Chunk p 0) held at) (staged (Ended (ends.Bad at) None) held' (at + 0))
no_cr_tells p at [] held held' told location some is = absurd (omega arith)
no_cr_tells p at (b ∷ piece) held held' told location some is = λ ended more. (chunk_done p at ended (b ∷ piece ++ more) ∙ seam_torn p at ended b (piece ++ more) is, refl)

pub lf_tells : (p : Option ℕ) (start at : ℕ) (piece : List ℕ) (told : Option AnswerHead) (location : Option (List ℕ)) → 0 < length piece → get_or piece 0 0 ≡ 10
    → Tells steps.More 1 piece told location (staged (ChunkLf p start) [] at) (staged (SizeLine p (start + 2)) [] (at + 1))
lf_tells p start at [] told location some is = absurd (omega arith)
lf_tells p start at (b ∷ piece) told location some is = λ ended more. ap (λ c. after_seam p start ended (13 ∷ c ∷ piece ++ more)) is

pub no_lf_tells : (p : Option ℕ) (start at : ℕ) (piece held held' : List ℕ) (told : Option AnswerHead) (location : Option (List ℕ)) → 0 < length piece → (get_or piece 0 0 == 10) ≡ false
    → Tells (steps.Bad (start + 1)) 0 piece told location (staged (ChunkLf p start) held at) (staged (Ended (ends.Bad (start + 1)) None) held' (at + 0))
no_lf_tells p start at [] held held' told location some is = absurd (omega arith)
no_lf_tells p start at (b ∷ piece) held held' told location some is = λ ended more. (seam_torn_late p start ended b (piece ++ more) is, refl)
