-- What is true of every reading of an answer: it is Open only where the connection goes on, Whole only behind a head that
-- is taken, and it has the bytes that its head says are due.
use Rattle.std.proofs.Common.{◌≡◌, ℕ, zero, suc, ◌+◌, ◌-◌, ◌<◌, ◌≤◌, ◌⊎◌, inl, inr, Bool, true, false, List, [], ◌∷◌, take, drop, Option, Some, None, cond, nat_le, nat_lt, ◌==◌, ◌≢◌, ◌||◌, length, length-append, refl, sym, ap, subst, ◌∙◌, arith, min, codes}
use Rattle.std.specs.Option.{option_or}
use Rattle.std.proofs.lemmas.Bool.Decides.{leb_tells, eqb_tells}
use Rattle.std.proofs.lemmas.List.{length-take-le, length-take}
use Rattle.acng_base.specs.Lines.{head_block_len, section_len}
use Rattle.acng_base.specs.Heads.{Head, head_of, values}
use Rattle.acng_base.specs.Framings.{Framing, Empty, Chunks, ToEnd, Counted, framing, part_len, due_of, count_by, counted, by_length, by_encoding}
use Rattle.acng_base.specs.SizeLines.{first_line_len, size_of}
use Rattle.acng_base.specs.Answers.{Outcome, Whole, Early, Open, Bad, Reading, reading, nothing, just, after_body, wants_more, counted_body, open_body, on_trailer, trailer, Seam, Joined, Torn, seam, part_after, less_than, is_due, on_last, last_chunk, overfull, on_seam, on_bytes, on_room, chunk_bytes, on_size, on_line, chunks, body, is_interim, framed, on_kind, on_head, on_block, heads, from_head, cut_off, at_limit, on_limit, EndsWell, HasBytes, HasDue, IsTaken}

-- ---- ends

wanting : (ended : Bool) → wants_more ended ≡ Open → ended ≡ false
wanting true e = absurd (cc)
wanting false e = refl

never_whole : (ended : Bool) → wants_more ended ≡ Whole → ⊥
never_whole true e = cc
never_whole false e = cc

-- an outcome that is no end of a body
record Breaks (ended : Bool) (o : Outcome) : Type 0 where
  going : o ≡ Open → ended ≡ false
  broken : o ≡ Whole → ⊥

wants_breaks : (ended : Bool) → Breaks ended (wants_more ended)
wants_breaks ended = record { going = wanting ended; broken = never_whole ended }

bad_breaks : (ended : Bool) (at : ℕ) → Breaks ended (Bad at)
bad_breaks ended at = record { going = λ e. absurd (cc); broken = λ e. cc }

cond_breaks : (ended b : Bool) (at : ℕ) → Breaks ended (cond b (Bad at) (wants_more ended))
cond_breaks ended true at = bad_breaks ended at
cond_breaks ended false at = wants_breaks ended

-- ---- bodies

-- what is true of a body of which so many bytes are due
record IsBody (part : Option ℕ) (ended : Bool) (r : Reading) : Type 0 where
  going : r.outcome ≡ Open → ended ≡ false
  most : (m : ℕ) → part ≡ Some m → length r.body ≤ m
  all : (m : ℕ) → part ≡ Some m → r.outcome ≡ Whole → length r.body ≡ m

-- a body that breaks off after these bytes
broken_body : (part : Option ℕ) (ended : Bool) (text : List ℕ) (o : Outcome) → Breaks ended o → ((m : ℕ) → part ≡ Some m → length text ≤ m) → IsBody part ended (just text o)
broken_body part ended text o b fits = record { going = b.going; most = fits; all = λ m e w. absurd (b.broken w) }

no_body : (part : Option ℕ) (ended : Bool) (o : Outcome) → Breaks ended o → IsBody part ended (nothing o)
no_body part ended o b = broken_body part ended [] o b (λ m e. omega arith)

counted_is : (n : ℕ) (ended : Bool) (text : List ℕ) → IsBody (Some n) ended (counted_body n ended text)
counted_is n ended text = cases (leb_tells n (length text))
  where
    size : length (take n text) ≡ min n (length text)
    size = length-take n text

    cases : ((nat_le n (length text) ≡ true) × (n ≤ length text)) ⊎ ((nat_le n (length text) ≡ false) × (length text < n)) → IsBody (Some n) ended (counted_body n ended text)
    cases (inl t) = let is = length-take-le n text t.1 in rw t.0 (record {
      going = λ e. absurd (cc);
      most = λ m e. let same : n ≡ m = cc in omega arith;
      all = λ m e w. let same : n ≡ m = cc in is ∙ same;
    })
    cases (inr t) = rw t.0 (broken_body (Some n) ended (take n text) (wants_more ended) (wants_breaks ended) (λ m e. let same : n ≡ m = cc in let s = size in omega arith))

open_ends : (ended : Bool) → cond ended Whole Open ≡ Open → ended ≡ false
open_ends true e = absurd (cc)
open_ends false e = refl

open_is : (part : Option ℕ) (at : ℕ) (ended : Bool) (text : List ℕ) → IsBody part ended (open_body part at ended text)
open_is None at ended text = record { going = open_ends ended; most = λ m e. absurd (cc); all = λ m e w. absurd (cc) }
open_is (Some n) at ended text = cases (leb_tells (suc n) (length text)) (eqb_tells (length text) n)
  where
    cases : ((nat_lt n (length text) ≡ true) × (n < length text)) ⊎ ((nat_lt n (length text) ≡ false) × (length text < suc n))
        → (((length text == n) ≡ true) × (length text ≡ n)) ⊎ (((length text == n) ≡ false) × (length text ≢ n)) → IsBody (Some n) ended (open_body (Some n) at ended text)
    cases (inl t) e = rw t.0 (broken_body (Some n) ended (take n text) (Bad (at + n)) (bad_breaks ended (at + n)) (λ m e. let same : n ≡ m = cc in let s = length-take n text in omega arith))
    cases (inr t) (inl e) = rw (t.0, e.0) (record {
      going = open_ends ended;
      most = λ m e. let same : n ≡ m = cc in omega arith;
      all = λ m g w. let same : n ≡ m = cc in e.1 ∙ same;
    })
    cases (inr t) (inr e) = rw (t.0, e.0) (broken_body (Some n) ended text (wants_more ended) (wants_breaks ended) (λ m e. let same : n ≡ m = cc in omega arith))

-- ---- chunks

torn : (at : ℕ) (ended : Bool) (text : List ℕ) (o : Outcome) → seam at ended text ≡ Torn o → Breaks ended o
torn at ended [] o e = let is : wants_more ended ≡ o = cc in subst (Breaks ended) is (wants_breaks ended)
torn at ended (b ∷ []) o e = cases (b == 13) e
  where
    cases : (x : Bool) → Torn (cond x (wants_more ended) (Bad at)) ≡ Torn o → Breaks ended o
    cases true e = let is : wants_more ended ≡ o = cc in subst (Breaks ended) is (wants_breaks ended)
    cases false e = let is : Bad at ≡ o = cc in subst (Breaks ended) is (bad_breaks ended at)
torn at ended (b ∷ c ∷ rest) o e = cases (b == 13) (c == 10) e
  where
    cases : (x y : Bool) → cond x (cond y (Joined rest) (Torn (Bad (at + 1)))) (Torn (Bad at)) ≡ Torn o → Breaks ended o
    cases true true e = absurd (cc)
    cases true false e = let is : Bad (at + 1) ≡ o = cc in subst (Breaks ended) is (bad_breaks ended (at + 1))
    cases false y e = let is : Bad at ≡ o = cc in subst (Breaks ended) is (bad_breaks ended at)

trailer_is : (part : Option ℕ) (at : ℕ) (ended : Bool) (text : List ℕ) → ((m : ℕ) → part ≡ Some m → m ≡ 0) → IsBody part ended (trailer at ended text)
trailer_is part at ended text none = cases (section_len (take 16384 text))
  where
    cases : (o : Option ℕ) → IsBody part ended (on_trailer 16384 at ended text o)
    cases None = no_body part ended _ (cond_breaks ended (nat_le 16384 (length text)) at)
    cases (Some n) = record { going = λ e. absurd (cc); most = λ m e. omega arith; all = λ m e w. sym (none m e) }

not_due : (part : Option ℕ) → is_due part ≡ false → (m : ℕ) → part ≡ Some m → m ≡ 0
not_due None h m e = absurd (cc)
not_due (Some n) h m e = cases (leb_tells 1 n)
  where
    cases : ((nat_lt 0 n ≡ true) × (1 ≤ n)) ⊎ ((nat_lt 0 n ≡ false) × (n < 1)) → m ≡ 0
    cases (inl t) = absurd (cc)
    cases (inr t) = let same : n ≡ m = cc in omega (arith, t.1)

last_is : (part : Option ℕ) (at line_at : ℕ) (ended : Bool) (text : List ℕ) → IsBody part ended (last_chunk part at line_at ended text)
last_is part at line_at ended text = cases (is_due part) refl
  where
    cases : (b : Bool) → is_due part ≡ b → IsBody part ended (on_last at line_at ended text b)
    cases true e = no_body part ended (Bad line_at) (bad_breaks ended line_at)
    cases false e = trailer_is part at ended text (not_due part e)

overfull_is : (m at : ℕ) (ended : Bool) (text : List ℕ) → IsBody (Some m) ended (overfull m at ended text)
overfull_is m at ended text = broken_body (Some m) ended (take m text) _ (cond_breaks ended (nat_lt m (length text)) (at + m))
    (λ k e. let same : m ≡ k = cc in let s = length-take m text in omega arith)

-- a part that has room for n bytes
has_room : (part : Option ℕ) (n : ℕ) → less_than part n ≡ None → (m : ℕ) → part ≡ Some m → n ≤ m
has_room None n h m e = absurd (cc)
has_room (Some k) n h m e = cases (leb_tells (suc k) n)
  where
    cases : ((nat_lt k n ≡ true) × (k < n)) ⊎ ((nat_lt k n ≡ false) × (n < suc k)) → n ≤ m
    cases (inl t) = absurd (let none : Some k ≡ None = sym (ap (λ b. cond b (Some k) None) t.0) ∙ h in cc)
    cases (inr t) = let same : k ≡ m = cc in omega (arith, t.1)

is_less : (part : Option ℕ) (n m : ℕ) → less_than part n ≡ Some m → part ≡ Some m
is_less None n m h = absurd (cc)
is_less (Some k) n m h = cases (nat_lt k n) h
  where
    cases : (b : Bool) → cond b (Some k) None ≡ Some m → Some k ≡ Some m
    cases true h = h
    cases false h = absurd (cc)

after_some : (part : Option ℕ) (n m : ℕ) → part ≡ Some m → part_after part n ≡ Some (m - n)
after_some part n m e = ap (λ p. part_after p n) e

-- n bytes of the chunk, and the rest
joined_is : (part : Option ℕ) (n : ℕ) (ended : Bool) (xs : List ℕ) (r : Reading) → length xs ≡ n → ((m : ℕ) → part ≡ Some m → n ≤ m) → IsBody (part_after part n) ended r → IsBody part ended (after_body xs r)
joined_is part n ended xs r size room b = record {
  going = b.going;
  most = λ m e. let le = b.most (m - n) (after_some part n m e) in let fits = room m e in let l = length-append xs r.body in omega arith;
  all = λ m e w. let same = b.all (m - n) (after_some part n m e) w in let fits = room m e in length-append xs r.body ∙ omega arith;
}

module _ (ended : Bool) (next : Option ℕ → ℕ → List ℕ → Reading) (again : (p : Option ℕ) (a : ℕ) (rest : List ℕ) → IsBody p ended (next p a rest)) where
  seam_is : (part : Option ℕ) (at : ℕ) (text : List ℕ) (s : Seam) → seam at ended text ≡ s → IsBody part ended (on_seam (next part) at s)
  seam_is part at text (Torn o) e = no_body part ended o (torn at ended text o e)
  seam_is part at text (Joined rest) e = again part (at + 2) rest

  bytes_is : (n : ℕ) (part : Option ℕ) (at : ℕ) (text : List ℕ) → ((m : ℕ) → part ≡ Some m → n ≤ m) → IsBody part ended (on_bytes next n part at ended text (nat_lt (length text) n))
  bytes_is n part at text room = cases (leb_tells (suc (length text)) n)
    where
      cases : ((nat_lt (length text) n ≡ true) × (length text < n)) ⊎ ((nat_lt (length text) n ≡ false) × (n < suc (length text))) → IsBody part ended (on_bytes next n part at ended text (nat_lt (length text) n))
      cases (inl t) = rw t.0 (broken_body part ended text (wants_more ended) (wants_breaks ended) (λ m e. let fits = room m e in omega (arith, t.1)))
      cases (inr t) = rw t.0 (joined_is part n ended (take n text) _ (length-take-le n text (omega (arith, t.1))) room (seam_is (part_after part n) (at + n) (drop n text) (seam (at + n) ended (drop n text)) refl))

  room_is : (n : ℕ) (part : Option ℕ) (at : ℕ) (text : List ℕ) → IsBody part ended (chunk_bytes next n part at ended text)
  room_is n part at text = cases (less_than part n) refl
    where
      cases : (o : Option ℕ) → less_than part n ≡ o → IsBody part ended (on_room next n part at ended text o)
      cases None e = bytes_is n part at text (has_room part n e)
      cases (Some m) e = subst (λ p. IsBody p ended (overfull m at ended text)) (sym (is_less part n m e)) (overfull_is m at ended text)

  size_is : (part : Option ℕ) (at line_at : ℕ) (text : List ℕ) (o : Option ℕ) → IsBody part ended (on_size next part at line_at ended text o)
  size_is part at line_at text None = no_body part ended (Bad line_at) (bad_breaks ended line_at)
  size_is part at line_at text (Some zero) = last_is part at line_at ended text
  size_is part at line_at text (Some (suc m)) = room_is (suc m) part at text

  line_is : (part : Option ℕ) (at : ℕ) (text : List ℕ) (o : Option ℕ) → IsBody part ended (on_line next part at ended text o)
  line_is part at text None = no_body part ended _ (cond_breaks ended (nat_le 1024 (length text)) at)
  line_is part at text (Some n) = size_is part (at + n) at (drop n text) (size_of (take n text))

chunks_are : (fuel : ℕ) (part : Option ℕ) (at : ℕ) (ended : Bool) (text : List ℕ) → IsBody part ended (chunks fuel part at ended text)
chunks_are zero part at ended text = no_body part ended (wants_more ended) (wants_breaks ended)
chunks_are (suc fuel) part at ended text =
    line_is ended (λ p a rest. chunks fuel p a ended rest) (λ p a rest. chunks_are fuel p a ended rest) part at text (first_line_len (take 1024 text))

-- ---- heads

-- what is true of a reading
record IsRead (ended : Bool) (r : Reading) : Type 0 where
  ends : EndsWell ended r
  due : HasDue r
  taken : (h : Head) → r.head ≡ Some h → IsTaken h

no_answer : (ended : Bool) (o : Outcome) → Breaks ended o → IsRead ended (nothing o)
no_answer ended o b = record {
  ends = record { going = b.going; headed = λ w n. b.broken w };
  due = λ h n e d. absurd (cc);
  taken = λ h e. absurd (cc);
}

interim_read : (ended : Bool) (h : Head) (r : Reading) → IsRead ended r → IsRead ended (record { interim = h ∷ r.interim; head = r.head; body = r.body; outcome = r.outcome })
interim_read ended h r i = record {
  ends = record { going = i.ends.going; headed = i.ends.headed };
  due = λ g n e d. let b = i.due g n e d in record { most = b.most; all = b.all };
  taken = i.taken;
}

-- the framing by a length that the head states, where a part is due
counted_due : (o part : Option ℕ) (n m : ℕ) → counted o part ≡ Some (Counted n) → option_or part (Some n) ≡ Some m → n ≡ m
counted_due None part n m e d = absurd (cc)
counted_due (Some k) None n m e d = cc
counted_due (Some k) (Some j) n m e d = cases (eqb_tells k j) e d
  where
    cases : (((k == j) ≡ true) × (k ≡ j)) ⊎ (((k == j) ≡ false) × (k ≢ j)) → cond (k == j) (Some (Counted k)) None ≡ Some (Counted n) → Some j ≡ Some m → n ≡ m
    cases (inl t) e d = let f : Some (Counted k) ≡ Some (Counted n) = sym (ap (λ b. cond b (Some (Counted k)) None) t.0) ∙ e in let a : k ≡ n = cc in let b : j ≡ m = cc in sym a ∙ t.1 ∙ b
    cases (inr t) e d = absurd (let f : None ≡ Some (Counted n) = sym (ap (λ b. cond b (Some (Counted k)) None) t.0) ∙ e in cc)

not_empty : (o part : Option ℕ) → counted o part ≡ Some Empty → ⊥
not_empty None part e = cc
not_empty (Some k) None e = cc
not_empty (Some k) (Some j) e = cases (k == j) e
  where
    cases : (b : Bool) → cond b (Some (Counted k)) None ≡ Some Empty → ⊥
    cases true e = cc
    cases false e = cc

-- a head that isn't of status 204 or 304
module _ (h : Head) where
  lengths_due : (vs : List (List ℕ)) (n m : ℕ) → by_length h vs ≡ Some (Counted n) → option_or (part_len h) (Some n) ≡ Some m → n ≡ m
  lengths_due [] n m e d = absurd (cc)
  lengths_due (v ∷ vs) n m e d = counted_due _ (part_len h) n m e d

  encoded_due : (es : List (List ℕ)) (n m : ℕ) → by_encoding h es ≡ Some (Counted n) → option_or (part_len h) (Some n) ≡ Some m → n ≡ m
  encoded_due [] n m e d = lengths_due (values (codes "content-length") h.fields) n m e d
  encoded_due (v ∷ []) n m e d = absurd (chunked _ e)
    where
      chunked : (b : Bool) → cond b (Some Chunks) None ≡ Some (Counted n) → ⊥
      chunked true e = cc
      chunked false e = cc
  encoded_due (v ∷ w ∷ vs) n m e d = absurd (cc)

  lengths_some : (vs : List (List ℕ)) → by_length h vs ≡ Some Empty → ⊥
  lengths_some [] e = cc
  lengths_some (v ∷ vs) e = not_empty _ (part_len h) e

  encoded_some : (es : List (List ℕ)) → by_encoding h es ≡ Some Empty → ⊥
  encoded_some [] e = lengths_some (values (codes "content-length") h.fields) e
  encoded_some (v ∷ []) e = chunked _ e
    where
      chunked : (b : Bool) → cond b (Some Chunks) None ≡ Some Empty → ⊥
      chunked true e = cc
      chunked false e = cc
  encoded_some (v ∷ w ∷ vs) e = cc

abbrev encodings : Head → List (List ℕ)
encodings h = values (codes "transfer-encoding") h.fields

has_none : (s : ℕ) → (s == 204 || s == 304) ≡ true → (s == 206) ≡ false
has_none s h = cases (eqb_tells s 204) (eqb_tells s 304) (eqb_tells s 206)
  where
    cases : (((s == 204) ≡ true) × (s ≡ 204)) ⊎ (((s == 204) ≡ false) × (s ≢ 204)) → (((s == 304) ≡ true) × (s ≡ 304)) ⊎ (((s == 304) ≡ false) × (s ≢ 304))
        → (((s == 206) ≡ true) × (s ≡ 206)) ⊎ (((s == 206) ≡ false) × (s ≢ 206)) → (s == 206) ≡ false
    cases x y (inr c) = c.0
    cases (inl a) y (inl c) = absurd (let e = a.1 in let f = c.1 in omega arith)
    cases (inr a) (inl b) (inl c) = absurd (let e = b.1 in let f = c.1 in omega arith)
    cases (inr a) (inr b) (inl c) = absurd (let e : (s == 204 || s == 304) ≡ false = rw (a.0, b.0) refl in cc)

no_part : (h : Head) → (h.status == 204 || h.status == 304) ≡ true → part_len h ≡ None
no_part h e = rw (has_none h.status e) refl

-- what a head counts is what a range of it has
pub counted_part : (h : Head) → (b : Bool) → (h.status == 204 || h.status == 304) ≡ b → (n m : ℕ) → framing h ≡ Some (Counted n) → option_or (part_len h) (Some n) ≡ Some m → n ≡ m
counted_part h true s n m e d = absurd (let f : Some Empty ≡ Some (Counted n) = sym (ap (λ b. cond b (Some Empty) (by_encoding h (encodings h))) s) ∙ e in cc)
counted_part h false s n m e d = encoded_due h (encodings h) n m (sym (ap (λ b. cond b (Some Empty) (by_encoding h (encodings h))) s) ∙ e) d

-- no part is due of a head without a body
pub empty_part : (h : Head) (b : Bool) → (h.status == 204 || h.status == 304) ≡ b → framing h ≡ Some Empty → part_len h ≡ None
empty_part h true s e = no_part h s
empty_part h false s e = absurd (encoded_some h (encodings h) (sym (ap (λ b. cond b (Some Empty) (by_encoding h (encodings h))) s) ∙ e))

-- the body of a head that is taken
body_read : (h : Head) (f : Framing) (at : ℕ) (ended : Bool) (text : List ℕ) → framing h ≡ Some f → (n : ℕ) → due_of h ≡ Some n → HasBytes n (body f (part_len h) at ended text)
body_read h Empty at ended text is n d = absurd (let none = empty_part h (h.status == 204 || h.status == 304) refl is in let e : None ≡ Some n = sym (rw (none, is) refl) ∙ d in cc)
body_read h (Counted k) at ended text is n d =
    let same = counted_part h (h.status == 204 || h.status == 304) refl k n is (sym (ap (λ f. option_or (part_len h) (count_by f)) is) ∙ d) in
    let b = counted_is k ended text in
    record { most = b.most n (ap Some same); all = b.all n (ap Some same) }
body_read h ToEnd at ended text is n d =
    let due : part_len h ≡ Some n = only_part (part_len h) (sym (ap (λ f. option_or (part_len h) (count_by f)) is) ∙ d) in
    let b = open_is (part_len h) at ended text in
    record { most = b.most n due; all = b.all n due }
  where
    only_part : (p : Option ℕ) → option_or p None ≡ Some n → p ≡ Some n
    only_part None e = absurd (cc)
    only_part (Some m) e = e
body_read h Chunks at ended text is n d =
    let due : part_len h ≡ Some n = only_part (part_len h) (sym (ap (λ f. option_or (part_len h) (count_by f)) is) ∙ d) in
    let b = chunks_are (suc (length text)) (part_len h) at ended text in
    record { most = b.most n due; all = b.all n due }
  where
    only_part : (p : Option ℕ) → option_or p None ≡ Some n → p ≡ Some n
    only_part None e = absurd (cc)
    only_part (Some m) e = e

body_going : (f : Framing) (part : Option ℕ) (at : ℕ) (ended : Bool) (text : List ℕ) → (body f part at ended text).outcome ≡ Open → ended ≡ false
body_going Empty part at ended text e = absurd (cc)
body_going (Counted n) part at ended text e = (counted_is n ended text).going e
body_going ToEnd part at ended text e = (open_is part at ended text).going e
body_going Chunks part at ended text e = (chunks_are (suc (length text)) part at ended text).going e

framed_read : (h : Head) (start at : ℕ) (ended : Bool) (text : List ℕ) → is_interim h ≡ false → (o : Option Framing) → framing h ≡ o → IsRead ended (framed h start at ended text o)
framed_read h start at ended text kind None is = no_answer ended (Bad start) (bad_breaks ended start)
framed_read h start at ended text kind (Some f) is = record {
  ends = record { going = body_going f (part_len h) at ended text; headed = λ w n. cc };
  due = λ g n e d.
      let same : h ≡ g = cc in
      let b = body_read h f at ended text is n (ap due_of same ∙ d) in
      record { most = b.most; all = b.all };
  taken = λ g e. let same : h ≡ g = cc in subst IsTaken same (kind, f, is);
}

module _ (ended : Bool) (next : ℕ → List ℕ → Reading) (again : (a : ℕ) (rest : List ℕ) → IsRead ended (next a rest)) where
  kind_read : (h : Head) (at n : ℕ) (text : List ℕ) (b : Bool) → is_interim h ≡ b → IsRead ended (on_kind next h at n ended text b)
  kind_read h at n text true kind = interim_read ended h _ (again (at + n) (drop n text))
  kind_read h at n text false kind = framed_read h at (at + n) ended (drop n text) kind (framing h) refl

  head_read : (at n : ℕ) (text : List ℕ) (o : Option Head) → IsRead ended (on_head next at n ended text o)
  head_read at n text None = no_answer ended (Bad at) (bad_breaks ended at)
  head_read at n text (Some h) = kind_read h at n text (is_interim h) refl

  block_read : (at : ℕ) (text : List ℕ) (o : Option ℕ) → IsRead ended (on_block next at ended text o)
  block_read at text None = no_answer ended _ (cond_breaks ended (nat_le 16384 (length text)) at)
  block_read at text (Some n) = head_read at n text (head_of (take n text))

heads_read : (fuel at : ℕ) (ended : Bool) (text : List ℕ) → IsRead ended (heads fuel at ended text)
heads_read zero at ended text = no_answer ended (wants_more ended) (wants_breaks ended)
heads_read (suc fuel) at ended text =
    block_read ended (λ a rest. heads fuel a ended rest) (λ a rest. heads_read fuel a ended rest) at text (head_block_len (take 16384 text))

-- ---- the limit

still_open : (limit : ℕ) (o : Outcome) → cut_off limit o ≡ Open → ⊥
still_open limit Whole e = cc
still_open limit Early e = cc
still_open limit Open e = cc
still_open limit (Bad at) e = cc

still_whole : (limit : ℕ) (o : Outcome) → cut_off limit o ≡ Whole → o ≡ Whole
still_whole limit Whole e = refl
still_whole limit Early e = absurd (cc)
still_whole limit Open e = absurd (cc)
still_whole limit (Bad at) e = absurd (cc)

limit_read : (limit : ℕ) (ended : Bool) (r : Reading) → IsRead false r → IsRead ended (at_limit limit r)
limit_read limit ended r i = record {
  ends = record { going = λ e. absurd (still_open limit r.outcome e); headed = λ w n. i.ends.headed (still_whole limit r.outcome w) n };
  due = λ h n e d. let b = i.due h n e d in record { most = b.most; all = λ w. b.all (still_whole limit r.outcome w) };
  taken = i.taken;
}

is_read : (text : List ℕ) (ended : Bool) (limit : ℕ) → IsRead ended (reading text ended limit)
is_read text ended limit = cases (nat_le (length text) limit)
  where
    cases : (b : Bool) → IsRead ended (on_limit limit limit (from_head 0) ended text b)
    cases true = heads_read (suc (length text)) 0 ended text
    cases false = limit_read limit ended (from_head 0 false (take limit text)) (heads_read (suc (length (take limit text))) 0 false (take limit text))

-- Open only where the connection goes on, Whole only behind a head
pub reading_ends : (text : List ℕ) (ended : Bool) (limit : ℕ) → EndsWell ended (reading text ended limit)
reading_ends text ended limit = (is_read text ended limit).ends

-- a body has the bytes that its head says are due
pub counted_reads : (text : List ℕ) (ended : Bool) (limit : ℕ) → HasDue (reading text ended limit)
counted_reads text ended limit = (is_read text ended limit).due

-- the head of a reading is final, and none of its fields is refused
pub head_taken : (text : List ℕ) (ended : Bool) (limit : ℕ) (h : Head) → (reading text ended limit).head ≡ Some h → IsTaken h
head_taken text ended limit h e = (is_read text ended limit).taken h e
