-- The body of a reading has at most as many bytes as the text that is read.
use Rattle.std.proofs.Common.{◌≡◌, ◌≤◌, ℕ, zero, suc, ◌+◌, Bool, true, false, List, [], ◌∷◌, length, length-append, take, drop}
use Rattle.std.proofs.Common.{Option, Some, None, cond, nat_le, nat_lt, ◌==◌, refl, ap, arith}
use Rattle.std.proofs.lemmas.Bool.{leb-true}
use Rattle.std.proofs.lemmas.List.{length-take, length-drop}
use Rattle.acng_base.specs.Lines.{head_block_len, section_len}
use Rattle.acng_base.specs.Heads.{Head, head_of}
use Rattle.acng_base.specs.Framings.{Framing, Empty, Chunks, ToEnd, Counted, framing, part_len}
use Rattle.acng_base.specs.SizeLines.{first_line_len, size_of}
use Rattle.acng_base.specs.Answers.{Bad, Reading, reading, just, wants_more, Whole, Open, open_body}
use Rattle.acng_base.specs.Answers.{on_trailer, Seam, Joined, Torn, seam, part_after, less_than, is_due, on_last, on_seam, on_bytes}
use Rattle.acng_base.specs.Answers.{on_room, on_size, on_line, chunks, body, is_interim, framed, on_kind, on_head, on_block, heads}
use Rattle.acng_base.specs.Answers.{from_head, on_limit}

abbrev Short : ℕ → Reading → Type 0
Short n r = length r.body ≤ n

front_short : (n : ℕ) (text : List ℕ) → length (take n text) ≤ length text
front_short n text = let l = length-take n text in omega (arith, l)

rest_short : (n : ℕ) (text : List ℕ) → length (drop n text) ≤ length text
rest_short n text = let l = length-drop n text in omega (arith, l)

-- ---- bodies that aren't in chunks

open_short : (part : Option ℕ) (at : ℕ) (ended : Bool) (text : List ℕ) → Short (length text) (open_body part at ended text)
open_short None at ended text = omega arith
open_short (Some n) at ended text = cases (nat_lt n (length text))
  where
    cases : (b : Bool)
        → Short (length text) (cond b (just (take n text) (Bad (at + n)))
        (just text (cond (length text == n) (cond ended Whole Open) (wants_more ended))))
    cases true = front_short n text
    cases false = omega arith

-- ---- chunks

trailer_short : (most at n : ℕ) (ended : Bool) (text : List ℕ) (o : Option ℕ) → Short n (on_trailer most at ended text o)
trailer_short most at n ended text None = omega arith
trailer_short most at n ended text (Some k) = omega arith

last_short : (at line_at n : ℕ) (ended : Bool) (text : List ℕ) (b : Bool) → Short n (on_last at line_at ended text b)
last_short at line_at n ended text true = omega arith
last_short at line_at n ended text false = trailer_short 16384 at n ended text (section_len (take 16384 text))

-- what follows a seam is shorter than the text
joined : (at : ℕ) (ended : Bool) (text rest : List ℕ) → seam at ended text ≡ Joined rest → length rest ≤ length text
joined at ended [] rest e = absurd (cc)
joined at ended (b ∷ []) rest e = absurd (cc)
joined at ended (b ∷ c ∷ bs) rest e = cases (b == 13) (c == 10) e
  where
    cases : (x y : Bool) → cond x (cond y (Joined bs) (Torn (Bad (at + 1)))) (Torn (Bad at)) ≡ Joined rest
        → length rest ≤ length (b ∷ c ∷ bs)
    cases true true e = let same : bs ≡ rest = cc in let l = ap length same in omega (arith, l)
    cases true false e = absurd (cc)
    cases false y e = absurd (cc)

module _ (next : Option ℕ → ℕ → List ℕ → Reading)
    (again : (p : Option ℕ) (a : ℕ) (rest : List ℕ) → Short (length rest) (next p a rest)) (ended : Bool) where
  seam_short : (p : Option ℕ) (at : ℕ) (text : List ℕ) (s : Seam) → seam at ended text ≡ s
      → Short (length text) (on_seam (next p) at s)
  seam_short p at text (Torn o) e = omega arith
  seam_short p at text (Joined rest) e =
      let l = joined at ended text rest e in let s = again p (at + 2) rest in omega (arith, l, s)

  bytes_short : (n : ℕ) (part : Option ℕ) (at : ℕ) (text : List ℕ) (b : Bool)
      → Short (length text) (on_bytes next n part at ended text b)
  bytes_short n part at text true = omega arith
  bytes_short n part at text false =
      let rest = seam_short (part_after part n) (at + n) (drop n text) (seam (at + n) ended (drop n text)) refl in
      let sum = length-append (take n text) (on_seam (next (part_after part n)) (at + n) (seam (at + n) ended (drop n text))).body in
      let front = length-take n text in
      let back = length-drop n text in
      omega (arith, rest, sum, front, back)

  room_short : (n : ℕ) (part : Option ℕ) (at : ℕ) (text : List ℕ) (o : Option ℕ)
      → Short (length text) (on_room next n part at ended text o)
  room_short n part at text (Some m) = front_short m text
  room_short n part at text None = bytes_short n part at text (nat_lt (length text) n)

  size_short : (part : Option ℕ) (at line_at : ℕ) (text : List ℕ) (o : Option ℕ)
      → Short (length text) (on_size next part at line_at ended text o)
  size_short part at line_at text None = omega arith
  size_short part at line_at text (Some zero) = last_short at line_at (length text) ended text (is_due part)
  size_short part at line_at text (Some (suc m)) = room_short (suc m) part at text (less_than part (suc m))

  line_short : (part : Option ℕ) (at : ℕ) (text : List ℕ) (o : Option ℕ) → Short (length text) (on_line next part at ended text o)
  line_short part at text None = omega arith
  line_short part at text (Some n) =
      let s = size_short part (at + n) at (drop n text) (size_of (take n text)) in let l = rest_short n text in omega (arith, s, l)

chunks_short : (fuel : ℕ) (part : Option ℕ) (at : ℕ) (ended : Bool) (text : List ℕ)
    → Short (length text) (chunks fuel part at ended text)
chunks_short zero part at ended text = omega arith
chunks_short (suc fuel) part at ended text =
    line_short (λ p a rest. chunks fuel p a ended rest) (λ p a rest. chunks_short fuel p a ended rest) ended part at text
    (first_line_len (take 1024 text))

body_short : (f : Framing) (part : Option ℕ) (at : ℕ) (ended : Bool) (text : List ℕ)
    → Short (length text) (body f part at ended text)
body_short Empty part at ended text = omega arith
body_short (Counted n) part at ended text = front_short n text
body_short ToEnd part at ended text = open_short part at ended text
body_short Chunks part at ended text = chunks_short (suc (length text)) part at ended text

-- ---- heads

framed_short : (h : Head) (start at : ℕ) (ended : Bool) (text : List ℕ) (o : Option Framing)
    → Short (length text) (framed h start at ended text o)
framed_short h start at ended text None = omega arith
framed_short h start at ended text (Some f) = body_short f (part_len h) at ended text

module _ (next : ℕ → List ℕ → Reading) (again : (a : ℕ) (rest : List ℕ) → Short (length rest) (next a rest)) (ended : Bool) where
  kind_short : (h : Head) (at n : ℕ) (text : List ℕ) (b : Bool) → Short (length text) (on_kind next h at n ended text b)
  kind_short h at n text true = let s = again (at + n) (drop n text) in let l = rest_short n text in omega (arith, s, l)
  kind_short h at n text false =
      let s = framed_short h at (at + n) ended (drop n text) (framing h) in let l = rest_short n text in omega (arith, s, l)

  head_short : (at n : ℕ) (text : List ℕ) (o : Option Head) → Short (length text) (on_head next at n ended text o)
  head_short at n text None = omega arith
  head_short at n text (Some h) = kind_short h at n text (is_interim h)

  block_short : (at : ℕ) (text : List ℕ) (o : Option ℕ) → Short (length text) (on_block next at ended text o)
  block_short at text None = omega arith
  block_short at text (Some n) = head_short at n text (head_of (take n text))

heads_short : (fuel at : ℕ) (ended : Bool) (text : List ℕ) → Short (length text) (heads fuel at ended text)
heads_short zero at ended text = omega arith
heads_short (suc fuel) at ended text =
    block_short (λ a rest. heads fuel a ended rest) (λ a rest. heads_short fuel a ended rest) ended at text
    (head_block_len (take 16384 text))

-- so within the limit
pub body_within : (text : List ℕ) (ended : Bool) (limit : ℕ) → length (reading text ended limit).body ≤ limit
body_within text ended limit = cases (nat_le (length text) limit) refl
  where
    cases : (b : Bool) → nat_le (length text) limit ≡ b → Short limit (on_limit limit limit (from_head 0) ended text b)
    cases true e = let s = heads_short (suc (length text)) 0 ended text in let l = leb-true (length text) limit e in omega (arith, s, l)
    cases false e =
        let s = heads_short (suc (length (take limit text))) 0 false (take limit text) in
        let l = length-take limit text in
        omega (arith, s, l)
