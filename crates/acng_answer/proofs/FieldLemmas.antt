-- The fields of a head as spans of its block.
use Rattle.std.proofs.Common.{◌≡◌, ℕ, suc, ◌+◌, ◌-◌, ◌<◌, ◌≤◌, ◌⊎◌, inl, inr, true, false, Bool, ◌&&◌, ◌==◌, ◌≢◌, List, [], ◌∷◌, ◌++◌, length, take, drop, Option, Some, None, IfSome, IfNone, cond, refl, ap, sym, ◌∙◌, subst, arith, option_and_then}
use Rattle.std.specs.List.{list_all, position, position_from}
use Rattle.std.proofs.lemmas.Iterator.Adapters.{position_from-zero}
use Rattle.std.proofs.lemmas.List.{length-take, length-map}
use Rattle.std.proofs.lemmas.Bool.Decides.{eqb_tells}
use Rattle.httparse.specs.declared.spans.HeaderSpan.{HeaderSpan}
use Rattle.httparse.specs.declared.spans.ResponseSpans.{ResponseSpans}
use Rattle.httparse.specs.declared.spans.Span.{Span}
use Rattle.httparse.specs.Grammar.{ResponseHead, ReadsResponse}
use Rattle.httparse.specs.Spans.{IsResponseWithin, IsResponseOf, header_bytes, span_bytes, name_and_value}
use Rattle.acng_base.specs.Heads.{at_byte, head_of}
use Rattle.acng_base.specs.Fields.{length_of, gives, agreed}
use Rattle.acng_base.proofs.HeadLemmas.{head_reads, no_head}
use Rattle.acng_base.proofs.Ranges.{rest_is_drop}
use Rattle.acng_answer.specs.declared.framing.Lengths.{Lengths}
use Rattle.acng_answer.specs.declared.framing.Lengths.TheVariants.{Absent as NoLength, Agreed, Refused}
use Rattle.acng_answer.specs.Blocks.{AreLengths, IsHeadAt, more_lengths}

-- ---- what the parser finds is what the function gives

pub found_head : (block : List ℕ) (headers : List HeaderSpan) (r : Option ResponseSpans) → length headers ≡ 64
    → IfSome r (λ r. IsResponseWithin block headers r × IsResponseOf block headers r)
    → IfSome r (λ r. IsResponseWithin block headers r × IsHeadAt block headers r (head_of block))
found_head block headers None room h = h
found_head block headers (Some r) room h =
    let at = h.1.1 in
    let count : length (h.1.0).fields ≤ 64 = omega (arith, length-take r.headers headers, length-map (take r.headers headers) (header_bytes block), length-map (h.1.0).fields name_and_value, ap length at.fields) in
    (h.0, rw (head_reads block h.1.0 _ at.reads count) (at.code, at.fields))

pub found_none : (block : List ℕ) (r : Option ResponseSpans)
    → IfNone r ((h : ResponseHead) (rest : List ℕ) → length h.fields ≤ 64 → ReadsResponse block h rest → ⊥)
    → IfNone r (head_of block ≡ None)
found_none block None h = no_head block h
found_none block (Some r) h = h

-- ---- lengths

all_last : (p : List ℕ → Bool) (vs : List (List ℕ)) (v : List ℕ) → list_all p (vs ++ v ∷ []) ≡ (list_all p vs && p v)
all_last p [] v = last (p v)
  where
    last : (b : Bool) → (b && true) ≡ (true && b)
    last true = refl
    last false = refl
all_last p (w ∷ vs) v = cases (p w) (all_last p vs v)
  where
    cases : (b : Bool) → list_all p (vs ++ v ∷ []) ≡ (list_all p vs && p v) → (b && list_all p (vs ++ v ∷ [])) ≡ ((b && list_all p vs) && p v)
    cases true e = e
    cases false e = refl

-- the lengths of a list and of one more value
pub agreed_more : (v w : List ℕ) (vs : List (List ℕ)) → agreed (v ∷ vs ++ w ∷ []) ≡ option_and_then (λ n. cond (gives n (length_of w)) (Some n) None) (agreed (v ∷ vs))
agreed_more v w vs = cases (length_of v)
  where
    again : (n : ℕ) (a : Bool) → cond (a && gives n (length_of w)) (Some n) None ≡ option_and_then (λ n. cond (gives n (length_of w)) (Some n) None) (cond a (Some n) None)
    again n true = refl
    again n false = refl

    cases : (o : Option ℕ) → option_and_then (λ n. cond (list_all (λ w. gives n (length_of w)) (vs ++ w ∷ [])) (Some n) None) o
        ≡ option_and_then (λ n. cond (gives n (length_of w)) (Some n) None) (option_and_then (λ n. cond (list_all (λ w. gives n (length_of w)) vs) (Some n) None) o)
    cases None = refl
    cases (Some n) = ap (λ b. cond b (Some n) None) (all_last (λ w. gives n (length_of w)) vs w) ∙ again n (list_all (λ w. gives n (length_of w)) vs)

-- one more value of `Content-Length`
pub lengths_more : (found : Lengths) (given : Option ℕ) (v : List ℕ) (vs : List (List ℕ)) → given ≡ length_of v → AreLengths found vs → AreLengths (more_lengths found given) (vs ++ v ∷ [])
lengths_more NoLength given v vs is h = rw h (first given is)
  where
    first : (given : Option ℕ) → given ≡ length_of v → AreLengths (more_lengths NoLength given) (v ∷ [])
    first None e = (v, [], refl, ap (option_and_then (λ n. Some n)) (sym e))
    first (Some n) e = (v, [], refl, ap (option_and_then (λ n. Some n)) (sym e))
lengths_more (Agreed n) given v vs is h = rw h.2 (cases given is)
  where
    old : agreed (h.0 ∷ h.1) ≡ Some n
    old = subst (λ l. agreed l ≡ Some n) h.2 h.3

    whole : agreed (h.0 ∷ h.1 ++ v ∷ []) ≡ cond (gives n (length_of v)) (Some n) None
    whole = agreed_more h.0 v h.1 ∙ ap (option_and_then (λ n. cond (gives n (length_of v)) (Some n) None)) old

    cases : (given : Option ℕ) → given ≡ length_of v → AreLengths (more_lengths (Agreed n) given) (h.0 ∷ h.1 ++ v ∷ [])
    cases None e = (h.0, h.1 ++ v ∷ [], refl, whole ∙ ap (λ o. cond (gives n o) (Some n) None) (sym e))
    cases (Some m) e = same (n == m) refl
      where
        same : (b : Bool) → (n == m) ≡ b → AreLengths (cond b (Agreed n) Refused) (h.0 ∷ h.1 ++ v ∷ [])
        same true t = (h.0, h.1 ++ v ∷ [], refl, whole ∙ ap (λ o. cond (gives n o) (Some n) None) (sym e) ∙ ap (λ b. cond b (Some n) None) t)
        same false t = (h.0, h.1 ++ v ∷ [], refl, whole ∙ ap (λ o. cond (gives n o) (Some n) None) (sym e) ∙ ap (λ b. cond b (Some n) None) t)
lengths_more Refused given v vs is h = rw h.2 (h.0, h.1 ++ v ∷ [], refl, agreed_more h.0 v h.1 ∙ ap (option_and_then (λ n. cond (gives n (length_of v)) (Some n) None)) (subst (λ l. agreed l ≡ None) h.2 h.3))

-- ---- cuts

at_from : (c k i : ℕ) (text : List ℕ) → position_from (λ b. b == c) i text ≡ Some k → (i ≤ k) × ◌≡◌ {A = List ℕ × List ℕ} (at_byte c text) (take (k - i) text, drop ((k - i) + 1) text)
at_from c k i [] h = absurd (cc)
at_from c k i (b ∷ bs) h = cases (b == c) h (λ e. at_from c k (i + 1) bs e)
  where
    cases : (t : Bool) → cond t (Some i) (position_from (λ b. b == c) (i + 1) bs) ≡ Some k
        → (position_from (λ b. b == c) (i + 1) bs ≡ Some k → (i + 1 ≤ k) × ◌≡◌ {A = List ℕ × List ℕ} (at_byte c bs) (take (k - (i + 1)) bs, drop ((k - (i + 1)) + 1) bs))
        → (i ≤ k) × ◌≡◌ {A = List ℕ × List ℕ} (cond t ([], bs) (b ∷ (at_byte c bs).0, (at_byte c bs).1)) (take (k - i) (b ∷ bs), drop ((k - i) + 1) (b ∷ bs))
    cases true e again =
        let same : i ≡ k = cc in
        let none : k - i ≡ 0 = omega arith in
        (omega arith, rw none refl)
    cases false e again =
        let r = again e in
        let le = r.0 in
        let more : k - i ≡ suc (k - (i + 1)) = omega arith in
        let rest : (k - (i + 1)) + 1 ≡ suc (k - (i + 1)) = omega arith in
        let after : suc (k - (i + 1)) + 1 ≡ suc (suc (k - (i + 1))) = omega arith in
        (omega arith, rw more (rw after (rw (r.1, rest) refl)))

at_none : (c i : ℕ) (text : List ℕ) → position_from (λ b. b == c) i text ≡ None → ◌≡◌ {A = List ℕ × List ℕ} (at_byte c text) (text, [])
at_none c i [] h = refl
at_none c i (b ∷ bs) h = cases (b == c) h (λ e. at_none c (i + 1) bs e)
  where
    cases : (t : Bool) → cond t (Some i) (position_from (λ b. b == c) (i + 1) bs) ≡ None → (position_from (λ b. b == c) (i + 1) bs ≡ None → ◌≡◌ {A = List ℕ × List ℕ} (at_byte c bs) (bs, []))
        → ◌≡◌ {A = List ℕ × List ℕ} (cond t ([], bs) (b ∷ (at_byte c bs).0, (at_byte c bs).1)) (b ∷ bs, [])
    cases true e again = absurd (cc)
    cases false e again = rw (again e) refl

pub cut_found : (c k : ℕ) (text : List ℕ) → Some k ≡ position (λ b. b == c) text → ◌≡◌ {A = List ℕ × List ℕ} (take k text, take (length text - (k + 1)) (drop (k + 1) text)) (at_byte c text)
cut_found c k text h =
    let r = at_from c k 0 text (sym (position_from-zero (λ b. b == c) text) ∙ sym h) in
    let e : k - 0 ≡ k = omega arith in
    let pair : ℕ → List ℕ × List ℕ = λ j. (take j text, drop (j + 1) text) in
    let at : at_byte c text ≡ pair k = r.1 ∙ ap pair e in
    let cut : List ℕ → List ℕ × List ℕ = λ t. (take k text, t) in
    ap cut (rest_is_drop (k + 1) text) ∙ sym at

pub cut_none : (c : ℕ) (text : List ℕ) → None ≡ position (λ b. b == c) text → ◌≡◌ {A = List ℕ × List ℕ} (text, []) (at_byte c text)
cut_none c text h = sym (at_none c 0 text (sym (position_from-zero (λ b. b == c) text) ∙ sym h))
