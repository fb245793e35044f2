-- How many bytes are due after a head, and the bounds of what is told of it.
use Rattle.std.proofs.Common.{◌≡◌, ℕ, ◌≤◌, ◌^◌, Bool, true, false, ◌==◌, ◌≢◌, ◌||◌, ◌&&◌, List, [], ◌∷◌, length, Option, Some, None, IfSome, cond, nat_le, nat_lt, refl, sym, ap, ◌∙◌, subst, arith, codes, option_and_then}
use Rattle.std.specs.Option.{option_or}
use Rattle.std.specs.List.{list_all}
use Rattle.std.specs.Char.{is_ascii_digit}
use Rattle.std.specs.Str.Parse.{digits_value}
use Rattle.std.proofs.lemmas.Bool.{leb-true, ne_eqb}
use Rattle.acng_base.specs.Heads.{Head, values}
use Rattle.acng_base.specs.Fields.{length_of, gives, agreed}
use Rattle.acng_base.specs.Framings.{Framing, Empty, Counted, ToEnd, Chunks, framing, part_len, stated_length, due_of, count_by, counted, by_length, by_encoding}
use Rattle.acng_base.proofs.HeadLemmas.{and_parts}
use Rattle.acng_base.proofs.Readings.{counted_part, empty_part}
use Rattle.acng_answer.specs.declared.framing.Framed.{Framed}
use Rattle.acng_answer.specs.declared.framing.Framed.TheVariants as framed
use Rattle.acng_answer.specs.Blocks.{IsFramedAs, IsFraming}

abbrev pub framed_due : Framed → Option ℕ
framed_due framed.Empty = None
framed_due (framed.Counted n) = Some n
framed_due (framed.ToEnd part) = part
framed_due (framed.Chunks part) = part

only_part : (part : Option ℕ) → option_or part None ≡ part
only_part None = refl
only_part (Some m) = refl

pub due_framed : (h : Head) (f : Framed) → IsFramedAs h f → due_of h ≡ framed_due f
due_framed h framed.Empty is =
    let none = empty_part h (h.status == 204 || h.status == 304) refl is in
    ap (λ p. option_or p (stated_length h)) none ∙ ap count_by is
due_framed h (framed.Counted n) is = ap (λ f. option_or (part_len h) (count_by f)) is ∙ cases (part_len h) refl
  where
    cases : (o : Option ℕ) → part_len h ≡ o → option_or o (Some n) ≡ Some n
    cases None e = refl
    cases (Some m) e = ap Some (sym (counted_part h (h.status == 204 || h.status == 304) refl n m is (ap (λ p. option_or p (Some n)) e)))
due_framed h (framed.ToEnd part) is = ap (λ f. option_or (part_len h) (count_by f)) is.0 ∙ only_part (part_len h) ∙ is.1
due_framed h (framed.Chunks part) is = ap (λ f. option_or (part_len h) (count_by f)) is.0 ∙ only_part (part_len h) ∙ is.1

-- ---- a length is at most 2^41

length_small : (text : List ℕ) (n : ℕ) → length_of text ≡ Some n → n ≤ 2 ^ 41
length_small text n e = cases _ refl e
  where
    cases : (b : Bool) → (nat_lt 0 (length text) && nat_le (length text) 13 && list_all is_ascii_digit text && nat_le (digits_value 10 text) (2 ^ 41)) ≡ b → cond b (Some (digits_value 10 text)) None ≡ Some n → n ≤ 2 ^ 41
    cases true t e =
        let parts = and_parts (nat_lt 0 (length text) && nat_le (length text) 13 && list_all is_ascii_digit text) (nat_le (digits_value 10 text) (2 ^ 41)) t in
        let le = leb-true (digits_value 10 text) (2 ^ 41) parts.1 in
        let same : digits_value 10 text ≡ n = cc in
        subst (λ k. k ≤ 2 ^ 41) same le
    cases false t e = absurd (cc)

agreed_small : (vs : List (List ℕ)) (n : ℕ) → agreed vs ≡ Some n → n ≤ 2 ^ 41
agreed_small [] n e = absurd (cc)
agreed_small (v ∷ vs) n e = cases (length_of v) refl e
  where
    same : (m : ℕ) (b : Bool) → cond b (Some m) None ≡ Some n → m ≡ n
    same m true e = cc
    same m false e = absurd (cc)

    cases : (o : Option ℕ) → length_of v ≡ o → option_and_then (λ n. cond (list_all (λ w. gives n (length_of w)) vs) (Some n) None) o ≡ Some n → n ≤ 2 ^ 41
    cases None t e = absurd (cc)
    cases (Some m) t e = subst (λ k. k ≤ 2 ^ 41) (same m (list_all (λ w. gives m (length_of w)) vs) e) (length_small v m t)

counted_small : (o part : Option ℕ) (n : ℕ) → counted o part ≡ Some (Counted n) → o ≡ Some n
counted_small None part n e = absurd (cc)
counted_small (Some k) None n e = cc
counted_small (Some k) (Some m) n e = cases (k == m) e
  where
    cases : (b : Bool) → cond b (Some (Counted k)) None ≡ Some (Counted n) → Some k ≡ Some n
    cases true e = cc
    cases false e = absurd (cc)

lengths_small : (h : Head) (vs : List (List ℕ)) (n : ℕ) → by_length h vs ≡ Some (Counted n) → n ≤ 2 ^ 41
lengths_small h [] n e = absurd (cc)
lengths_small h (v ∷ vs) n e = agreed_small (v ∷ vs) n (counted_small (agreed (v ∷ vs)) (part_len h) n e)

encoded_small : (h : Head) (es : List (List ℕ)) (n : ℕ) → by_encoding h es ≡ Some (Counted n) → n ≤ 2 ^ 41
encoded_small h [] n e = lengths_small h (values (codes "content-length") h.fields) n e
encoded_small h (v ∷ []) n e = absurd (chunked _ e)
  where
    chunked : (b : Bool) → cond b (Some Chunks) None ≡ Some (Counted n) → ⊥
    chunked true e = cc
    chunked false e = cc
encoded_small h (v ∷ w ∷ vs) n e = absurd (cc)

framing_small : (h : Head) (n : ℕ) → framing h ≡ Some (Counted n) → n ≤ 2 ^ 41
framing_small h n e = cases (h.status == 204 || h.status == 304) e
  where
    cases : (b : Bool) → cond b (Some Empty) (by_encoding h (values (codes "transfer-encoding") h.fields)) ≡ Some (Counted n) → n ≤ 2 ^ 41
    cases true e = absurd (cc)
    cases false e = encoded_small h (values (codes "transfer-encoding") h.fields) n e

-- the length that is told
pub stated_small : (h : Head) (f : Framed) → IsFramedAs h f → IfSome (stated_length h) (λ n. n ≤ 2 ^ 41)
stated_small h framed.Empty is = rw is tt
stated_small h (framed.Counted n) is = rw is (framing_small h n is)
stated_small h (framed.ToEnd part) is = rw is.0 tt
stated_small h (framed.Chunks part) is = rw is.0 tt

-- a head without a transfer coding, of which the status allows a body
pub frames_by_length : (s : ℕ) (fields : List (List ℕ × List ℕ)) (part : Option ℕ) (r : Option Framed) → s ≢ 204 → s ≢ 304 → values (codes "transfer-encoding") fields ≡ []
    → IsFraming (by_length (record { status = s; fields = fields }) (values (codes "content-length") fields)) part r → IsFraming (framing (record { status = s; fields = fields })) part r
frames_by_length s fields part r a b none law = rw (ne_eqb s 204 a, ne_eqb s 304 b, none) law
