-- The block that is read a byte at a time ends where its lines say.
use Rattle.std.proofs.Common.{◌≡◌, ◌==◌, ℕ, ◌+◌, Bool, true, false, List, [], ◌∷◌, Option, Some, None, cond, refl, sym, ap, ◌∙◌, arith, option_map, subst}
use Rattle.httparse.specs.Grammar.{LineEnd, crlf, lf}
use Rattle.acng_base.specs.declared.block.Scan.{Scan}
use Rattle.acng_base.specs.declared.block.Scan.TheVariants.{End, Incomplete}
use Rattle.acng_base.specs.declared.block.LineState.{LineState}
use Rattle.acng_base.specs.declared.block.LineState.TheVariants.{Before, BeforeCr, Inside, Between, BetweenCr}
use Rattle.acng_base.specs.Lines.{lines, with_byte, line_len, through_empty, through_head, head_block_len, section_len, block_len, Scans, FindsEnd}
use Rattle.acng_base.proofs.Scans.{goes_on}

abbrev Lines : Type 0
Lines = List (List ℕ × LineEnd)

abbrev more : Option ℕ → Option ℕ
more o = option_map (λ k. 1 + k) o

-- the rest of a block whose first line isn't empty, whatever of that line has come
abbrev inside_len : Lines → Option ℕ
inside_len [] = None
inside_len (l ∷ ls) = option_map (λ n. line_len l + n) (through_empty ls)

shift : (a b : ℕ) (o : Option ℕ) → b ≡ 1 + a → option_map (λ k. b + k) o ≡ more (option_map (λ k. a + k) o)
shift a b None e = refl
shift a b (Some n) e = ap Some (omega arith)

-- one more byte of the first line
inside_with : (b : ℕ) (ls : Lines) → inside_len (with_byte b ls) ≡ more (inside_len ls)
inside_with b [] = refl
inside_with b (([], lf) ∷ ls) = cases (b == 13)
  where
    cases : (t : Bool) → inside_len (cond t (([], crlf) ∷ ls) ((b ∷ [], lf) ∷ ls)) ≡ more (inside_len (([], lf) ∷ ls))
    cases true = shift 1 2 (through_empty ls) refl
    cases false = shift 1 2 (through_empty ls) refl
inside_with b (([], crlf) ∷ ls) = shift 2 3 (through_empty ls) refl
inside_with b ((c ∷ line, e) ∷ ls) = shift (line_len (c ∷ line, e)) (line_len (b ∷ c ∷ line, e)) (through_empty ls) (omega arith)

-- a line that such a byte begins isn't empty, and nor is one of a carriage return and another byte
solid : (b : ℕ) (ls : Lines) → (b == 13) ≡ false → (through_empty (with_byte b ls) ≡ inside_len (with_byte b ls)) × (through_head (with_byte b ls) ≡ inside_len (with_byte b ls))
solid b [] h = (refl, refl)
solid b (([], lf) ∷ ls) h = rw h (refl, refl)
solid b (([], crlf) ∷ ls) h = (refl, refl)
solid b ((c ∷ line, e) ∷ ls) h = (refl, refl)

solid_cr : (c : ℕ) (ls : Lines) → (through_empty (with_byte 13 (with_byte c ls)) ≡ inside_len (with_byte 13 (with_byte c ls))) × (through_head (with_byte 13 (with_byte c ls)) ≡ inside_len (with_byte 13 (with_byte c ls)))
solid_cr c [] = (refl, refl)
solid_cr c (([], lf) ∷ ls) = cases (c == 13)
  where
    cases : (t : Bool) → let first = cond t (([], crlf) ∷ ls) ((c ∷ [], lf) ∷ ls) in (through_empty (with_byte 13 first) ≡ inside_len (with_byte 13 first)) × (through_head (with_byte 13 first) ≡ inside_len (with_byte 13 first))
    cases true = (refl, refl)
    cases false = (refl, refl)
solid_cr c (([], crlf) ∷ ls) = (refl, refl)
solid_cr c ((d ∷ line, e) ∷ ls) = (refl, refl)

-- behind a carriage return that stands first on its line
cr_between : (bs : List ℕ) → block_len Inside bs ≡ inside_len (lines bs) → more (block_len BetweenCr bs) ≡ through_empty (with_byte 13 (lines bs))
cr_between [] h = refl
cr_between (c ∷ cs) h = cases (c == 10) refl
  where
    cases : (t : Bool) → (c == 10) ≡ t → more (block_len BetweenCr (c ∷ cs)) ≡ through_empty (with_byte 13 (lines (c ∷ cs)))
    cases true e = rw e refl
    cases false e =
        let same : block_len BetweenCr (c ∷ cs) ≡ block_len Inside (c ∷ cs) = rw e refl in
        let later : through_empty (with_byte 13 (lines (c ∷ cs))) ≡ inside_len (with_byte 13 (lines (c ∷ cs))) = rw e (solid_cr c (lines cs)).0 in
        ap more (same ∙ h) ∙ sym (inside_with 13 (lines (c ∷ cs))) ∙ sym later

cr_before : (bs : List ℕ) → block_len Inside bs ≡ inside_len (lines bs) → ((c : ℕ) (cs : List ℕ) → bs ≡ c ∷ cs → block_len Before cs ≡ through_head (lines cs))
    → more (block_len BeforeCr bs) ≡ through_head (with_byte 13 (lines bs))
cr_before [] h again = refl
cr_before (c ∷ cs) h again = cases (c == 10) refl
  where
    twice : (o : Option ℕ) → more (more o) ≡ option_map (λ k. 2 + k) o
    twice None = refl
    twice (Some k) = ap Some (omega arith)

    cases : (t : Bool) → (c == 10) ≡ t → more (block_len BeforeCr (c ∷ cs)) ≡ through_head (with_byte 13 (lines (c ∷ cs)))
    cases true e = rw (e, again c cs refl) (twice (through_head (lines cs)))
    cases false e =
        let same : block_len BeforeCr (c ∷ cs) ≡ block_len Inside (c ∷ cs) = rw e refl in
        let later : through_head (with_byte 13 (lines (c ∷ cs))) ≡ inside_len (with_byte 13 (lines (c ∷ cs))) = rw e (solid_cr c (lines cs)).1 in
        ap more (same ∙ h) ∙ sym (inside_with 13 (lines (c ∷ cs))) ∙ sym later

-- inside a line, and between two lines
pub inside_and_between : (bs : List ℕ) → (block_len Inside bs ≡ inside_len (lines bs)) × (block_len Between bs ≡ through_empty (lines bs))
inside_and_between [] = (refl, refl)
inside_and_between (b ∷ bs) = let again = inside_and_between bs in (inside (b == 10) again refl, between (b == 10) (b == 13) again refl refl)
  where
    inside : (t : Bool) → (block_len Inside bs ≡ inside_len (lines bs)) × (block_len Between bs ≡ through_empty (lines bs)) → (b == 10) ≡ t → block_len Inside (b ∷ bs) ≡ inside_len (lines (b ∷ bs))
    inside true again e = rw (e, again.1) refl
    inside false again e = rw (e, again.0) (sym (inside_with b (lines bs)))

    between : (t u : Bool) → (block_len Inside bs ≡ inside_len (lines bs)) × (block_len Between bs ≡ through_empty (lines bs)) → (b == 10) ≡ t → (b == 13) ≡ u → block_len Between (b ∷ bs) ≡ through_empty (lines (b ∷ bs))
    between true u again e f = rw e refl
    between false true again e f =
        let is : b ≡ 13 = grind arith in
        rw (e, f) (cr_between bs again.0 ∙ ap (λ c. through_empty (with_byte c (lines bs))) (sym is))
    between false false again e f = rw (e, f) (ap more again.0 ∙ sym (inside_with b (lines bs)) ∙ sym (solid b (lines bs) f).0)

-- at the start of a head
pub before : (bs : List ℕ) → block_len Before bs ≡ through_head (lines bs)
before [] = refl
before (b ∷ []) = one (b == 10) (b == 13) refl refl
  where
    one : (t u : Bool) → (b == 10) ≡ t → (b == 13) ≡ u → block_len Before (b ∷ []) ≡ through_head (lines (b ∷ []))
    one true u e f = rw e refl
    one false true e f = rw (e, f) refl
    one false false e f = rw (e, f) refl
before (b ∷ c ∷ cs) = cases (b == 10) (b == 13) (before (c ∷ cs)) (before cs) refl refl
  where
    tail : block_len Before cs ≡ through_head (lines cs) → (d : ℕ) (ds : List ℕ) → c ∷ cs ≡ d ∷ ds → block_len Before ds ≡ through_head (lines ds)
    tail again d ds e = let same : cs ≡ ds = cc in subst (λ t. block_len Before t ≡ through_head (lines t)) same again

    cases : (t u : Bool) → block_len Before (c ∷ cs) ≡ through_head (lines (c ∷ cs)) → block_len Before cs ≡ through_head (lines cs)
        → (b == 10) ≡ t → (b == 13) ≡ u → block_len Before (b ∷ c ∷ cs) ≡ through_head (lines (b ∷ c ∷ cs))
    cases true u next after e f = rw (e, next) refl
    cases false true next after e f =
        let is : b ≡ 13 = grind arith in
        rw (e, f) (cr_before (c ∷ cs) (inside_and_between (c ∷ cs)).0 (tail after) ∙ ap (λ d. through_head (with_byte d (lines (c ∷ cs)))) (sym is))
    cases false false next after e f = rw (e, f) (ap more (inside_and_between (c ∷ cs)).0 ∙ sym (inside_with b (lines (c ∷ cs))) ∙ sym (solid b (lines (c ∷ cs)) f).1)

pub section_found : (text : List ℕ) (found : Scan) → Scans Between text found → FindsEnd (section_len text) found
section_found text (End n) h = sym (inside_and_between text).1 ∙ h.0
section_found text (Incomplete state) h = sym (inside_and_between text).1 ∙ goes_on Between state text h

pub head_found : (text : List ℕ) (found : Scan) → Scans Before text found → FindsEnd (head_block_len text) found
head_found text (End n) h = sym (before text) ∙ h.0
head_found text (Incomplete state) h = sym (before text) ∙ goes_on Before state text h

pub section_from : (state : LineState) (text : List ℕ) (found : Scan) → Scans state text found → state ≡ Between → FindsEnd (section_len text) found
section_from state text found h is = section_found text found (subst (λ s. Scans s text found) is h)

pub head_from : (state : LineState) (text : List ℕ) (found : Scan) → Scans state text found → state ≡ Before → FindsEnd (head_block_len text) found
head_from state text found h is = head_found text found (subst (λ s. Scans s text found) is h)
