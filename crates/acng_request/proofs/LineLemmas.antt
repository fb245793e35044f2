-- The next line of a text, by the place of its line feed.
use Rattle.std.proofs.Common.{◌≡◌, ◌==◌, ℕ, zero, suc, ◌+◌, ◌-◌, ◌<◌, ◌≤◌, Bool, true, false, List, [], ◌∷◌, length, take, drop, Option, Some, None, cond, refl, ap, sym, ◌∙◌, arith}
use Rattle.std.specs.List.{position, position_from}
use Rattle.std.proofs.lemmas.List.{drop-drop, length-drop}
use Rattle.std.proofs.lemmas.Bool.{eqb-true}
use Rattle.std.proofs.lemmas.Iterator.Adapters.{position_from-zero}
use Rattle.httparse.specs.Grammar.{LineEnd, crlf, lf}
use Rattle.acng_base.specs.Cuts.{is_cr, is_lf, is_empty, without_cr}
use Rattle.acng_base.specs.Lines.{lines, with_byte}
use Rattle.acng_base.proofs.Ranges.{rest_is_drop}
use Rattle.acng_request.specs.RequestHeads.{before_empty, inner_lines}

-- a line without its end, and its end
abbrev line_of : List ℕ → List ℕ × LineEnd
line_of [] = ([], lf)
line_of (b ∷ []) = cond (is_cr b) ([], crlf) (b ∷ [], lf)
line_of (b ∷ c ∷ bs) = let rest = line_of (c ∷ bs) in (b ∷ rest.0, rest.1)

line_text : (l : List ℕ) → (line_of l).0 ≡ without_cr l
line_text [] = refl
line_text (b ∷ []) = cases (is_cr b) refl
  where
    cases : (t : Bool) → is_cr b ≡ t → (line_of (b ∷ [])).0 ≡ without_cr (b ∷ [])
    cases true e = rw e refl
    cases false e = rw e refl
line_text (b ∷ c ∷ bs) = ap (λ t. b ∷ t) (line_text (c ∷ bs))

-- a byte before a line
before_line : (b : ℕ) (l : List ℕ) (ls : List (List ℕ × LineEnd)) → with_byte b (line_of l ∷ ls) ≡ line_of (b ∷ l) ∷ ls
before_line b [] ls = cases (is_cr b) refl
  where
    cases : (t : Bool) → is_cr b ≡ t → with_byte b (([], lf) ∷ ls) ≡ line_of (b ∷ []) ∷ ls
    cases true e = rw e refl
    cases false e = rw e refl
before_line b (c ∷ []) ls = cases (is_cr c) refl
  where
    cases : (t : Bool) → is_cr c ≡ t → with_byte b (line_of (c ∷ []) ∷ ls) ≡ line_of (b ∷ c ∷ []) ∷ ls
    cases true e = rw e refl
    cases false e = rw e refl
before_line b (c ∷ d ∷ l) ls = refl

-- the first line feed ends the first line; without one there is no line
abbrev Cut : List ℕ → ℕ → Option ℕ → Type 0
Cut text i None = lines text ≡ []
Cut text i (Some j) = (k : ℕ) × (j ≡ i + k) × (k < length text) × (lines text ≡ line_of (take k text) ∷ lines (drop (suc k) text))

cut_from : (text : List ℕ) (i : ℕ) → Cut text i (position_from is_lf i text)
cut_from [] i = refl
cut_from (b ∷ bs) i = cases (is_lf b) refl (cut_from bs (i + 1))
  where
    after : (o : Option ℕ) → is_lf b ≡ false → Cut bs (i + 1) o → Cut (b ∷ bs) i o
    after None e h = rw (e, h) refl
    after (Some j) e h = (suc h.0, omega (arith, h.1), omega (arith, h.2), rw (e, h.3) (before_line b (take h.0 bs) (lines (drop (suc h.0) bs))))

    cases : (t : Bool) → is_lf b ≡ t → Cut bs (i + 1) (position_from is_lf (i + 1) bs) → Cut (b ∷ bs) i (cond (is_lf b) (Some i) (position_from is_lf (i + 1) bs))
    cases true e again = rw e (zero, omega arith, omega arith, rw e refl)
    cases false e again = rw e (after (position_from is_lf (i + 1) bs) e again)

cut : (text : List ℕ) (o : Option ℕ) → position is_lf text ≡ o → Cut text 0 o
cut text o h = rw (sym h, position_from-zero is_lf text) (cut_from text 0)

-- the line that begins at a place, where a line feed comes
pub lines_step : (text : List ℕ) (start k : ℕ) → start ≤ length text → position is_lf (take (length text - start) (drop start text)) ≡ Some k
    → (start + (k + 1) ≤ length text) × (lines (drop start text) ≡ line_of (take k (drop start text)) ∷ lines (drop (start + (k + 1)) text))
lines_step text start k within h =
    let c = cut (drop start text) (Some k) (ap (position is_lf) (sym (rest_is_drop start text)) ∙ h) in
    let size = length-drop start text in
    let same : c.0 ≡ k = omega (arith, c.1) in
    let less : k < length (drop start text) = omega (arith, c.2, same) in
    let place : start + suc c.0 ≡ start + (k + 1) = omega (arith, same) in
    let rest : drop (suc c.0) (drop start text) ≡ drop (start + (k + 1)) text = drop-drop (suc c.0) start text ∙ ap (λ n. drop n text) place in
    (omega (arith, less, size), c.3 ∙ ap (λ n. line_of (take n (drop start text)) ∷ lines (drop (suc c.0) (drop start text))) same ∙ ap (λ t. line_of (take k (drop start text)) ∷ lines t) rest)

-- and where none does
pub lines_last : (text : List ℕ) (start : ℕ) → position is_lf (take (length text - start) (drop start text)) ≡ None → lines (drop start text) ≡ []
lines_last text start h = cut (drop start text) None (ap (position is_lf) (sym (rest_is_drop start text)) ∙ h)

-- ---- lines that are counted

not_empty : (n : ℕ) → (suc n == 0) ≡ true → ⊥
not_empty n h = let z : suc n ≡ 0 = eqb-true (suc n) 0 h in omega arith

inner_empty : (l : List ℕ) (e : LineEnd) (ls : List (List ℕ × LineEnd)) → is_empty l ≡ true → inner_lines ((l, e) ∷ ls) ≡ inner_lines ls
inner_empty [] e ls h = refl
inner_empty (b ∷ l) e ls h = absurd (not_empty (length l) h)

inner_some : (l : List ℕ) (e : LineEnd) (ls : List (List ℕ × LineEnd)) → is_empty l ≡ false → inner_lines ((l, e) ∷ ls) ≡ before_empty ls
inner_some [] e ls h = absurd (cc)
inner_some (b ∷ l) e ls h = refl

before_none : (l : List ℕ) (e : LineEnd) (ls : List (List ℕ × LineEnd)) → is_empty l ≡ true → before_empty ((l, e) ∷ ls) ≡ 0
before_none [] e ls h = refl
before_none (b ∷ l) e ls h = absurd (not_empty (length l) h)

before_some : (l : List ℕ) (e : LineEnd) (ls : List (List ℕ × LineEnd)) → is_empty l ≡ false → before_empty ((l, e) ∷ ls) ≡ suc (before_empty ls)
before_some [] e ls h = absurd (cc)
before_some (b ∷ l) e ls h = refl

-- the line at hand, of n bytes at a place, as the code cuts it
abbrev line_at : List ℕ → ℕ → ℕ → List ℕ
line_at text start k = take ((start + k) - start) (drop start text)

line_at_is : (text : List ℕ) (start k : ℕ) → (line_of (take k (drop start text))).0 ≡ without_cr (line_at text start k)
line_at_is text start k =
    let e : k ≡ (start + k) - start = omega arith in
    line_text (take k (drop start text)) ∙ ap (λ n. without_cr (take n (drop start text))) e

abbrev pub at_empty : List ℕ → ℕ → ℕ → Bool
at_empty text start k = is_empty (without_cr (line_at text start k))

module _ (text : List ℕ) (start k : ℕ) (within : start ≤ length text) (found : position is_lf (take (length text - start) (drop start text)) ≡ Some k) where
  tested : (b : Bool) → at_empty text start k ≡ b → is_empty (line_of (take k (drop start text))).0 ≡ b
  tested b h = ap is_empty (line_at_is text start k) ∙ h

  abbrev rest : List (List ℕ × LineEnd)
  rest = lines (drop (start + (k + 1)) text)

  pub inner_skips : at_empty text start k ≡ true → inner_lines (lines (drop start text)) ≡ inner_lines rest
  inner_skips h = ap inner_lines (lines_step text start k within found).1 ∙ inner_empty (line_of (take k (drop start text))).0 (line_of (take k (drop start text))).1 rest (tested true h)

  pub inner_stops : at_empty text start k ≡ false → inner_lines (lines (drop start text)) ≡ before_empty rest
  inner_stops h = ap inner_lines (lines_step text start k within found).1 ∙ inner_some (line_of (take k (drop start text))).0 (line_of (take k (drop start text))).1 rest (tested false h)

  pub before_stops : at_empty text start k ≡ true → before_empty (lines (drop start text)) ≡ 0
  before_stops h = ap before_empty (lines_step text start k within found).1 ∙ before_none (line_of (take k (drop start text))).0 (line_of (take k (drop start text))).1 rest (tested true h)

  pub before_counts : at_empty text start k ≡ false → before_empty (lines (drop start text)) ≡ suc (before_empty rest)
  before_counts h = ap before_empty (lines_step text start k within found).1 ∙ before_some (line_of (take k (drop start text))).0 (line_of (take k (drop start text))).1 rest (tested false h)
