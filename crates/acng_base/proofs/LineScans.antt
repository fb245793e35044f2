-- A scan from line feed to line feed.
use Rattle.std.proofs.Common.{◌≡◌, ◌==◌, ℕ, ◌+◌, ◌-◌, ◌<◌, ◌≤◌, Bool, true, false, List, [], ◌∷◌, length, take, drop, get_or, Some, None, cond, refl, sym, ap, ◌∙◌, arith}
use Rattle.std.specs.List.{position, position_from, position_or_len}
use Rattle.std.proofs.lemmas.Grind.{common_steps}
use Rattle.std.proofs.lemmas.List.Quantifiers.{position-Some}
use Rattle.std.proofs.lemmas.List.Sums.{position_or_len_is}
use Rattle.std.proofs.Math.Seq.{take-add}
use Rattle.std.proofs.lemmas.List.{take-append-drop, length-take-le, length-drop, get_or-drop, get_or-take}
use Rattle.std.proofs.lemmas.Iterator.Adapters.{position_from-zero}
use borrow.Author.Tests.{eqb-true}
use Rattle.acng_base.specs.declared.block.LineState.{LineState}
use Rattle.acng_base.specs.declared.block.LineState.TheVariants.{Before, BeforeCr, Inside, Between, BetweenCr}
use Rattle.acng_base.specs.Cuts.{is_lf}
use Rattle.acng_base.specs.Lines.{after_byte, block_len, state_after}
use Rattle.acng_base.proofs.Ranges.{rest_is_drop}
use Rattle.acng_base.proofs.Scans.{state_append, scan_more, scan_ends}

-- ---- bytes that are no line feed

-- a text without a line feed begins with another byte, and goes on without one
none_more : (b : ℕ) (bs : List ℕ) (i : ℕ) → position_from is_lf i (b ∷ bs) ≡ None → ((b == 10) ≡ false) × (position_from is_lf (i + 1) bs ≡ None)
none_more b bs i h = cases (b == 10) refl h
  where
    cases : (t : Bool) → (b == 10) ≡ t → cond t (Some i) (position_from is_lf (i + 1) bs) ≡ None → ((b == 10) ≡ false) × (position_from is_lf (i + 1) bs ≡ None)
    cases true e h = cc
    cases false e h = (e, h)

inside_stays : (bs : List ℕ) (i : ℕ) → position_from is_lf i bs ≡ None → state_after Inside bs ≡ Some Inside
inside_stays [] i h = refl
inside_stays (b ∷ bs) i h = let more = none_more b bs i h in rw more.0 (inside_stays bs (i + 1) more.1)

-- two such bytes are inside a line
then_inside : (m : LineState) (b c : ℕ) → (b == 10) ≡ false → (c == 10) ≡ false → (n : LineState) × (after_byte m b ≡ Some n) × (after_byte n c ≡ Some Inside)
then_inside Before b c e f = cases (b == 13) refl
  where
    cases : (t : Bool) → (b == 13) ≡ t → (n : LineState) × (after_byte Before b ≡ Some n) × (after_byte n c ≡ Some Inside)
    cases true g = (BeforeCr, rw (e, g) refl, rw f refl)
    cases false g = (Inside, rw (e, g) refl, rw f refl)
then_inside BeforeCr b c e f = (Inside, rw e refl, rw f refl)
then_inside Inside b c e f = (Inside, rw e refl, rw f refl)
then_inside Between b c e f = cases (b == 13) refl
  where
    cases : (t : Bool) → (b == 13) ≡ t → (n : LineState) × (after_byte Between b ≡ Some n) × (after_byte n c ≡ Some Inside)
    cases true g = (BetweenCr, rw (e, g) refl, rw f refl)
    cases false g = (Inside, rw (e, g) refl, rw f refl)
then_inside BetweenCr b c e f = (Inside, rw e refl, rw f refl)

pub two_inside : (m : LineState) (text : List ℕ) → position is_lf text ≡ None → 2 ≤ length text → state_after m text ≡ Some Inside
two_inside m [] h few = absurd (omega arith)
two_inside m (b ∷ []) h few = absurd (omega arith)
two_inside m (b ∷ c ∷ bs) h few =
    let first = none_more b (c ∷ bs) 0 (sym (position_from-zero is_lf (b ∷ c ∷ bs)) ∙ h) in
    let second = none_more c bs 1 first.1 in
    let two = then_inside m b c first.0 second.0 in
    rw two.1 (rw two.2 (inside_stays bs 2 second.1))

-- ---- a line up to its feed

-- no byte before the first line feed is one
front_none : (text : List ℕ) (k : ℕ) → position is_lf text ≡ Some k → position is_lf (take k text) ≡ None
front_none text k h =
    let at = position-Some is_lf text k 0 h in
    let size = length-take-le k text (omega (arith, at.0)) in
    let none : position_or_len is_lf (take k text) ≡ length (take k text) =
    position_or_len_is is_lf (take k text) (length (take k text)) 0 (omega arith)
    (λ j lt. ap is_lf (get_or-take k text j 0 (omega arith)) ∙ at.2 j (omega arith)) (λ lt. absurd (omega arith)) in
    grind (arith, common_steps)

-- the rest of a text from its lines on, of which the first has k bytes
module _ (part : List ℕ) (start k : ℕ) (h : position is_lf (take (length part - start) (drop start part)) ≡ Some k) where
  rest_line : position is_lf (drop start part) ≡ Some k
  rest_line = ap (position is_lf) (sym (rest_is_drop start part)) ∙ h

  line_here : start + k < length part
  line_here = let at = position-Some is_lf (drop start part) k 0 rest_line in omega (arith, at.0, length-drop start part)

  feed_here : get_or part (start + k) 0 ≡ 10
  feed_here =
      let at = position-Some is_lf (drop start part) k 0 rest_line in
      sym (get_or-drop start part k 0) ∙ eqb-true (get_or (drop start part) k 0) 10 at.1

  pub line_none : position is_lf (take ((start + k) - start) (drop start part)) ≡ None
  line_none = let n : (start + k) - start ≡ k = omega arith in ap (λ n. position is_lf (take n (drop start part))) n ∙ front_none (drop start part) k rest_line

  module _ (m now here : LineState) (before : state_after m (take start part) ≡ Some now)
      (line : state_after now (take ((start + k) - start) (drop start part)) ≡ Some here) where
    at_feed : state_after m (take (start + k) part) ≡ Some here
    at_feed =
        let n : (start + k) - start ≡ k = omega arith in
        ap (state_after m) (take-add start k part) ∙ state_append m now (take start part) (take k (drop start part)) before
        ∙ ap (λ n. state_after now (take n (drop start part))) (sym n) ∙ line

    passed : (next : LineState) → after_byte here 10 ≡ Some next → state_after m (take (start + (k + 1)) part) ≡ Some next
    passed next e =
        let n : start + (k + 1) ≡ (start + k) + 1 = omega arith in
        ap (λ n. state_after m (take n part)) n ∙ scan_more m here next part (start + k) line_here at_feed (ap (after_byte here) feed_here ∙ e)

    pub line_passed : (start + (k + 1) ≤ length part) × ((next : LineState) → after_byte here 10 ≡ Some next → state_after m (take (start + (k + 1)) part) ≡ Some next)
    line_passed = (omega (arith, line_here), passed)

    pub block_ends : after_byte here 10 ≡ None → (block_len m part ≡ Some ((start + k) + 1)) × ((start + k) + 1 ≤ length part)
    block_ends e = (scan_ends m here part (start + k) line_here at_feed (ap (after_byte here) feed_here ∙ e), omega (arith, line_here))

-- the bytes after the last line feed
pub rest_passed : (m now here : LineState) (part : List ℕ) (start : ℕ) → state_after m (take start part) ≡ Some now
    → state_after now (take (length part - start) (drop start part)) ≡ Some here → state_after m part ≡ Some here
rest_passed m now here part start before rest =
    ap (state_after m) (sym (take-append-drop start part)) ∙ state_append m now (take start part) (drop start part) before
    ∙ ap (state_after now) (sym (rest_is_drop start part)) ∙ rest
