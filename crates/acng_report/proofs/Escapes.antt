-- A text within HTML, piece by piece: what needs no escape, the byte that needs one, and the rest.
use Rattle.std.proofs.Common.{◌≡◌, ◌==◌, ◌||◌, codes, ℕ, zero, suc, ◌+◌, ◌-◌, ◌<◌, ◌≤◌, Bool, true, false, List, [], ◌∷◌, ◌++◌, Some, None, cond, get_or, length, take, drop, refl, sym, ap, ◌∙◌, arith}
use Rattle.std.specs.List.{position, position_from}
use Rattle.std.proofs.Math.Seq.{drop-cons}
use Rattle.std.proofs.lemmas.Grind.{common_steps}
use Rattle.std.proofs.lemmas.List.{drop-drop, length-drop}
use Rattle.std.proofs.lemmas.List.Quantifiers.{position-Some}
use Rattle.std.proofs.lemmas.Iterator.Adapters.{position_from-zero}
use Rattle.acng_base.proofs.Ranges.{rest_is_drop}
use Rattle.acng_report.specs.Pages.{ampersand, less_than, greater_than, is_escaped, escaped_byte, escaped}

stays : (b : ℕ) → is_escaped b ≡ false → escaped_byte b ≡ b ∷ []
stays b h = cases (b == ampersand) (b == less_than) (b == greater_than) h
  where
    cases : (a l g : Bool) → (a || l || g) ≡ false
        → cond a (codes "&amp;") (cond l (codes "&lt;") (cond g (codes "&gt;") (b ∷ []))) ≡ b ∷ []
    cases true l g h = cc
    cases false true g h = cc
    cases false false true h = cc
    cases false false false h = refl

-- up to such a byte
front_stays : (bs : List ℕ) (k : ℕ) → k ≤ length bs → ((j : ℕ) → j < k → is_escaped (get_or bs j 0) ≡ false)
    → escaped bs ≡ take k bs ++ escaped (drop k bs)
front_stays bs zero within h = refl
front_stays [] (suc k) within h = absurd (omega arith)
front_stays (b ∷ bs) (suc k) within h =
    ap (λ t. t ++ escaped bs) (stays b (h zero (omega arith)))
    ∙ ap (λ t. b ∷ t) (front_stays bs k (omega arith) (λ j lt. h (suc j) (omega arith)))

at_rest : (text : List ℕ) (start k : ℕ) → get_or (drop start text) k 0 ≡ get_or text (start + k) 0
at_rest text start k = grind (arith, common_steps)

-- the next byte that is escaped comes k bytes after a place
pub escaped_step : (text : List ℕ) (start k : ℕ) → start ≤ length text
    → position is_escaped (take (length text - start) (drop start text)) ≡ Some k
    → (start + (k + 1) ≤ length text) × (is_escaped (get_or text (start + k) 0) ≡ true)
    × (escaped (drop start text)
    ≡ take k (drop start text) ++ (escaped_byte (get_or text (start + k) 0) ++ escaped (drop (start + (k + 1)) text)))
escaped_step text start k within h =
    let rest = drop start text in
    let found = position-Some is_escaped rest k 0 (ap (position is_escaped) (sym (rest_is_drop start text)) ∙ h) in
    let size = length-drop start text in
    let here = at_rest text start k in
    let next : suc k ≡ k + 1 = omega arith in
    let after : drop (suc k) rest ≡ drop (start + (k + 1)) text = ap (λ j. drop j rest) next ∙ drop-drop (k + 1) start text in
    let cut : drop k rest ≡ get_or text (start + k) 0 ∷ drop (start + (k + 1)) text =
    drop-cons rest k 0 found.0 ∙ ap (λ b. b ∷ drop (suc k) rest) here ∙ ap (λ t. get_or text (start + k) 0 ∷ t) after in (
      omega (arith, found.0),
      ap is_escaped (sym here) ∙ found.1,
      front_stays rest k (omega (arith, found.0)) found.2 ∙ ap (λ t. take k rest ++ escaped t) cut,
    )

none_from : (bs : List ℕ) (i : ℕ) → position_from is_escaped i bs ≡ None → escaped bs ≡ bs
none_from [] i h = refl
none_from (b ∷ bs) i h = cases (is_escaped b) refl h (none_from bs (i + 1))
  where
    cases : (t : Bool) → is_escaped b ≡ t → cond t (Some i) (position_from is_escaped (i + 1) bs) ≡ None
        → (position_from is_escaped (i + 1) bs ≡ None → escaped bs ≡ bs) → escaped (b ∷ bs) ≡ b ∷ bs
    cases true e h more = cc
    cases false e h more = ap (λ t. t ++ escaped bs) (stays b e) ∙ ap (λ t. b ∷ t) (more h)

-- no byte after a place is escaped
pub escaped_last : (text : List ℕ) (start : ℕ) → position is_escaped (take (length text - start) (drop start text)) ≡ None
    → escaped (drop start text) ≡ drop start text
escaped_last text start h =
    none_from (drop start text) 0
    (sym (position_from-zero is_escaped (drop start text)) ∙ ap (position is_escaped) (sym (rest_is_drop start text)) ∙ h)
