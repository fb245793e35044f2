-- The first bad segment of a path, by the offset of its first slash.
use Rattle.std.proofs.Common.{◌≡◌, ℕ, ◌+◌, ◌-◌, ◌≤◌, true, false, List, Some, None, cond, length, take, drop, refl, ap, ◌∙◌, arith}
use Rattle.std.specs.List.{position}
use Rattle.std.proofs.lemmas.List.{length-take-le, length-drop}
use Rattle.acng_base.specs.Paths.{segments, is_slash, is_bad_segment, first_bad}
use Rattle.acng_base.proofs.Cutting.{cut_rest, last_rest}

-- the first bad segment of what follows an offset, where a slash comes next
pub step : (text : List ℕ) (start k : ℕ) → start ≤ length text
    → position is_slash (take (length text - start) (drop start text)) ≡ Some k
    → (start + (k + 1) ≤ length text)
    × (first_bad start (segments (drop start text))
    ≡ cond (is_bad_segment (take k (drop start text))) (Some start) (first_bad (start + (k + 1)) (segments (drop (start + (k + 1)) text))))
step text start k within h =
    let rest = drop start text in
    let more = segments (drop (start + (k + 1)) text) in
    let cut = cut_rest is_slash text start k within h in
    let len : length (take k rest) ≡ k = length-take-le k rest (omega (arith, cut.0, length-drop start text)) in
    let next : (start + length (take k rest)) + 1 ≡ start + (k + 1) = omega (arith, len) in
    (cut.0, ap (first_bad start) cut.1 ∙ ap (λ a. cond (is_bad_segment (take k rest)) (Some start) (first_bad a more)) next)

pub bad : (text : List ℕ) (start k : ℕ) → start ≤ length text
    → position is_slash (take (length text - start) (drop start text)) ≡ Some k
    → is_bad_segment (take k (drop start text)) ≡ true → first_bad start (segments (drop start text)) ≡ Some start
bad text start k within h b = (step text start k within h).1 ∙ rw b refl

pub good : (text : List ℕ) (start k : ℕ) → start ≤ length text
    → position is_slash (take (length text - start) (drop start text)) ≡ Some k → is_bad_segment (take k (drop start text)) ≡ false
    → first_bad start (segments (drop start text)) ≡ first_bad (start + (k + 1)) (segments (drop (start + (k + 1)) text))
good text start k within h b = (step text start k within h).1 ∙ rw b refl

-- and where none comes
pub last : (text : List ℕ) (start : ℕ) → position is_slash (take (length text - start) (drop start text)) ≡ None
    → first_bad start (segments (drop start text)) ≡ cond (is_bad_segment (drop start text)) (Some start) None
last text start h = ap (first_bad start) (last_rest is_slash text start h)

pub last_good : (text : List ℕ) (start : ℕ) → position is_slash (take (length text - start) (drop start text)) ≡ None
    → is_bad_segment (drop start text) ≡ false → first_bad start (segments (drop start text)) ≡ None
last_good text start h b = last text start h ∙ rw b refl
