-- A part of a buffer that a reader uses from its front.
use Rattle.std.proofs.Common.{◌≡◌, ℕ, zero, suc, ◌+◌, ◌-◌, ◌≤◌, List, [], ◌∷◌, length, take, drop, slice_range, sym, ap, ◌∙◌, arith}
use Rattle.std.proofs.lemmas.List.{take_all, take-take, drop-drop, length-take, length-drop}

pub drop_take : (used n : ℕ) (xs : List ℕ) → drop used (take n xs) ≡ take (n - used) (drop used xs)
drop_take zero n xs = let e : n ≡ n - 0 = omega arith in ap (λ j. take j xs) e
drop_take (suc u) zero xs = let e : 0 ≡ 0 - suc u = omega arith in ap (λ j. take j (drop (suc u) xs)) e
drop_take (suc u) (suc n) [] = sym (take_all (suc n - suc u) [] (omega arith))
drop_take (suc u) (suc n) (x ∷ xs) = let e : n - u ≡ suc n - suc u = omega arith in drop_take u n xs ∙ ap (λ j. take j (drop u xs)) e

-- what is left of the part after some bytes of it are used
pub left_over : (buf : List ℕ) (from to used : ℕ) → drop used (slice_range buf from to) ≡ slice_range buf (from + used) to
left_over buf from to used =
    let count : (to - from) - used ≡ to - (from + used) = omega arith in
    drop_take used (to - from) (drop from buf) ∙ ap (λ t. take ((to - from) - used) t) (drop-drop used from buf)
    ∙ ap (λ j. take j (drop (from + used) buf)) count

-- a part of the part
pub part_of : (buf : List ℕ) (from to start stop : ℕ) → stop ≤ to - from
    → slice_range (slice_range buf from to) start stop ≡ slice_range buf (from + start) (from + stop)
part_of buf from to start stop h =
    let count : stop - start ≡ (from + stop) - (from + start) = omega arith in
    ap (take (stop - start)) (drop_take start (to - from) (drop from buf) ∙ ap (take ((to - from) - start)) (drop-drop start from buf))
    ∙ take-take (stop - start) ((to - from) - start) (drop (from + start) buf) (omega arith)
    ∙ ap (λ j. take j (drop (from + start) buf)) count

-- how many bytes it has
pub length-slice_range : (buf : List ℕ) (from to : ℕ) → to ≤ length buf → length (slice_range buf from to) ≡ to - from
length-slice_range buf from to h = let a = length-take (to - from) (drop from buf) in let b = length-drop from buf in omega arith
