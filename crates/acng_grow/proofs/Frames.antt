-- A chunk in a frame.
use Rattle.std.proofs.Common.{◌≡◌, ℕ, suc, ◌+◌, ◌≤◌, ◌<◌, List, [], ◌∷◌, ◌++◌, take, drop, length, set, min, sym, ap, subst, ◌∙◌}
use Rattle.std.proofs.Common.{arith, length-set, length-take, length-drop}
use Rattle.std.proofs.Math.Seq.{take-add, take-length, take-suc-set}
use Rattle.std.proofs.lemmas.List.{append_assoc, drop-append-le}
use Rattle.acng_grow.specs.Sends.{chunk, long_line, size_line, zeros}

-- after the line, the piece and the two bytes behind it were written, the frame begins with them
written : (frame line : List ℕ) (count : ℕ) → 20 + count ≤ length frame → take 18 frame ≡ line
    → take (20 + count) (set (set frame (18 + count) 13) (18 + count + 1) 10) ≡ line ++ (take count (drop 18 frame) ++ 13 ∷ 10 ∷ [])
written frame line count room front =
    let one = set frame (18 + count) 13 in
    let low : 18 + count < length frame = omega arith in
    let l : length one ≡ length frame = length-set frame (18 + count) 13 in
    let low' : 18 + count + 1 < length one = omega (arith, l) in
    let e : 20 + count ≡ suc (18 + count + 1) = omega arith in
    let e' : 18 + count + 1 ≡ suc (18 + count) = omega arith in
    ap (λ n. take n (set one (18 + count + 1) 10)) e
    ∙ take-suc-set one (18 + count + 1) 10 low'
    ∙ ap (λ n. take n one ++ 10 ∷ []) e'
    ∙ ap (λ t. t ++ 10 ∷ []) (take-suc-set frame (18 + count) 13 low)
    ∙ ap (λ t. (t ++ 13 ∷ []) ++ 10 ∷ []) (take-add 18 count frame ∙ ap (λ t. t ++ take count (drop 18 frame)) front)
    ∙ append_assoc (line ++ take count (drop 18 frame)) (13 ∷ []) (10 ∷ [])
    ∙ append_assoc line (take count (drop 18 frame)) (13 ∷ 10 ∷ [])

pub framed_chunk : (old frame : List ℕ) (count start : ℕ) → 20 + count ≤ length frame → take 18 frame ≡ long_line count
    → drop 18 frame ≡ drop 18 old
    → length (long_line count) ≡ 18 → length (take count (drop 18 old)) ≡ count → start ≡ zeros (long_line count) → start ≤ 15
    → drop start (take (20 + count) (set (set frame (18 + count) 13) (18 + count + 1) 10)) ≡ chunk (take count (drop 18 old))
framed_chunk old frame count start room front rest len long is few =
    let line = long_line count in
    let piece = take count (drop 18 old) in
    let low : start ≤ length line = omega (arith, len, few) in
    let size : drop start line ≡ size_line (length piece) =
    ap (λ n. drop n line) is ∙ ap (λ n. drop (zeros (long_line n)) (long_line n)) (sym long) in
    ap (drop start) (written frame line count room front ∙ ap (λ t. line ++ (take count t ++ 13 ∷ 10 ∷ [])) rest)
    ∙ drop-append-le start line (piece ++ 13 ∷ 10 ∷ []) low
    ∙ ap (λ t. t ++ (piece ++ 13 ∷ 10 ∷ [])) size

pub chunk_written : (old frame line : List ℕ) (r count start : ℕ) → 20 + count ≤ length old → length frame ≡ length old → length line ≡ 18
    → line ≡ long_line count → r ≡ min (length line) (length frame) → take r frame ≡ take r line → drop r frame ≡ drop r old
    → start ≡ zeros line → start ≤ 15
    → drop start (take (20 + count) (set (set frame (18 + count) 13) (18 + count + 1) 10)) ≡ chunk (take count (drop 18 old))
chunk_written old frame line r count start room same len is copied front rest begins few =
    let all : r ≡ 18 = omega arith in
    let room' : 20 + count ≤ length frame = omega arith in
    let t = length-take count (drop 18 old) in
    let d = length-drop 18 old in
    let front' : take 18 frame ≡ long_line count =
    subst (λ n. take n frame ≡ take n line) all front ∙ ap (λ n. take n line) (sym len) ∙ take-length line ∙ is in
    framed_chunk old frame count start room' front' (subst (λ n. drop n frame ≡ drop n old) all rest) (sym (ap length is) ∙ len)
    (omega (arith, t, d, room)) (begins ∙ ap zeros is) few
