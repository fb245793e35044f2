-- A text that is read piece by piece from its front.
use Rattle.std.proofs.Common.{◌≡◌, ◌+◌, ◌≤◌, ℕ, List, ◌++◌, length, take, drop, ap, sym, ◌∙◌, arith, length-append, length-take}
use Rattle.std.proofs.Math.Seq.{take-add, take-length}

-- one more piece
pub piece_more : (all text piece : List ℕ) (n : ℕ) → text ≡ take (length text) all → n ≤ length piece
    → take n piece ≡ take n (drop (length text) all) → text ++ take n piece ≡ take (length (text ++ take n piece)) all
piece_more all text piece n front few is =
    let size : length (text ++ take n piece) ≡ length text + n =
    (let e = length-append text (take n piece) in let m = length-take n piece in omega arith) in
    ap (λ xs. xs ++ take n piece) front ∙ ap (λ xs. take (length text) all ++ xs) is
    ∙ sym (take-add (length text) n all) ∙ ap (λ m. take m all) (sym size)

pub piece_size : (text piece : List ℕ) (n : ℕ) → n ≤ length piece → length (text ++ take n piece) ≡ length text + n
piece_size text piece n few = let e = length-append text (take n piece) in let m = length-take n piece in omega arith

-- no more is to come
pub piece_all : (all text : List ℕ) → text ≡ take (length text) all → length text ≡ length all → text ≡ all
piece_all all text front e = front ∙ ap (λ m. take m all) e ∙ take-length all
