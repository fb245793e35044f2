-- Lists that are gone through from the front: what is left begins with the row at hand.
use Rattle.std.proofs.Common.{◌≡◌, ℕ, suc, ◌+◌, ◌<◌, ◌≤◌, List, [], ◌∷◌, length, drop, get_or, ap, ◌∙◌, arith}
use Rattle.std.proofs.Math.Seq.{drop-cons, drop-length}

pub row : {A : Type 0} (xs : List A) (i : ℕ) (d : A) → i < length xs → drop i xs ≡ get_or xs i d ∷ drop (i + 1) xs
row xs i d lt =
    let e : suc i ≡ i + 1 = omega arith in
    drop-cons xs i d lt ∙ ap (λ j. get_or xs i d ∷ drop j xs) e

pub no_row : {A : Type 0} (xs : List A) (i : ℕ) → i ≤ length xs → length xs ≤ i → drop i xs ≡ []
no_row xs i within past =
    let all : i ≡ length xs = omega arith in
    ap (λ j. drop j xs) all ∙ drop-length xs
