-- A front of a list with one more element.
use Rattle.std.proofs.Common.{◌≡◌, ℕ, suc, ◌+◌, ◌<◌, true, List, [], ◌∷◌, ◌++◌, length, take, map, get_or, refl, sym, ap, ◌∙◌, arith}
use Rattle.std.proofs.Math.Seq.{take-suc}
use Rattle.std.proofs.lemmas.List.{map-append}
use Rattle.std.proofs.lemmas.List.Folds.{list_any_at}
use Rattle.std.proofs.lemmas.Slice.Eq.{bytes_eq-Decides}
use Rattle.acng_reach.specs.Sets.{same, among}

pub front_push : {A : Type 0} (xs : List A) (i : ℕ) (x : A) → i < length xs → x ≡ get_or xs i x → take (i + 1) xs ≡ take i xs ++ x ∷ []
front_push xs i x lt is =
    let e : suc i ≡ i + 1 = omega arith in
    ap (λ j. take j xs) (sym e) ∙ take-suc xs i x lt ∙ ap (λ y. take i xs ++ y ∷ []) (sym is)

pub map_push : {A B : Type 0} (f : A → B) (xs : List A) (i : ℕ) (x : A) → i < length xs → x ≡ get_or xs i x
    → map f (take (i + 1) xs) ≡ map f (take i xs) ++ f x ∷ []
map_push f xs i x lt is = ap (map f) (front_push xs i x lt is) ∙ map-append f (take i xs) (x ∷ [])

pub among_itself : (p : List ℕ) → same p p ≡ true
among_itself p = (bytes_eq-Decides p p).1 refl

pub among_at : (p : List ℕ) (ps : List (List ℕ)) (i : ℕ) → i < length ps → p ≡ get_or ps i p → among p ps ≡ true
among_at p ps i lt is = list_any_at (same p) ps i p lt (ap (same p) (sym is) ∙ among_itself p)
