-- The lines of an import, one after the other.
use Rattle.std.proofs.Common.{◌≡◌, ℕ, zero, suc, ◌+◌, ◌<◌, List, [], ◌∷◌, ◌++◌, length, take, get_or, Some, unwrap_or, refl, sym, ap, ◌∙◌, arith}
use Rattle.std.specs.List.{slice_get}
use Rattle.acng_import.specs.declared.ending.FileEnd.{FileEnd}
use Rattle.acng_import.specs.Printed.{line, lines}

append_none : (xs : List ℕ) → xs ++ [] ≡ xs
append_none [] = refl
append_none (x ∷ xs) = ap (λ ys. x ∷ ys) (append_none xs)

pub append_both : (xs ys zs : List ℕ) → (xs ++ ys) ++ zs ≡ xs ++ (ys ++ zs)
append_both [] ys zs = refl
append_both (x ∷ xs) ys zs = ap (λ ws. x ∷ ws) (append_both xs ys zs)

next_line : (es : List FileEnd) (ns : List (List ℕ)) (i : ℕ) (e : FileEnd) (n : List ℕ) → i < length es → i < length ns
    → slice_get es i ≡ Some e → n ≡ get_or ns i [] → lines (take (suc i) es) ns ≡ lines (take i es) ns ++ line e n
next_line [] ns i e n le ln at is = absurd (omega arith)
next_line (x ∷ es) [] i e n le ln at is = absurd (omega arith)
next_line (x ∷ es) (y ∷ ns) zero e n le ln at is =
    let same : x ≡ e = ap (λ o. unwrap_or o x) at in
    append_none (line x y) ∙ ap (λ z. line z y) same ∙ ap (line e) (sym is)
next_line (x ∷ es) (y ∷ ns) (suc i) e n le ln at is =
    ap (λ more. line x y ++ more) (next_line es ns i e n (omega arith) (omega arith) at is)
    ∙ sym (append_both (line x y) (lines (take i es) ns) (line e n))

-- one more line
pub lines_more : (es : List FileEnd) (ns : List (List ℕ)) (i : ℕ) (e : FileEnd) (n : List ℕ) → i < length es → i < length ns
    → slice_get es i ≡ Some e → n ≡ get_or ns i [] → lines (take (i + 1) es) ns ≡ lines (take i es) ns ++ line e n
lines_more es ns i e n le ln at is =
    let one : i + 1 ≡ suc i = omega arith in ap (λ k. lines (take k es) ns) one ∙ next_line es ns i e n le ln at is

-- none is left
pub lines_all : (es : List FileEnd) (ns : List (List ℕ)) (i : ℕ) → (i < length es → i < length ns → ⊥) → lines (take i es) ns ≡ lines es ns
lines_all [] ns zero more = refl
lines_all [] ns (suc i) more = refl
lines_all (x ∷ es) [] zero more = refl
lines_all (x ∷ es) [] (suc i) more = refl
lines_all (x ∷ es) (y ∷ ns) zero more = absurd (more (omega arith) (omega arith))
lines_all (x ∷ es) (y ∷ ns) (suc i) more =
    ap (λ rest. line x y ++ rest) (lines_all es ns i (λ le ln. more (omega (arith, le)) (omega (arith, ln))))
