-- Two texts in a row.
use Rattle.std.proofs.Common.{◌≡◌, ◌≢◌, ◌==◌, ℕ, zero, suc, ◌+◌, ◌-◌, ◌<◌, ◌≤◌, ◌⊎◌, inl, inr, Bool, true, false, List, [], ◌∷◌, ◌++◌, length, take, drop, Option, Some, None, cond, refl, ap, sym, ◌∙◌, subst, arith, nat_le, nat_lt, append_assoc, append-nil, option_map, min, slice_range}
use Rattle.std.proofs.lemmas.List.{take-append-drop, length-take-le, take-append-le, drop-append-le, length-append, length-drop, length-take, take_all, take-take}
use Rattle.std.proofs.lemmas.Bool.Decides.{leb_tells, eqb_tells}
use Rattle.std.proofs.Math.Seq.{take-append-add, drop-append-add}
use Rattle.std.proofs.Math.ListN.{drop_of_length-le}
use Rattle.std.proofs.lemmas.Bool.{le-leb}
use borrow.Author.Tests.{lt-leb}

-- two tests that say the same
pub same_le : (a b c d : ℕ) → (a ≤ b → c ≤ d) → (c ≤ d → a ≤ b) → nat_le a b ≡ nat_le c d
same_le a b c d f g = cases (leb_tells a b) (leb_tells c d)
  where
    cases : ((nat_le a b ≡ true) × (a ≤ b)) ⊎ ((nat_le a b ≡ false) × (b < a)) → ((nat_le c d ≡ true) × (c ≤ d)) ⊎ ((nat_le c d ≡ false) × (d < c)) → nat_le a b ≡ nat_le c d
    cases (inl h) (inl k) = h.0 ∙ sym k.0
    cases (inr h) (inr k) = h.0 ∙ sym k.0
    cases (inl h) (inr k) = let z = f h.1 in absurd (omega arith)
    cases (inr h) (inl k) = let z = g k.1 in absurd (omega arith)

-- the first k bytes of two texts in a row
pub take_over : (k : ℕ) (xs ys : List ℕ) → take k (xs ++ ys) ≡ take k xs ++ take (k - length xs) ys
take_over k [] ys = let e : k ≡ k - 0 = omega arith in ap (λ j. take j ys) e ∙ ap (λ t. t ++ take (k - 0) ys) (sym (take_all k [] (omega arith)))
take_over zero (x ∷ xs) ys = let e : 0 ≡ 0 - suc (length xs) = omega arith in ap (λ j. take j ys) e
take_over (suc k) (x ∷ xs) ys = let e : k - length xs ≡ suc k - suc (length xs) = omega arith in ap (λ t. x ∷ t) (take_over k xs ys) ∙ ap (λ j. x ∷ take k xs ++ take j ys) e

pub same_eq : (a b c d : ℕ) → (a ≡ b → c ≡ d) → (c ≡ d → a ≡ b) → (a == b) ≡ (c == d)
same_eq a b c d f g = cases (eqb_tells a b) (eqb_tells c d)
  where
    cases : (((a == b) ≡ true) × (a ≡ b)) ⊎ (((a == b) ≡ false) × (a ≢ b)) → (((c == d) ≡ true) × (c ≡ d)) ⊎ (((c == d) ≡ false) × (c ≢ d)) → (a == b) ≡ (c == d)
    cases (inl h) (inl k) = h.0 ∙ sym k.0
    cases (inr h) (inr k) = h.0 ∙ sym k.0
    cases (inl h) (inr k) = absurd (k.1 (f h.1))
    cases (inr h) (inl k) = absurd (h.1 (g k.1))

pub take_none : (n : ℕ) → take {A = ℕ} n [] ≡ []
take_none n = take_all n [] (omega arith)

pub take_whole : (xs : List ℕ) → slice_range xs 0 (length xs) ≡ xs
take_whole xs = take_all (length xs - 0) xs (omega arith)

pub drop_whole : (xs : List ℕ) → drop (length xs) xs ≡ []
drop_whole xs = drop_of_length-le xs (omega arith)

pub first_whole : (count : ℕ) (piece : List ℕ) → slice_range piece 0 count ≡ take count piece
first_whole count piece = let e : count - 0 ≡ count = omega arith in ap (λ j. take j piece) e

-- a piece in two parts
pub in_parts : (count : ℕ) (piece more : List ℕ) → piece ++ more ≡ take count piece ++ (drop count piece ++ more)
in_parts count piece more = ap (λ t. t ++ more) (sym (take-append-drop count piece)) ∙ append_assoc (take count piece) (drop count piece) more
