-- The pieces of a text between separators, by the place of the first separator.
use Rattle.std.proofs.Common.{◌≡◌, ℕ, ◌+◌, ◌-◌, ◌<◌, ◌≤◌, Bool, true, false, List, [], ◌∷◌, Some, None, cond, length, take, drop, refl, sym, ap, ◌∙◌, subst, ltb, arith}
use Rattle.std.specs.List.{position, position_from, position_or_len, slice_split}
use Rattle.std.proofs.lemmas.List.{drop-drop, length-drop}
use Rattle.std.proofs.lemmas.List.Splits.{slice_split_first}
use Rattle.std.proofs.lemmas.Iterator.Adapters.{position_from-zero}
use borrow.Author.Tests.{ltb-true}
use Rattle.acng_base.proofs.Ranges.{rest_is_drop}

abbrev at : (ℕ → Bool) → List ℕ → ℕ
at p text = position_or_len p text

-- up to the separator, and after it
pub cut_first : (p : ℕ → Bool) (text : List ℕ) (k : ℕ) → position p text ≡ Some k → (k < length text) × (slice_split p text ≡ take k text ∷ slice_split p (drop (k + 1) text))
cut_first p text k h = cases (ltb (at p text) (length text)) refl h
  where
    cases : (b : Bool) → ltb (at p text) (length text) ≡ b → cond b (Some (at p text)) None ≡ Some k → (k < length text) × (slice_split p text ≡ take k text ∷ slice_split p (drop (k + 1) text))
    cases false t e = cc
    cases true t e =
        let same : at p text ≡ k = cc in
        let P : ℕ → Type 0 = λ j. (j < length text) × (slice_split p text ≡ take j text ∷ slice_split p (drop (j + 1) text)) in
        let here : at p text < length text = ltb-true _ _ t in
        subst P same (here, slice_split_first p text 0 here)

-- a text without a separator is one piece
cut_none_from : (p : ℕ → Bool) (text : List ℕ) (i : ℕ) → position_from p i text ≡ None → slice_split p text ≡ text ∷ []
cut_none_from p [] i h = refl
cut_none_from p (b ∷ bs) i h = cases (p b) refl h (cut_none_from p bs (i + 1))
  where
    cases : (t : Bool) → p b ≡ t → cond t (Some i) (position_from p (i + 1) bs) ≡ None
        → (position_from p (i + 1) bs ≡ None → slice_split p bs ≡ bs ∷ []) → slice_split p (b ∷ bs) ≡ (b ∷ bs) ∷ []
    cases true t e again = cc
    cases false t e again = let rest = again e in rw (t, rest) refl

pub cut_none : (p : ℕ → Bool) (text : List ℕ) → position p text ≡ None → slice_split p text ≡ text ∷ []
cut_none p text h = cut_none_from p text 0 (sym (position_from-zero p text) ∙ h)

-- the pieces of what follows a place, where a separator comes next
pub cut_rest : (p : ℕ → Bool) (text : List ℕ) (start k : ℕ) → start ≤ length text → position p (take (length text - start) (drop start text)) ≡ Some k
    → (start + (k + 1) ≤ length text) × (slice_split p (drop start text) ≡ take k (drop start text) ∷ slice_split p (drop (start + (k + 1)) text))
cut_rest p text start k within h =
    let rest = drop start text in
    let cut = cut_first p rest k (ap (position p) (sym (rest_is_drop start text)) ∙ h) in
    let size = length-drop start text in
    let after : drop (k + 1) rest ≡ drop (start + (k + 1)) text = drop-drop (k + 1) start text in
    (omega (arith, cut.0), cut.1 ∙ ap (λ t. take k rest ∷ slice_split p t) after)

-- and where none comes
pub last_rest : (p : ℕ → Bool) (text : List ℕ) (start : ℕ) → position p (take (length text - start) (drop start text)) ≡ None
    → slice_split p (drop start text) ≡ drop start text ∷ []
last_rest p text start h = cut_none p (drop start text) (ap (position p) (sym (rest_is_drop start text)) ∙ h)

-- there is always a piece
pub some_piece : (p : ℕ → Bool) (text : List ℕ) → (x : List ℕ) × (xs : List (List ℕ)) × (slice_split p text ≡ x ∷ xs)
some_piece p [] = ([], [], refl)
some_piece p (b ∷ bs) = cases (p b) refl (some_piece p bs)
  where
    cases : (t : Bool) → p b ≡ t → (x : List ℕ) × (xs : List (List ℕ)) × (slice_split p bs ≡ x ∷ xs)
        → (x : List ℕ) × (xs : List (List ℕ)) × (slice_split p (b ∷ bs) ≡ x ∷ xs)
    cases true t s = ([], slice_split p bs, rw t refl)
    cases false t s = (b ∷ s.0, s.1, rw (t, s.2) refl)
