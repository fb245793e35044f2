-- The words of a line, one after another.
use Rattle.std.proofs.Common.{◌≡◌, ℕ, ◌+◌, ◌-◌, ◌≤◌, Bool, true, false, not, List, [], ◌∷◌, ◌++◌, Some, None, length, take, drop, refl, ap, ◌∙◌}
use Rattle.std.specs.List.{position, slice_split, filter}
use Rattle.acng_base.specs.Cuts.{is_empty, words_by, some_word}
use Rattle.acng_base.proofs.Cutting.{cut_rest, last_rest}

abbrev solid : List ℕ → Bool
solid w = not (is_empty w)

filter_first : (x : List ℕ) (xs : List (List ℕ)) → filter solid (x ∷ xs) ≡ some_word x ++ filter solid xs
filter_first x xs = cases (is_empty x) refl
  where
    cases : (t : Bool) → is_empty x ≡ t → filter solid (x ∷ xs) ≡ some_word x ++ filter solid xs
    cases true e = rw e refl
    cases false e = rw e refl

pub words_step : (p : ℕ → Bool) (line : List ℕ) (start k : ℕ) → start ≤ length line → position p (take (length line - start) (drop start line)) ≡ Some k
    → (start + (k + 1) ≤ length line) × (words_by p (drop start line) ≡ some_word (take k (drop start line)) ++ words_by p (drop (start + (k + 1)) line))
words_step p line start k within h =
    let cut = cut_rest p line start k within h in
    (cut.0, ap (filter solid) cut.1 ∙ filter_first (take k (drop start line)) (slice_split p (drop (start + (k + 1)) line)))

pub words_last : (p : ℕ → Bool) (line : List ℕ) (start : ℕ) → position p (take (length line - start) (drop start line)) ≡ None
    → words_by p (drop start line) ≡ some_word (drop start line)
words_last p line start h = ap (filter solid) (last_rest p line start h) ∙ last (drop start line)
  where
    last : (x : List ℕ) → filter solid (x ∷ []) ≡ some_word x
    last x = cases (is_empty x) refl
      where
        cases : (t : Bool) → is_empty x ≡ t → filter solid (x ∷ []) ≡ some_word x
        cases true e = rw e refl
        cases false e = rw e refl
