-- The fields of a name, and the words of a list.
use Rattle.std.proofs.Common.{get_or, map, zero, suc, ◌≡◌, ℕ, ◌+◌, ◌-◌, ◌<◌, ◌≤◌, Bool, true, false, List, [], ◌∷◌, length, take, drop, Some, None, refl, ap, sym, ◌∙◌, arith}
use Rattle.std.specs.Prelude.{◌||◌, ◌==◌}
use Rattle.acng_base.proofs.Ranges.{rest_is_drop}
use Rattle.std.specs.List.{list_any, position}
use Rattle.acng_base.proofs.Cutting.{cut_rest, last_rest}
use Rattle.acng_request.specs.RequestFields.{says_close, is_close}

abbrev is_comma : ℕ → Bool
is_comma b = b == 44

-- the word up to the next comma
pub close_step : (value : List ℕ) (start k : ℕ) (b : Bool) → start ≤ length value → position is_comma (take (length value - start) (drop start value)) ≡ Some k
    → is_close (take ((start + k) - start) (drop start value)) ≡ b
    → (start + (k + 1) ≤ length value) × (says_close (drop start value) ≡ (b || says_close (drop (start + (k + 1)) value)))
close_step value start k b within h t =
    let cut = cut_rest is_comma value start k within h in
    let n : (start + k) - start ≡ k = omega arith in
    let word : is_close (take k (drop start value)) ≡ b = ap (λ n. is_close (take n (drop start value))) (sym n) ∙ t in
    (cut.0, ap (list_any is_close) cut.1 ∙ ap (λ w. w || says_close (drop (start + (k + 1)) value)) word)

-- the last word
pub close_last : (value : List ℕ) (start : ℕ) (b : Bool) → position is_comma (take (length value - start) (drop start value)) ≡ None
    → is_close (take (length value - start) (drop start value)) ≡ b → says_close (drop start value) ≡ b
close_last value start b h t =
    ap (list_any is_close) (last_rest is_comma value start h) ∙ or_false (is_close (drop start value)) ∙ ap is_close (sym (rest_is_drop start value)) ∙ t
  where
    or_false : (x : Bool) → (x || false) ≡ x
    or_false true = refl
    or_false false = refl

-- an element whose image passes
pub any_at : {A B : Type 0} (p : B → Bool) (f : A → B) (xs : List A) (i : ℕ) (d : A) → i < length xs → p (f (get_or xs i d)) ≡ true → list_any p (map f xs) ≡ true
any_at p f [] i d lt h = absurd (omega arith)
any_at p f (x ∷ xs) zero d lt h = rw h refl
any_at p f (x ∷ xs) (suc i) d lt h = rw (any_at p f xs i d (omega arith) h) (or_true (p (f x)))
  where
    or_true : (b : Bool) → (b || true) ≡ true
    or_true true = refl
    or_true false = refl
