-- The offset of the first byte of a kind, as a search finds it.
use Rattle.std.proofs.Common.{◌≡◌, ℕ, ◌≤◌, Bool, true, false, List, Option, Some, None, length, take, get_or, refl, ◌∙◌, arith}
use Rattle.std.specs.List.{position, position_or_len}
use Rattle.std.proofs.lemmas.List.Sums.{position_or_len_is}
use Rattle.std.proofs.lemmas.Grind.{common_steps}
use Rattle.memchr.specs.Find.{IsFirstByte}

fails : (b : Bool) → (b ≡ true → ⊥) → b ≡ false
fails true h = absurd (h refl)
fails false h = refl

pub first_is : (p : ℕ → Bool) (text : List ℕ) (r : Option ℕ) → IsFirstByte p text r → r ≡ position p text
first_is p text None h =
    let at : position_or_len p text ≡ length text = position_or_len_is p text (length text) 0 (omega arith) (λ k lt. fails (p (get_or text k 0)) (h k (omega arith) lt)) (λ lt. absurd (omega arith)) in
    grind (arith, common_steps)
first_is p text (Some k) h =
    let at : position_or_len p text ≡ k = position_or_len_is p text k 0 (omega arith) (λ j lt. fails (p (get_or text j 0)) (h.0.before j (omega arith) lt)) (λ lt. h.1) in
    grind (arith, common_steps)

-- a front of a front, as many bytes as a copy takes
pub front_of_front : (xs ys : List ℕ) (most n : ℕ) → n ≤ most → take n ys ≡ take n (take most xs) → take n ys ≡ take n xs
front_of_front xs ys most n le h = h ∙ grind (arith, common_steps)
