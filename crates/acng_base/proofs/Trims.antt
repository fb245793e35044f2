-- Bytes of a kind, and a carriage return, at the ends of a text.
use Rattle.std.proofs.Common.{◌≡◌, ℕ, zero, suc, ◌+◌, ◌-◌, ◌<◌, ◌≤◌, Bool, true, false, ◌&&◌, List, [], ◌∷◌, ◌++◌, cond, length, take, drop, get_or, nat_lt, refl, sym, ap, ◌∙◌, arith}
use Rattle.std.proofs.Math.Seq.{take-suc, drop-cons, drop-length}
use Rattle.std.proofs.lemmas.Grind.{common_steps}
use Rattle.acng_base.specs.Cuts.{is_cr, is_before, before_end, drop_front, drop_end, without_cr}

-- ---- at the front

kind_first : (p : ℕ → Bool) (text : List ℕ) (i : ℕ) → i < length text → p (get_or text i 0) ≡ true → drop_front p (drop i text) ≡ drop_front p (drop (i + 1) text)
kind_first p text i lt b =
    let e : suc i ≡ i + 1 = omega arith in
    rw (drop-cons text i 0) (rw b (ap (λ j. drop_front p (drop j text)) e))

solid_first : (p : ℕ → Bool) (text : List ℕ) (i : ℕ) → i < length text → p (get_or text i 0) ≡ false → drop_front p (drop i text) ≡ drop i text
solid_first p text i lt b = rw (drop-cons text i 0) (rw b refl)

-- one more byte of the kind
pub front_step : (p : ℕ → Bool) (text : List ℕ) (i : ℕ) → (nat_lt i (length text) && p (get_or text i 0)) ≡ true
    → (i < length text) × (drop_front p (drop i text) ≡ drop_front p (drop (i + 1) text))
front_step p text i h =
    let parts : (i < length text) × (p (get_or text i 0) ≡ true) = (grind (arith, common_steps), grind (arith, common_steps)) in
    (parts.0, kind_first p text i parts.0 parts.1)

-- none comes next
pub front_stop : (p : ℕ → Bool) (text : List ℕ) (i : ℕ) → i ≤ length text → (nat_lt i (length text) && p (get_or text i 0)) ≡ false
    → drop_front p (drop i text) ≡ drop i text
front_stop p text i within h = cases (nat_lt i (length text)) refl
  where
    cases : (t : Bool) → nat_lt i (length text) ≡ t → drop_front p (drop i text) ≡ drop i text
    cases true e =
        let lt : i < length text = grind (arith, common_steps) in
        let solid : p (get_or text i 0) ≡ false = grind (arith, common_steps) in
        solid_first p text i lt solid
    cases false e =
        let all : i ≡ length text = grind (arith, common_steps) in
        let none : drop i text ≡ [] = ap (λ j. drop j text) all ∙ drop-length text in
        rw none refl

-- ---- at the end

end_kind : (p : ℕ → Bool) (xs : List ℕ) (b : ℕ) → drop_end p (xs ++ b ∷ []) ≡ cond (p b) (drop_end p xs) (xs ++ b ∷ [])
end_kind p [] b = refl
end_kind p (x ∷ xs) b = cases (p b) (end_kind p xs b)
  where
    some : (xs : List ℕ) → before_end p x (xs ++ b ∷ []) ≡ x ∷ (xs ++ b ∷ [])
    some [] = refl
    some (y ∷ ys) = refl

    cases : (t : Bool) → drop_end p (xs ++ b ∷ []) ≡ cond t (drop_end p xs) (xs ++ b ∷ [])
        → before_end p x (drop_end p (xs ++ b ∷ [])) ≡ cond t (before_end p x (drop_end p xs)) (x ∷ (xs ++ b ∷ []))
    cases true e = ap (before_end p x) e
    cases false e = ap (before_end p x) e ∙ some xs

cr_end : (xs : List ℕ) (b : ℕ) → without_cr (xs ++ b ∷ []) ≡ cond (is_cr b) xs (xs ++ b ∷ [])
cr_end [] b = refl
cr_end (x ∷ []) b = cases (is_cr b)
  where
    cases : (t : Bool) → x ∷ cond t [] (b ∷ []) ≡ cond t (x ∷ []) (x ∷ b ∷ [])
    cases true = refl
    cases false = refl
cr_end (x ∷ y ∷ ys) b = ap (λ t. x ∷ t) (cr_end (y ∷ ys) b) ∙ cases (is_cr b)
  where
    cases : (t : Bool) → x ∷ cond t (y ∷ ys) (y ∷ ys ++ b ∷ []) ≡ cond t (x ∷ y ∷ ys) (x ∷ y ∷ ys ++ b ∷ [])
    cases true = refl
    cases false = refl

-- a text up to a place as what stands before its last byte, and that byte
last_byte : (text : List ℕ) (end : ℕ) → 0 < end → end ≤ length text → take end text ≡ take (end - 1) text ++ get_or text (end - 1) 0 ∷ []
last_byte text end some within =
    let e : suc (end - 1) ≡ end = omega arith in
    ap (λ j. take j text) (sym e) ∙ take-suc text (end - 1) 0 (omega arith)

pub end_step : (p : ℕ → Bool) (text : List ℕ) (end : ℕ) → end ≤ length text → is_before p text end ≡ true
    → (0 < end) × (drop_end p (take end text) ≡ drop_end p (take (end - 1) text))
end_step p text end within h =
    let parts : (0 < end) × (p (get_or text (end - 1) 0) ≡ true) = (grind (arith, common_steps), grind (arith, common_steps)) in
    (parts.0, ap (drop_end p) (last_byte text end parts.0 within) ∙ end_kind p (take (end - 1) text) (get_or text (end - 1) 0) ∙ rw parts.1 refl)

-- up to a place before which none stands
pub end_stop : (p : ℕ → Bool) (text : List ℕ) (end : ℕ) → end ≤ length text → is_before p text end ≡ false → drop_end p (take end text) ≡ take end text
end_stop p text zero within h = refl
end_stop p text (suc j) within h =
    let solid : p (get_or text j 0) ≡ false = grind (arith, common_steps) in
    let cut : take (suc j) text ≡ take j text ++ get_or text j 0 ∷ [] = take-suc text j 0 (omega arith) in
    ap (drop_end p) cut ∙ end_kind p (take j text) (get_or text j 0) ∙ rw solid (sym cut)

-- ---- a carriage return

pub with_cr_end : (text : List ℕ) → is_before is_cr text (length text) ≡ true → without_cr text ≡ take (length text - 1) text
with_cr_end text h =
    let parts : (0 < length text) × (is_cr (get_or text (length text - 1) 0) ≡ true) = (grind (arith, common_steps), grind (arith, common_steps)) in
    let all : take (length text) text ≡ text = grind (arith, common_steps) in
    ap without_cr (sym all ∙ last_byte text (length text) parts.0 (omega arith)) ∙ cr_end (take (length text - 1) text) (get_or text (length text - 1) 0) ∙ rw parts.1 refl

pub without_cr_end : (text : List ℕ) → is_before is_cr text (length text) ≡ false → without_cr text ≡ text
without_cr_end [] h = refl
without_cr_end (x ∷ xs) h =
    let text = x ∷ xs in
    let some : 0 < length text = omega arith in
    let other : is_cr (get_or text (length text - 1) 0) ≡ false = grind (arith, common_steps) in
    let all : take (length text) text ≡ text = grind (arith, common_steps) in
    let cut : text ≡ take (length text - 1) text ++ get_or text (length text - 1) 0 ∷ [] = sym all ∙ last_byte text (length text) some (omega arith) in
    ap without_cr cut ∙ cr_end (take (length text - 1) text) (get_or text (length text - 1) 0) ∙ rw other (sym cut)
