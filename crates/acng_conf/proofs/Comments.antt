-- A comment at the end of a line.
use Rattle.std.proofs.Common.{◌≡◌, ℕ, suc, ◌+◌, ◌-◌, ◌<◌, ◌≤◌, Bool, true, false, ◌||◌, List, [], ◌∷◌, ◌++◌, cond, length, take, drop, get_or, refl, sym, ap, ◌∙◌, arith, append_assoc}
use Rattle.std.proofs.Math.Seq.{take-suc, drop-cons}
use Rattle.std.proofs.lemmas.Grind.{common_steps}
use Rattle.std.proofs.lemmas.List.{length-drop}
use Rattle.acng_base.specs.Cuts.{is_empty}
use Rattle.acng_conf.specs.Lines.{without_comment, starts_comment, is_text_end}

or_false : (a b : Bool) → (a || b) ≡ false → (a ≡ false) × (b ≡ false)
or_false true b h = cc
or_false false b h = (refl, h)

pub not_empty : (b : ℕ) (bs : List ℕ) → is_empty (b ∷ bs) ≡ false
not_empty b bs = grind (arith, common_steps)

-- a text that doesn't end here has a byte here, which stays
goes_on : (rest : List ℕ) → is_text_end rest ≡ false → (b : ℕ) × (bs : List ℕ) × (rest ≡ b ∷ bs) × (without_comment rest ≡ b ∷ without_comment bs)
goes_on [] h = cc
goes_on (b ∷ bs) h = (b, bs, refl, ap (λ t. cond t [] (b ∷ without_comment bs)) (or_false (is_empty (b ∷ bs)) (starts_comment (b ∷ bs)) h).1)

pub comment_goes_on : (text : List ℕ) (i : ℕ) → i ≤ length text → is_text_end (drop i text) ≡ false
    → (i + 1 ≤ length text) × (take i text ++ without_comment (drop i text) ≡ take (i + 1) text ++ without_comment (drop (i + 1) text))
comment_goes_on text i within h =
    let on = goes_on (drop i text) h in
    let size : length (drop i text) ≡ length text - i = length-drop i text in
    let some : length (drop i text) ≡ length (on.0 ∷ on.1) = ap length on.2 in
    let lt : i < length text = omega arith in
    let cut : drop i text ≡ get_or text i 0 ∷ drop (suc i) text = drop-cons text i 0 lt in
    let first : on.0 ≡ get_or text i 0 = cc in
    let rest : on.1 ≡ drop (suc i) text = cc in
    let e : suc i ≡ i + 1 = omega arith in
    let front : take (i + 1) text ≡ take i text ++ get_or text i 0 ∷ [] = ap (λ j. take j text) (sym e) ∙ take-suc text i 0 lt in
    let tail : without_comment (drop i text) ≡ get_or text i 0 ∷ without_comment (drop (i + 1) text) =
    on.3 ∙ ap (λ b. b ∷ without_comment on.1) first ∙ ap (λ t. get_or text i 0 ∷ without_comment t) (rest ∙ ap (λ j. drop j text) e) in
    (omega arith, ap (λ t. take i text ++ t) tail ∙ rw front (sym (append_assoc (take i text) (get_or text i 0 ∷ []) (without_comment (drop (i + 1) text)))))

pub comment_ends : (text : List ℕ) → is_text_end text ≡ true → without_comment text ≡ []
comment_ends [] h = refl
comment_ends (b ∷ bs) h =
    let starts : starts_comment (b ∷ bs) ≡ true = ap (λ t. t || starts_comment (b ∷ bs)) (sym (not_empty b bs)) ∙ h in
    ap (λ t. cond t [] (b ∷ without_comment bs)) starts
