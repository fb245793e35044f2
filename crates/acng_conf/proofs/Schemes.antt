-- `://` in a word.
use Rattle.std.proofs.Common.{◌≡◌, ℕ, suc, ◌+◌, ◌<◌, ◌≤◌, true, false, List, [], ◌∷◌, length, take, drop, get_or, bytes_eq, codes, ◌||◌, sym, ap, ◌∙◌, arith}
use Rattle.std.proofs.Math.Seq.{drop-cons, drop-length}
use Rattle.acng_conf.specs.Places.{has_scheme}

pub scheme_here : (word : List ℕ) (at : ℕ) → at < length word → bytes_eq (take 3 (drop at word)) (codes "://") ≡ true → has_scheme (drop at word) ≡ true
scheme_here word at lt h =
    let cut : drop at word ≡ get_or word at 0 ∷ drop (suc at) word = drop-cons word at 0 lt in
    let here : bytes_eq (take 3 (get_or word at 0 ∷ drop (suc at) word)) (codes "://") ≡ true = ap (λ t. bytes_eq (take 3 t) (codes "://")) (sym cut) ∙ h in
    ap has_scheme cut ∙ ap (λ t. t || has_scheme (drop (suc at) word)) here

pub scheme_later : (word : List ℕ) (at : ℕ) → at < length word → bytes_eq (take 3 (drop at word)) (codes "://") ≡ false → has_scheme (drop at word) ≡ has_scheme (drop (at + 1) word)
scheme_later word at lt h =
    let cut : drop at word ≡ get_or word at 0 ∷ drop (suc at) word = drop-cons word at 0 lt in
    let here : bytes_eq (take 3 (get_or word at 0 ∷ drop (suc at) word)) (codes "://") ≡ false = ap (λ t. bytes_eq (take 3 t) (codes "://")) (sym cut) ∙ h in
    let e : suc at ≡ at + 1 = omega arith in
    ap has_scheme cut ∙ ap (λ t. t || has_scheme (drop (suc at) word)) here ∙ ap (λ j. has_scheme (drop j word)) e

pub scheme_nowhere : (word : List ℕ) (at : ℕ) → at ≤ length word → length word ≤ at → has_scheme (drop at word) ≡ false
scheme_nowhere word at within past =
    let all : at ≡ length word = omega arith in
    let none : drop at word ≡ [] = ap (λ j. drop j word) all ∙ drop-length word in
    ap has_scheme none
