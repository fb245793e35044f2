-- Fronts of lists, and pieces that stand in a list from a place on.
use Rattle.std.proofs.Common.{◌≡◌, ℕ, zero, suc, ◌+◌, ◌-◌, ◌≤◌, min, List, [], ◌∷◌, ◌++◌, length, take, drop, refl, sym, ap, ◌∙◌, arith}
use Rattle.std.proofs.Common.{length-take, length-append, length-drop}
use Rattle.std.proofs.Math.Seq.{take-length, take-add, drop-append_seam, take-append_seam}
use Rattle.std.proofs.lemmas.Grind.{common_steps}
use Rattle.std.proofs.lemmas.List.{drop-take}

-- a front that is as long as all is all
pub front_all : (file text : List ℕ) (size : ℕ) → take (length text) file ≡ text → length file ≡ size → size ≡ length text → file ≡ text
front_all file text size front all is = sym (take-length file) ∙ ap (λ n. take n file) (all ∙ is) ∙ front

-- a front and what stands behind it
pub front_more : (file text piece : List ℕ) (size : ℕ) → take (length text) file ≡ text → take (length piece) (drop size file) ≡ piece
    → size ≡ length text → take (length (text ++ piece)) file ≡ text ++ piece
front_more file text piece size front next is =
    let front' : take size file ≡ text = ap (λ n. take n file) is ∙ front in
    let e : length (text ++ piece) ≡ size + length piece = length-append text piece ∙ ap (λ n. n + length piece) (sym is) in
    ap (λ n. take n file) e
    ∙ take-add size (length piece) file
    ∙ ap (λ t. t ++ take (length piece) (drop size file)) front'
    ∙ ap (λ p. text ++ p) next

pub take_take : (k n : ℕ) (xs : List ℕ) → k ≤ n → take k (take n xs) ≡ take k xs
take_take k n xs few = grind (arith, common_steps)

-- a front of a front
pub front_trans : (a b c : List ℕ) → take (length a) b ≡ a → take (length b) c ≡ b → take (length a) c ≡ a
front_trans a b c ab bc =
    let l : length a ≡ min (length a) (length b) = sym (ap length ab) ∙ length-take (length a) b in
    let few : length a ≤ length b = omega arith in
    sym (take_take (length a) (length b) c few) ∙ ap (take (length a)) bc ∙ ab

take_none : (m : ℕ) → take {A = ℕ} m [] ≡ []
take_none zero = refl
take_none (suc m) = refl

pub drop_take : (n k : ℕ) (xs : List ℕ) → drop k (take n xs) ≡ take (n - k) (drop k xs)
drop_take n zero xs = let e : n ≡ n - 0 = omega arith in ap (λ k. take k xs) e
drop_take zero (suc k) xs = let e : 0 ≡ 0 - suc k = omega arith in ap (λ m. take m (drop (suc k) xs)) e
drop_take (suc n) (suc k) [] = sym (take_none (suc n - suc k))
drop_take (suc n) (suc k) (x ∷ xs) =
    let e : n - k ≡ suc n - suc k = omega arith in
    drop_take n k xs ∙ ap (λ m. take m (drop k xs)) e

-- the same from a place on
pub front_drop : (from : ℕ) (a b : List ℕ) → take (length a) b ≡ a → take (length (drop from a)) (drop from b) ≡ drop from a
front_drop from a b ab =
    ap (λ n. take n (drop from b)) (length-drop from a) ∙ sym (drop_take (length a) from b) ∙ ap (drop from) ab

-- a front by its own length
front_len : (n : ℕ) (xs : List ℕ) → take (length (take n xs)) xs ≡ take n xs
front_len n xs = grind (arith, common_steps)

pub drop_drop : (m n : ℕ) (xs : List ℕ) → drop n (drop m xs) ≡ drop (m + n) xs
drop_drop m n xs = grind (arith, common_steps)

-- a reader takes a piece more
pub took : (from room : ℕ) (text got : List ℕ) → take (length got) (drop from text) ≡ got
    → take (length (got ++ take room (drop (from + length got) text))) (drop from text) ≡ got ++ take room (drop (from + length got) text)
took from room text got had =
    let next : List ℕ = drop (from + length got) text in
    let e : take (length (take room next)) (drop (length got) (drop from text)) ≡ take room next =
    ap (take (length (take room next))) (drop_drop from (length got) text) ∙ front_len room next in
    front_more (drop from text) got (take room next) (length got) had e refl

-- what stands at a place: its first piece stands there, and the rest behind it
pub stands_piece : (file : List ℕ) (held : ℕ) (piece rest : List ℕ) → take (length (piece ++ rest)) (drop held file) ≡ piece ++ rest
    → take (length piece) (drop held file) ≡ piece
stands_piece file held piece rest all =
    let l = length-append piece rest in
    let few : length piece ≤ length (piece ++ rest) = omega (arith, l) in
    sym (take_take (length piece) (length (piece ++ rest)) (drop held file) few)
    ∙ ap (take (length piece)) all
    ∙ take-append_seam piece rest

pub stands_rest : (file : List ℕ) (held : ℕ) (piece rest : List ℕ) → take (length (piece ++ rest)) (drop held file) ≡ piece ++ rest
    → take (length rest) (drop (held + length piece) file) ≡ rest
stands_rest file held piece rest all =
    let l = length-append piece rest in
    let d = drop-take (length piece) (length rest) (drop held file) in
    sym (ap (take (length rest)) (drop_drop held (length piece) file))
    ∙ sym d
    ∙ ap (λ n. drop (length piece) (take n (drop held file))) (sym l)
    ∙ ap (drop (length piece)) all
    ∙ drop-append_seam piece rest
