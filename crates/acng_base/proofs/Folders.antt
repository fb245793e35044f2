-- The segments of a path that is cut at its last slash.
use Rattle.std.proofs.Common.{◌≡◌, ℕ, zero, suc, ◌+◌, add-one, ◌≤◌, ◌<◌, ◌-◌, Bool, true, false, List, [], ◌∷◌, ◌++◌, cond, length, take, drop, reverse, refl, sym, ap, ◌∙◌, subst, get_or, slice_index_or, arith, All}
use Rattle.std.specs.List.{slice_split, onto_first}
use Rattle.std.proofs.lemmas.List.{reverse-append, take-append-drop, drop_more, get_or-drop, length-drop}
use Rattle.std.proofs.lemmas.List.Elements.{All-from_get_or}
use Rattle.std.proofs.lemmas.List.Splits.{slice_split_none}
use Rattle.acng_base.specs.Paths.{segments, is_slash}
use Rattle.acng_base.specs.Names.{folder_of, from_last}

-- some part is always there, so that one more element goes onto the first part
onto-append : {X : Type 0} (p : X → Bool) (x : X) (xs : List X) (parts : List (List X)) → onto_first x (slice_split p xs ++ parts) ≡ onto_first x (slice_split p xs) ++ parts
onto-append p x [] parts = refl
onto-append p x (y ∷ ys) parts = cases (p y) (slice_split p ys)
  where
    some : (z : _) (qs : List (List _)) → onto_first x (onto_first z qs ++ parts) ≡ onto_first x (onto_first z qs) ++ parts
    some z [] = refl
    some z (q ∷ qs) = refl

    cases : (t : Bool) (qs : List (List _)) → onto_first x (cond t ([] ∷ qs) (onto_first y qs) ++ parts) ≡ onto_first x (cond t ([] ∷ qs) (onto_first y qs)) ++ parts
    cases true qs = refl
    cases false qs = some y qs

-- the parts before an element that cuts, and those after it
slice_split-append : {X : Type 0} (p : X → Bool) (xs : List X) (y : X) (ys : List X) → p y ≡ true → slice_split p (xs ++ y ∷ ys) ≡ slice_split p xs ++ slice_split p ys
slice_split-append p [] y ys cuts = rw cuts
slice_split-append p (x ∷ xs) y ys cuts = cases (p x) (slice_split-append p xs y ys cuts)
  where
    cases : (t : Bool) → slice_split p (xs ++ y ∷ ys) ≡ slice_split p xs ++ slice_split p ys
        → cond t ([] ∷ slice_split p (xs ++ y ∷ ys)) (onto_first x (slice_split p (xs ++ y ∷ ys))) ≡ cond t ([] ∷ slice_split p xs) (onto_first x (slice_split p xs)) ++ slice_split p ys
    cases true again = ap (λ parts. [] ∷ parts) again
    cases false again = ap (onto_first x) again ∙ onto-append p x xs (slice_split p ys)

abbrev HasNoSlash : List ℕ → Type 0
HasNoSlash text = All (λ b. is_slash b ≡ false) text

-- the segments from the last one back, where a slash stands before the last
back : (front last : List ℕ) → HasNoSlash last → reverse (segments (front ++ 47 ∷ last)) ≡ last ∷ reverse (segments front)
back front last none =
    ap reverse (slice_split-append is_slash front 47 last refl ∙ ap (λ parts. segments front ++ parts) (slice_split_none is_slash last none))
    ∙ reverse-append (segments front) (last ∷ [])

-- and where no slash stands
back_alone : (path : List ℕ) → HasNoSlash path → reverse (segments path) ≡ path ∷ []
back_alone path none = ap reverse (slice_split_none is_slash path none)

-- no slash stands from a place on
none_from_reads : (path : List ℕ) (i : ℕ) → ((k : ℕ) → i ≤ k → k < length path → is_slash (get_or path k 0) ≡ false) → HasNoSlash (drop i path)
none_from_reads path i reads =
    All-from_get_or (λ b. is_slash b ≡ false) (drop i path) 0 (λ k inside. subst (λ b. is_slash b ≡ false) (sym (get_or-drop i path k 0)) (reads (i + k) (omega arith) (omega (arith, length-drop i path))))

-- the path is what stands before a slash, the slash and what stands after it
around : (path : List ℕ) (i : ℕ) → i < length path → get_or path i 0 ≡ 47 → take i path ++ 47 ∷ drop (i + 1) path ≡ path
around path i inside here = ap (λ l. take i path ++ l) (ap (λ b. b ∷ drop (i + 1) path) (sym here) ∙ sym (drop_more path i 0 inside)) ∙ take-append-drop i path

pub segments_around : (path : List ℕ) (i : ℕ) → i < length path → get_or path i 0 ≡ 47 → ((k : ℕ) → i + 1 ≤ k → k < length path → is_slash (get_or path k 0) ≡ false)
    → reverse (segments path) ≡ drop (i + 1) path ∷ reverse (segments (take i path))
segments_around path i inside here after =
    ap (λ l. reverse (segments l)) (sym (around path i inside here)) ∙ back (take i path) (drop (i + 1) path) (none_from_reads path (i + 1) after)

pub segments_alone : (path : List ℕ) → ((k : ℕ) → k < length path → is_slash (get_or path k 0) ≡ false) → reverse (segments path) ≡ path ∷ []
segments_alone path reads = back_alone path (All-from_get_or (λ b. is_slash b ≡ false) path 0 reads)

-- ---- the same by a segment's number

pub last_after : (path : List ℕ) (i : ℕ) → i < length path → get_or path i 0 ≡ 47 → ((k : ℕ) → i + 1 ≤ k → k < length path → is_slash (get_or path k 0) ≡ false)
    → drop (i + 1) path ≡ from_last 0 path
last_after path i inside here after = sym (ap (λ ss. slice_index_or ss 0 []) (segments_around path i inside here after))

pub before_after : (path : List ℕ) (i : ℕ) → i < length path → get_or path i 0 ≡ 47 → ((k : ℕ) → i + 1 ≤ k → k < length path → is_slash (get_or path k 0) ≡ false)
    → (n : ℕ) → from_last n (take i path) ≡ from_last (n + 1) path
before_after path i inside here after n =
    let at : from_last (suc n) path ≡ from_last n (take i path) = ap (λ ss. slice_index_or ss (suc n) []) (segments_around path i inside here after) in
    rw (add-one) (sym at)

pub last_alone : (path : List ℕ) → ((k : ℕ) → k < length path → is_slash (get_or path k 0) ≡ false) → path ≡ from_last 0 path
last_alone path reads = sym (ap (λ ss. slice_index_or ss 0 []) (segments_alone path reads))

nothing : (n : ℕ) → from_last n [] ≡ []
nothing zero = refl
nothing (suc n) = refl

pub before_alone : (path : List ℕ) → ((k : ℕ) → k < length path → is_slash (get_or path k 0) ≡ false) → (n : ℕ) → from_last n [] ≡ from_last (n + 1) path
before_alone path reads n =
    let at : from_last (suc n) path ≡ [] = ap (λ ss. slice_index_or ss (suc n) []) (segments_alone path reads) in
    rw (add-one) (nothing n ∙ sym at)

-- ---- the folder

pub folder_after : (path : List ℕ) (i : ℕ) → i < length path → get_or path i 0 ≡ 47 → ((k : ℕ) → i + 1 ≤ k → k < length path → is_slash (get_or path k 0) ≡ false)
    → take i path ≡ folder_of path
folder_after path i inside here after =
    let last = ap length (last_after path i inside here after) in
    let size : i ≡ length path - length (from_last 0 path) - 1 = omega (arith, last, length-drop (i + 1) path) in
    ap (λ k. take k path) size

pub folder_alone : (path : List ℕ) → ((k : ℕ) → k < length path → is_slash (get_or path k 0) ≡ false) → [] ≡ folder_of path
folder_alone path reads =
    let last = ap length (last_alone path reads) in
    let size : 0 ≡ length path - length (from_last 0 path) - 1 = omega (arith, last) in
    ap (λ k. take k path) size
