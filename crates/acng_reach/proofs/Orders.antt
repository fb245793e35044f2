-- The next path above the last of a front is the one that follows the front.
use Rattle.std.proofs.Common.{◌≡◌, ◌||◌, bytes_eq, ℕ, zero, suc, ◌+◌, ◌-◌, ◌<◌, ◌≤◌, Bool, true, false, List, [], ◌∷◌, ◌++◌, length, take, Some, None, Ordering, Less, Equal, Greater, get_or, refl, sym, ap, subst, ◌∙◌, arith, length-take}
use Rattle.std.specs.Ordering.{nat_cmp, is_lt, is_eq, ordering_reverse}
use Rattle.std.specs.Cmp.{tied_itself}
use Rattle.std.specs.Cmp.Lexicographic.{slice_cmp, nat_list_cmp_total}
use Rattle.std.specs.List.{slice_get, AllByRecursion}
use Rattle.std.specs.List.Sorted.{IsStrictlySortedBy}
use Rattle.std.proofs.Math.Seq.{take-suc}
use Rattle.std.proofs.lemmas.Grind.{common_steps}
use Rattle.std.proofs.lemmas.Option.{slice_get_within, get_or_from_slice_get, slice_get-get_or}
use Rattle.std.proofs.lemmas.Slice.Eq.{bytes_eq-Decides}
use Rattle.std.proofs.lemmas.Map.Text.{is_eq-slice_cmp}
use Rattle.acng_base.specs.Paths.{path_refusal}
use Rattle.acng_reach.specs.Bodies.{is_above, first_where, first_above, last_of, ArePaths}
use Rattle.acng_reach.specs.Sets.{among, same, Rises}

not_itself : (p : List ℕ) → is_above p p ≡ false
not_itself p = ap is_lt (tied_itself nat_list_cmp_total p)

back : (o : Ordering) → o ≡ Less → is_lt (ordering_reverse o) ≡ false
back Less h = refl
back Equal h = refl
back Greater h = cc

-- where q is above p, p isn't above q
not_back : (p q : List ℕ) → slice_cmp nat_cmp p q ≡ Less → is_above q p ≡ false
not_back p q h = ap is_lt (nat_list_cmp_total.antisymm q p) ∙ back (slice_cmp nat_cmp p q) h

abbrev AllAbove : List ℕ → List (List ℕ) → Type 0
AllAbove p ks = AllByRecursion (λ k. slice_cmp nat_cmp p k ≡ Less) ks

above_at : (p : List ℕ) (ks : List (List ℕ)) (i : ℕ) → AllAbove p ks → i < length ks → slice_cmp nat_cmp p (get_or ks i []) ≡ Less
above_at p [] i a lt = absurd (omega arith)
above_at p (k ∷ ks) zero a lt = a.0
above_at p (k ∷ ks) (suc i) a lt = above_at p ks i a.1 (omega arith)

-- what follows the path at a place
next_after : (ks : List (List ℕ)) (i : ℕ) → Rises ks → i < length ks
    → first_where (is_above (get_or ks i [])) ks ≡ slice_get ks (suc i)
unfolding IsStrictlySortedBy
next_after [] i r lt = absurd (omega arith)
next_after (k ∷ []) zero r lt = rw (not_itself k) refl
next_after (k ∷ l ∷ ks) zero r lt = rw (not_itself k, r.0.0) refl
next_after (k ∷ ks) (suc i) r lt =
    rw (not_back k (get_or ks i []) (above_at k ks i r.0 (omega arith))) (next_after ks i r.1 (omega arith))

front_last : (ks : List (List ℕ)) (i : ℕ) → i < length ks → slice_get (take (suc i) ks) i ≡ Some (get_or ks i [])
front_last [] i lt = absurd (omega arith)
front_last (k ∷ ks) zero lt = refl
front_last (k ∷ ks) (suc i) lt = front_last ks i (omega arith)

least_is : (ks : List (List ℕ)) → first_where (λ _. true) ks ≡ slice_get ks 0
least_is [] = refl
least_is (k ∷ ks) = refl

short : (ps ks : List (List ℕ)) → ps ≡ take (length ps) ks → length ps ≤ length ks
short ps ks e = let n = ap length e in let m = length-take (length ps) ks in omega arith

pub next_step : (ks ps : List (List ℕ)) → Rises ks → ps ≡ take (length ps) ks → first_above (last_of ps) ks ≡ slice_get ks (length ps)
next_step ks [] r e = least_is ks
next_step ks (p ∷ ps) r e =
    let n = length ps in
    let one : suc n - 1 ≡ n = omega arith in
    let within : n < length ks = let s = short (p ∷ ps) ks e in omega arith in
    let last : slice_get (p ∷ ps) n ≡ Some (get_or ks n []) = ap (λ l. slice_get l n) e ∙ front_last ks n within in
    ap (λ o. first_above o ks) (ap (slice_get (p ∷ ps)) one ∙ last) ∙ next_after ks n r within

-- one more path
pub front_more : (ks ps : List (List ℕ)) (p : List ℕ) → ps ≡ take (length ps) ks → slice_get ks (length ps) ≡ Some p
    → (ps ++ p ∷ [] ≡ take (length ps + 1) ks) × (length ps < length ks)
front_more ks ps p e h =
    let within = slice_get_within ks (length ps) p h in
    let here : get_or ks (length ps) [] ≡ p = get_or_from_slice_get ks (length ps) p [] h in
    let n : suc (length ps) ≡ length ps + 1 = omega arith in (
      ap (λ l. l ++ p ∷ []) e ∙ ap (λ x. take (length ps) ks ++ x ∷ []) (sym here)
          ∙ sym (take-suc ks (length ps) [] within) ∙ ap (λ j. take j ks) n,
      within,
    )

-- none is left
pub front_all : (ks ps : List (List ℕ)) → ps ≡ take (length ps) ks → slice_get ks (length ps) ≡ None → ps ≡ ks
front_all ks ps e h =
    let no_more : length ps < length ks → ⊥ = λ lt. let s = slice_get-get_or ks (length ps) [] lt in cc in
    let past : length ks ≤ length ps = omega arith in
    let all : take (length ps) ks ≡ ks = grind (arith, common_steps) in
    e ∙ all

-- ---- paths

pub no_paths : ArePaths []
no_paths = record { each = λ q h. cc }

among_push : (q p : List ℕ) (ps : List (List ℕ)) → among q (ps ++ p ∷ []) ≡ (among q ps || same q p)
among_push q p ps = grind (arith, common_steps)

pub one_path_more : (ps : List (List ℕ)) (p : List ℕ) → ArePaths ps → path_refusal p ≡ None → ArePaths (ps ++ p ∷ [])
one_path_more ps p are is = record { each = λ q h. by_case q (among q ps) (same q p) refl refl (sym (among_push q p ps) ∙ h) }
  where
    by_case : (q : List ℕ) (a b : Bool) → among q ps ≡ a → same q p ≡ b → (a || b) ≡ true → path_refusal q ≡ None
    by_case q true b e f h = are.each q e
    by_case q false true e f h = subst (λ x. path_refusal x ≡ None) (sym ((bytes_eq-Decides q p).0 f)) is
    by_case q false false e f h = cc
