-- A set of texts that is kept as the keys of a tree.
use Rattle.std.proofs.Common.{◌≡◌, ℕ, Bool, true, false, ◌||◌, List, [], ◌∷◌, map, cond, refl, sym, ap, ◌∙◌, bytes_eq}
use Rattle.std.specs.declared.cmp.Ordering.{Ordering}
use Rattle.std.specs.declared.cmp.Ordering.TheVariants.{Less, Equal, Greater}
use Rattle.std.specs.Ordering.{nat_cmp, is_eq, match_ordering}
use Rattle.std.specs.List.{list_any, AllByRecursion}
use Rattle.std.specs.List.Sorted.{IsStrictlySortedBy}
use Rattle.std.specs.Cmp.Lexicographic.{slice_cmp}
use Rattle.std.specs.BTreeMap.{is_at}
use Rattle.std.specs.BTreeSet.{insert_key}
use Rattle.std.proofs.lemmas.Slice.Eq.{bytes_eq-Decides}
use Rattle.std.proofs.lemmas.Map.Text.{is_eq-slice_cmp}
use Rattle.acng_reach.specs.Sets.{same, among, Rises}

-- ---- tests in another order

swap_first : (a b c : Bool) → (a || (b || c)) ≡ (b || (a || c))
swap_first true true c = refl
swap_first true false c = refl
swap_first false true c = refl
swap_first false false c = refl

twice : (a b : Bool) → (a || b) ≡ (a || (a || b))
twice true b = refl
twice false b = refl

-- ---- keys, each with a text

abbrev pub text_cmp : {K : Type 0} → (K → List ℕ) → K → K → Ordering
text_cmp text a b = slice_cmp nat_cmp (text a) (text b)

pub among_keys : {K : Type 0} (text : K → List ℕ) (q : List ℕ) (ks : List K)
    → list_any (is_at (λ k. slice_cmp nat_cmp q (text k))) ks ≡ among q (map text ks)
among_keys text q [] = refl
among_keys text q (k ∷ ks) =
    ap (λ b. b || list_any (is_at (λ x. slice_cmp nat_cmp q (text x))) ks) (is_eq-slice_cmp q (text k))
    ∙ ap (λ b. same q (text k) || b) (among_keys text q ks)

put_by : {K : Type 0} (text : K → List ℕ) (q : List ℕ) (k x : K) (xs : List K) (o : Ordering) → text_cmp text k x ≡ o
    → among q (map text (insert_key (text_cmp text) xs k)) ≡ (same q (text k) || among q (map text xs))
    → among q (map text (match_ordering o (k ∷ x ∷ xs) (x ∷ xs) (x ∷ insert_key (text_cmp text) xs k)))
    ≡ (same q (text k) || (same q (text x) || among q (map text xs)))
put_by text q k x xs Less e more = refl
put_by text q k x xs Equal e more =
    let is : text k ≡ text x = (bytes_eq-Decides (text k) (text x)).0 (sym (is_eq-slice_cmp (text k) (text x)) ∙ ap is_eq e) in
    twice (same q (text x)) (among q (map text xs))
    ∙ ap (λ t. same q t || (same q (text x) || among q (map text xs))) (sym is)
put_by text q k x xs Greater e more =
    ap (λ b. same q (text x) || b) more ∙ swap_first (same q (text x)) (same q (text k)) (among q (map text xs))

pub among_put : {K : Type 0} (text : K → List ℕ) (q : List ℕ) (k : K) (ks : List K)
    → among q (map text (insert_key (text_cmp text) ks k)) ≡ (same q (text k) || among q (map text ks))
among_put text q k [] = refl
among_put text q k (x ∷ xs) = put_by text q k x xs (text_cmp text k x) refl (among_put text q k xs)

-- ---- their order

rise_after : {K : Type 0} (text : K → List ℕ) (k : K) (ks : List K) → AllByRecursion (λ y. text_cmp text k y ≡ Less) ks
    → AllByRecursion (λ y. slice_cmp nat_cmp (text k) y ≡ Less) (map text ks)
rise_after text k [] h = tt
rise_after text k (x ∷ xs) h = (h.0, rise_after text k xs h.1)

pub rise : {K : Type 0} (text : K → List ℕ) (ks : List K) → IsStrictlySortedBy (text_cmp text) ks → Rises (map text ks)
unfolding IsStrictlySortedBy
rise text [] h = tt
rise text (k ∷ ks) h = (rise_after text k ks h.0, rise text ks h.1)
