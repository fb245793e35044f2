-- No path stands twice in a rising list.
use Rattle.std.proofs.Common.{◌≡◌, ℕ, zero, suc, ◌<◌, false, ◌||◌, List, [], ◌∷◌, length, take, Ordering, Less, Equal, Greater, get_or, refl, sym, ap, ◌∙◌, arith}
use Rattle.std.specs.Ordering.{nat_cmp, is_eq, ordering_reverse}
use Rattle.std.specs.Cmp.Lexicographic.{slice_cmp, nat_list_cmp_total}
use Rattle.std.specs.List.{AllByRecursion}
use Rattle.std.specs.List.Sorted.{IsStrictlySortedBy}
use Rattle.std.proofs.lemmas.Map.Text.{is_eq-slice_cmp}
use Rattle.acng_reach.specs.Sets.{same, among, Rises}
use Rattle.acng_expire.specs.Rounds.{AreApart}

turned : (o : Ordering) → o ≡ Less → is_eq (ordering_reverse o) ≡ false
turned Less h = refl
turned Equal h = cc
turned Greater h = refl

same_above : (p q : List ℕ) → slice_cmp nat_cmp p q ≡ Less → same q p ≡ false
same_above p q h = sym (is_eq-slice_cmp q p) ∙ ap is_eq (nat_list_cmp_total.antisymm q p) ∙ turned (slice_cmp nat_cmp p q) h

above_at : (p : List ℕ) (ks : List (List ℕ)) (i : ℕ) → AllByRecursion (λ k. slice_cmp nat_cmp p k ≡ Less) ks → i < length ks
    → slice_cmp nat_cmp p (get_or ks i []) ≡ Less
above_at p [] i a lt = absurd (omega arith)
above_at p (k ∷ ks) zero a lt = a.0
above_at p (k ∷ ks) (suc i) a lt = above_at p ks i a.1 (omega arith)

each_apart : (ks : List (List ℕ)) → Rises ks → (i : ℕ) → i < length ks → among (get_or ks i []) (take i ks) ≡ false
unfolding IsStrictlySortedBy
each_apart [] r i lt = absurd (omega arith)
each_apart (k ∷ ks) r zero lt = refl
each_apart (k ∷ ks) r (suc i) lt =
    ap (λ b. b || among (get_or ks i []) (take i ks)) (same_above k (get_or ks i []) (above_at k ks i r.0 (omega arith)))
    ∙ each_apart ks r.1 i (omega arith)

pub are_apart : (ks : List (List ℕ)) → Rises ks → AreApart ks
are_apart ks r = record { each = each_apart ks r }
