-- The paths of a desk's whole bodies: those keys of its rows, in byte order, that have one.
use Rattle.std.proofs.Common.{◌≡◌, ℕ, Bool, true, false, ◌||◌, ◌&&◌, List, [], ◌∷◌, map as map_list, cond, refl, sym, ap, ◌∙◌, subst}
use Rattle.std.proofs.Common.{Option, Some, None, is_some, option_map, Bor, option_copied, IfSome, IfNone}
use Rattle.std.specs.Prelude.{T}
use mathlib.Core.Bool.{true≢false}
use Rattle.std.specs.declared.cmp.Ordering.{Ordering}
use Rattle.std.specs.declared.cmp.Ordering.TheVariants.{Less, Equal, Greater}
use Rattle.std.specs.Option.{unwrap_or}
use Rattle.std.specs.List.{filter, list_any, AllByRecursion}
use Rattle.std.specs.List.Sorted.{IsStrictlySortedBy}
use Rattle.std.proofs.lemmas.List.Kept.{IsStrictlySortedBy-filter}
use Rattle.std.specs.Ordering.{nat_cmp, is_lt, is_gt, is_eq, eq_by_cmp, ordering_reverse}
use Rattle.std.specs.Cmp.Lexicographic.{slice_cmp, nat_list_cmp_total}
use Rattle.std.proofs.lemmas.Slice.Eq.{bytes_eq-Decides}
use Rattle.std.proofs.lemmas.Map.Text.{is_eq-slice_cmp}
use Rattle.std.specs.FinMap as map
use Rattle.std.specs.FinMap.Entries.{is_sorted, below_all}
use Rattle.acng_keeper.specs.Handles.{Handle}
use Rattle.acng_keeper.specs.Kept.{Kept, Store, stored}
use Rattle.acng_rows.specs.declared.row.Whole.{Whole}
use Rattle.acng_rows.specs.Paths.{PathsTo}
use Rattle.acng_rows.specs.Rows.{Rows, Row, whole_at, whole_in, IsAfter}
use Rattle.acng_desk.specs.declared.entry.Held.{Held}
use Rattle.acng_desk.specs.House.{Plain, House}
use Rattle.acng_desk.specs.Begins.{HasRested}
use Rattle.acng_desk.specs.Calls.{HoldsRow}
use Rattle.acng_desk.specs.Looks.{row_facts}
use Rattle.acng_reach.specs.Bodies.{Rest, is_above, first_where, first_above}
use Rattle.acng_reach.specs.Caches.{Cache}
use Rattle.acng_reach.specs.Desks.{has_whole, held_paths, text_of, cache_of, rest_of}
use Rattle.acng_reach.specs.Sets.{same, among, Rises}

-- ---- the keys of a map rise

left : (a b : Bool) → T (a && b) → a ≡ true
left true b h = refl
left false b h = absurd h

right : (a b : Bool) → T (a && b) → T b
right true b h = h
right false b h = absurd h

is_less : (o : Ordering) → is_lt o ≡ true → o ≡ Less
is_less Less h = refl
is_less Equal h = absurd (true≢false (sym h))
is_less Greater h = absurd (true≢false (sym h))

above_all : {X : Type 0} (k : List ℕ) (es : List (List ℕ × X)) → T (below_all (slice_cmp nat_cmp) k es)
    → AllByRecursion (λ y. slice_cmp nat_cmp k y ≡ Less) (map_list (λ e. e.0) es)
above_all k [] h = tt
above_all k (e ∷ es) h = (is_less (slice_cmp nat_cmp k e.0) (left _ _ h), above_all k es (right _ _ h))

sorted_keys : {X : Type 0} (es : List (List ℕ × X)) → T (is_sorted (slice_cmp nat_cmp) es) → Rises (map_list (λ e. e.0) es)
unfolding IsStrictlySortedBy
sorted_keys [] h = tt
sorted_keys (e ∷ es) h = (above_all e.0 es (both _ _ h), sorted_keys es (right _ _ h))
  where
    both : (a b : Bool) → T (a && b) → T a
    both true b h = tt
    both false b h = absurd h

pub held_rise : (rows : Rows) → Rises (held_paths rows)
held_rise rows =
    IsStrictlySortedBy-filter (slice_cmp nat_cmp) (has_whole rows) (map.keys rows)
    (sorted_keys (map.entries rows) (map.entries_sorted rows))

-- ---- a path is among them exactly where it has a whole body

and_false : (a : Bool) → false ≡ (a && false)
and_false true = refl
and_false false = refl

module _ (test : List ℕ → Bool) (q x : List ℕ) (xs : List (List ℕ)) where
  is_it : same q x ≡ true → test q ≡ test x
  is_it e = ap test ((bytes_eq-Decides q x).0 e)

  filter_case : (a b : Bool) → test x ≡ a → same q x ≡ b → among q (filter test xs) ≡ (test q && among q xs)
      → among q (cond a (x ∷ filter test xs) (filter test xs)) ≡ (test q && (b || among q xs))
  filter_case true true e f more =
      ap (λ b. b || among q (filter test xs)) f ∙ sym (ap (λ a. a && (true || among q xs)) (is_it f ∙ e))
  filter_case true false e f more = ap (λ b. b || among q (filter test xs)) f ∙ more
  filter_case false true e f more =
      more ∙ ap (λ a. a && among q xs) (is_it f ∙ e) ∙ sym (ap (λ a. a && (true || among q xs)) (is_it f ∙ e))
  filter_case false false e f more = more

among_filter : (test : List ℕ → Bool) (q : List ℕ) (ps : List (List ℕ)) → among q (filter test ps) ≡ (test q && among q ps)
among_filter test q [] = and_false (test q)
among_filter test q (x ∷ xs) = filter_case test q x xs (test x) (same q x) refl refl (among_filter test q xs)

among_cmp : (q : List ℕ) (ks : List (List ℕ)) → list_any (eq_by_cmp (slice_cmp nat_cmp) q) ks ≡ among q ks
among_cmp q [] = refl
among_cmp q (k ∷ ks) =
    ap (λ b. b || list_any (eq_by_cmp (slice_cmp nat_cmp) q) ks) (is_eq-slice_cmp q k) ∙ ap (λ b. same q k || b) (among_cmp q ks)

pub held_is : (rows : Rows) (q : List ℕ) → among q (held_paths rows) ≡ has_whole rows q
held_is rows q =
    among_filter (has_whole rows) q (map.keys rows)
    ∙ ap (λ b. has_whole rows q && b) (sym (among_cmp q (map.keys rows)) ∙ sym (map.contains_key-keys rows q))
    ∙ by_case (map.get rows q)
  where
    by_row : (a : Bool) → (a && true) ≡ a
    by_row true = refl
    by_row false = refl

    by_case : (o : Option Row) → (is_some (whole_in o) && is_some o) ≡ is_some (whole_in o)
    by_case None = refl
    by_case (Some r) = by_row (is_some r.whole)

told_some : (o : Option Whole) → is_some (option_map row_facts o) ≡ is_some o
told_some None = refl
told_some (Some w) = refl

-- what a desk tells of a path is there where the path is among them
pub told_held : (rows : Rows) (q : List ℕ) → is_some (option_map row_facts (whole_at rows q)) ≡ among q (held_paths rows)
told_held rows q = told_some (whole_at rows q) ∙ sym (held_is rows q)

pub not_held : (rows : Rows) (q : List ℕ) → among q (held_paths rows) ≡ true → whole_at rows q ≡ None → ⊥
not_held rows q has none = true≢false (sym has ∙ held_is rows q ∙ ap is_some none)

-- ---- the first of a rising list that passes a test

or_right : (a b : Bool) → b ≡ true → (a || b) ≡ true
or_right true b h = refl
or_right false b h = h

self_same : (x : List ℕ) → same x x ≡ true
self_same x = (bytes_eq-Decides x x).1 refl

turned : (o : Ordering) → o ≡ Less → is_gt (ordering_reverse o) ≡ true
turned Less h = refl
turned Equal h = cc
turned Greater h = cc

-- where p is above x, it is greater
greater : (x p : List ℕ) → slice_cmp nat_cmp x p ≡ Less → is_gt (slice_cmp nat_cmp p x) ≡ true
greater x p h = ap is_gt (nat_list_cmp_total.antisymm p x) ∙ turned (slice_cmp nat_cmp x p) h

above_case : (k p x : List ℕ) (more : Bool) (b : Bool) → same p x ≡ b → slice_cmp nat_cmp k x ≡ Less
    → (more ≡ true → slice_cmp nat_cmp k p ≡ Less) → (b || more) ≡ true → slice_cmp nat_cmp k p ≡ Less
above_case k p x more true e less later h = subst (λ y. slice_cmp nat_cmp k y ≡ Less) (sym ((bytes_eq-Decides p x).0 e)) less
above_case k p x more false e less later h = later h

above_among : (k p : List ℕ) (ks : List (List ℕ)) → AllByRecursion (λ y. slice_cmp nat_cmp k y ≡ Less) ks → among p ks ≡ true
    → slice_cmp nat_cmp k p ≡ Less
above_among k p [] all has = absurd (true≢false (sym has))
above_among k p (x ∷ xs) all has =
    above_case k p x (among p xs) (same p x) refl all.0 (λ h. above_among k p xs all.1 h) has

module _ (test : List ℕ → Bool) where
  first_case : (p x : List ℕ) (xs : List (List ℕ)) (rest : Option (List ℕ)) (a b : Bool) → same p x ≡ a → test x ≡ b
      → AllByRecursion (λ y. slice_cmp nat_cmp x y ≡ Less) xs → test p ≡ true
      → ((q : List ℕ) → among q (x ∷ xs) ≡ true → test q ≡ true → is_gt (slice_cmp nat_cmp p q) ≡ false)
      → (among p xs ≡ true → rest ≡ Some p) → (a || among p xs) ≡ true → cond b (Some x) rest ≡ Some p
  first_case p x xs rest true true e f above is least later h = ap (λ y. Some y) (sym ((bytes_eq-Decides p x).0 e))
  first_case p x xs rest true false e f above is least later h =
      absurd (true≢false (sym is ∙ ap test ((bytes_eq-Decides p x).0 e) ∙ f))
  first_case p x xs rest false true e f above is least later h =
      absurd (true≢false (sym (greater x p (above_among x p xs above h))
      ∙ least x (ap (λ b. b || among x xs) (self_same x)) f))
  first_case p x xs rest false false e f above is least later h = later h

  found_first : (ps : List (List ℕ)) (p : List ℕ) → Rises ps → among p ps ≡ true → test p ≡ true
      → ((q : List ℕ) → among q ps ≡ true → test q ≡ true → is_gt (slice_cmp nat_cmp p q) ≡ false) → first_where test ps ≡ Some p
  unfolding IsStrictlySortedBy
  found_first [] p r has is least = absurd (true≢false (sym has))
  found_first (x ∷ xs) p r has is least =
      first_case p x xs (first_where test xs) (same p x) (test x) refl refl r.0 is least
      (λ h. found_first xs p r.1 h is (λ q k t. least q (or_right (same q x) (among q xs) k) t)) has

  none_first : (ps : List (List ℕ)) → ((q : List ℕ) → among q ps ≡ true → test q ≡ false) → first_where test ps ≡ None
  none_first [] h = refl
  none_first (x ∷ xs) h =
      ap (λ b. cond b (Some x) (first_where test xs)) (h x (ap (λ b. b || among x xs) (self_same x)))
      ∙ none_first xs (λ q k. h q (or_right (same q x) (among q xs) k))

-- ---- a walk over the rows goes to the next of these paths

abbrev test_of : Option (List ℕ) → List ℕ → Bool
test_of None q = true
test_of (Some a) q = is_above a q

first_by : (after : Option (List ℕ)) (ps : List (List ℕ)) → first_where (test_of after) ps ≡ first_above after ps
first_by None ps = refl
first_by (Some a) ps = refl

after_test : (after : Option (List ℕ)) (q : List ℕ) → IsAfter after q → test_of after q ≡ true
after_test None q h = refl
after_test (Some a) q h = ap is_lt h

test_after : (after : Option (List ℕ)) (q : List ℕ) → test_of after q ≡ true → IsAfter after q
test_after None q h = tt
test_after (Some a) q h = is_less (slice_cmp nat_cmp a q) h

never : (after : Option (List ℕ)) (rows : Rows) (q : List ℕ) → (IsAfter after q → whole_at rows q ≡ None) → has_whole rows q ≡ true
    → test_of after q ≡ false
never after rows q none has = by_case (test_of after q) refl
  where
    by_case : (b : Bool) → test_of after q ≡ b → b ≡ false
    by_case true e = absurd (true≢false (sym has ∙ ap is_some (none (test_after after q e))))
    by_case false e = refl

pub next_is : (rows : Rows) (after : Option (List ℕ)) (o : Option (Bor (List ℕ)))
    → IfSome o (λ p. is_some (whole_at rows p.now) ≡ true) → IfSome o (λ p. IsAfter after p.now)
    → IfSome o (λ p. (q : List ℕ) → IsAfter after q → is_some (whole_at rows q) ≡ true → is_gt (slice_cmp nat_cmp p.now q) ≡ false)
    → IfNone o ((q : List ℕ) → IsAfter after q → whole_at rows q ≡ None) → option_copied o ≡ first_above after (held_paths rows)
next_is rows after None has up least none =
    sym (none_first (test_of after) (held_paths rows) (λ q k. never after rows q (none q) (sym (held_is rows q) ∙ k)))
    ∙ first_by after (held_paths rows)
next_is rows after (Some p) has up least none =
    sym (found_first (test_of after) (held_paths rows) p.now (held_rise rows) (held_is rows p.now ∙ has) (after_test after p.now up)
    (λ q k t. least q (test_after after q t) (sym (held_is rows q) ∙ k)))
    ∙ first_by after (held_paths rows)

-- ---- what fetching leaves

abbrev cache_by : Plain → Store → Cache
cache_by p bodies = record { paths = held_paths p.rows; text = λ path. text_of bodies (whole_at p.rows path) }

abbrev no_text : Plain → Cache
no_text p = record { paths = held_paths p.rows; text = λ path. [] }

pub cache_same : (tells : Bool) (old new : House) → new.plain ≡ old.plain → (tells ≡ true → HasRested old.kept new.kept)
    → cache_of tells new ≡ cache_of tells old
cache_same true old new plain rests =
    ap (λ p. cache_by p new.kept.bodies) plain ∙ ap (λ s. cache_by old.plain s.bodies) (rests refl).stored_is
cache_same false old new plain rests = ap no_text plain

pub rest_same : (tells : Bool) (old new : House) → new.plain ≡ old.plain → (tells ≡ true → HasRested old.kept new.kept)
    → new.faults.may_fail ≡ old.faults.may_fail → rest_of tells new ≡ rest_of tells old
rest_same true old new plain rests fails =
    ap (λ p. record { plain = p; stored = stored new.kept; trail = new.kept.trail; may_slip = new.faults.may_fail }) plain
    ∙ ap (λ s. record { plain = old.plain; stored = s; trail = new.kept.trail; may_slip = new.faults.may_fail }) (rests refl).stored_is
    ∙ ap (λ t. record { plain = old.plain; stored = stored old.kept; trail = t; may_slip = new.faults.may_fail }) (rests refl).trail_is
    ∙ ap (λ b. record { plain = old.plain; stored = stored old.kept; trail = old.kept.trail; may_slip = b }) fails
rest_same false old new plain rests fails =
    ap (λ p. record (rest_of false new) { plain = p }) plain ∙ ap (λ b. record (rest_of false old) { may_slip = b }) fails

-- the bytes of a handle are the text of the whole body
pub holds_text : {F : Type 0} (handle : F → Handle) (tells : Bool) (k : Kept) (o : Option Whole) (held : Held F)
    → HoldsRow handle tells k o held → tells ≡ true → (handle held.body).bytes ≡ cond tells (text_of k.bodies o) []
holds_text handle tells k None held h t = absurd h
holds_text handle tells k (Some w) held h t =
    sym (ap (λ x. unwrap_or x []) (h.body.bytes t)) ∙ sym (ap (λ b. cond b (text_of k.bodies (Some w)) []) t)
