-- Walking over rows: the ids of their whole bodies, and the attempts that these name.
use Rattle.std.proofs.Common.{◌≡◌, ◌⊎◌, ℕ, zero, suc, ◌+◌, ◌≤◌, max, Bool, true, false, List, [], ◌∷◌}
use Rattle.std.proofs.Common.{slice_index_or, Some, None, Option, is_some, cond, refl, sym, ap, subst, ◌∙◌, inl, inr, arith}
use mathlib.Core.Bool.{true≢false}
use Rattle.std.specs.List.{All}
use Rattle.std.specs.Option.{IfSome}
use Rattle.std.specs.FinMap as map
use Rattle.std.specs.FinMap.{find}
use Rattle.std.specs.Ordering.{nat_cmp}
use Rattle.std.specs.BTreeMap.{is_at}
use Rattle.std.specs.Cmp.Lexicographic.{slice_cmp, nat_list_cmp_total}
use Rattle.acng_head.specs.declared.head.Label.{Label}
use Rattle.acng_head.specs.declared.head.Label.TheVariants.{Fetched, Imported}
use Rattle.acng_head.specs.Records.{IsBoundedLabel}
use Rattle.acng_keeper.specs.Kept.{IdSet}
use Rattle.acng_rows.specs.declared.row.Whole.{Whole}
use Rattle.acng_rows.specs.Rows.{Rows, Row, whole_at, whole_in}
use Rattle.acng_rows.specs.Goods.{IsNamed}
use Rattle.acng_rows.specs.Starts.{AreIds, AreFound, IsFree, HasLast, NamesBelow, NamesUpTo, IsSmall, free_after, free_by, ids_with}
use Rattle.acng_rows.proofs.Ids.{put_own, put_off, some_is, split}

-- a label's attempts below a later number
below_more : (n m : ℕ) (l : Label) → n ≤ m → NamesBelow n l → NamesBelow m l
below_more n m (Fetched first last) up small = omega (arith, up, small)
below_more n m (Imported hash size) up small = tt

after_up : (n : ℕ) (l : Label) → n ≤ free_after n l
after_up n (Fetched first last) = omega arith
after_up n (Imported hash size) = omega arith

after_below : (n : ℕ) (l : Label) → NamesBelow (free_after n l) l
after_below n (Fetched first last) = omega arith
after_below n (Imported hash size) = tt

-- the next number is the old one, or the label's own
after_case : (n : ℕ) (l : Label) → (free_after n l ≡ n) ⊎ NamesUpTo (free_after n l) l
after_case n (Fetched first last) = by n (last + 1)
  where
    by : (a b : ℕ) → (max a b ≡ a) ⊎ (max a b ≡ b)
    by a b = pick (which a b)
      where
        which : (a b : ℕ) → (b ≤ a) ⊎ (a ≤ b)
        which zero b = inr (omega arith)
        which (suc a) zero = inl (omega arith)
        which (suc a) (suc b) = up (which a b)
          where
            up : (b ≤ a) ⊎ (a ≤ b) → (suc b ≤ suc a) ⊎ (suc a ≤ suc b)
            up (inl le) = inl (omega (arith, le))
            up (inr le) = inr (omega (arith, le))

        pick : (b ≤ a) ⊎ (a ≤ b) → (max a b ≡ a) ⊎ (max a b ≡ b)
        pick (inl le) = inl (omega (arith, le))
        pick (inr le) = inr (omega (arith, le))
after_case n (Imported hash size) = inl refl

-- ---- a walk

-- the rest of the entries are the rows', each other whole body is noted, and no other is
pub record Walks (rows : Rows) (rest : List (List ℕ × Row)) (ids : IdSet) (n : ℕ) : Type 0 where
  pub have : All (λ (e : List ℕ × Row). map.get rows e.0 ≡ Some e.1) rest
  pub each : (path : List ℕ) (w : Whole) → whole_at rows path ≡ Some w
      → ((map.contains_key ids w.id ≡ true) × NamesBelow n w.label) ⊎ (whole_in (find (slice_cmp nat_cmp) path rest) ≡ Some w)
  pub only : (id : ℕ) → map.contains_key ids id ≡ true → IsNamed rows id
  pub least : (n ≡ 0) ⊎ HasLast rows n

nothing_there : (id : ℕ) → map.contains_key {X = Unit {0}} {R = nat_cmp} map.empty id ≡ true → ⊥
nothing_there id has = true≢false (sym has ∙ ap is_some (map.get-empty {X = Unit {0}} nat_cmp id))

pub walk_begins : (rows : Rows) (es rest : List (List ℕ × Row)) (ids : IdSet) → map.from_entries es ≡ rows → rest ≡ es → ids ≡ map.empty
    → All (λ (e : List ℕ × Row). find (slice_cmp nat_cmp) e.0 es ≡ Some e.1) es → Walks rows rest ids 0
walk_begins rows es rest ids view whole none all = record {
  have = subst (λ r. All (λ (e : List ℕ × Row). map.get rows e.0 ≡ Some e.1) r) (sym whole)
      (λ k d small. sym (got (slice_index_or es k d).0) ∙ all k d small);
  each = λ path w at. inr (ap (λ r. whole_in (find (slice_cmp nat_cmp) path r)) whole ∙ ap whole_in (got path) ∙ at);
  only = λ id has. absurd (nothing_there id (ap (λ m. map.contains_key m id) (sym none) ∙ has));
  least = inl refl;
}
  where
    got : (path : List ℕ) → find (slice_cmp nat_cmp) path es ≡ map.get rows path
    got path = sym (map.get-from_entries nat_list_cmp_total es path) ∙ ap (λ m. map.get m path) view

module _ (rows : Rows) (path : List ℕ) (row : Row) (rest : List (List ℕ × Row)) (ids : IdSet) (n : ℕ) where
  at_first : All (λ (e : List ℕ × Row). map.get rows e.0 ≡ Some e.1) ((path, row) ∷ rest) → map.get rows path ≡ Some row
  at_first all = all 0 (path, row) (omega arith)

  behind : All (λ (e : List ℕ × Row). map.get rows e.0 ≡ Some e.1) ((path, row) ∷ rest)
      → All (λ (e : List ℕ × Row). map.get rows e.0 ≡ Some e.1) rest
  behind all k d small = all (suc k) d (omega (arith, small))

  noted : (id : ℕ) (o : Option Whole) → map.contains_key ids id ≡ true → map.contains_key (ids_with ids o) id ≡ true
  noted id None has = has
  noted id (Some w) has = split id w.id
      (λ e. ap (map.contains_key (map.insert ids w.id tt)) e ∙ ap is_some (put_own ids w.id tt))
      (λ not. ap is_some (put_off ids w.id tt id not) ∙ has)

  up : (o : Option Whole) → n ≤ free_by n o
  up None = omega arith
  up (Some w) = after_up n w.label

  own : (o : Option Whole) (w : Whole) → o ≡ Some w → (map.contains_key (ids_with ids o) w.id ≡ true) × NamesBelow (free_by n o) w.label
  own None w is = absurd (true≢false (sym (ap is_some is)))
  own (Some x) w is = subst (λ (y : Whole). (map.contains_key (ids_with ids (Some x)) y.id ≡ true) × NamesBelow
      (free_by n (Some x)) y.label)
      (some_is x w is) (ap is_some (put_own ids x.id tt), after_below n x.label)

  only_case : (o : Option Whole) → whole_in (Some row) ≡ o → whole_in (map.get rows path) ≡ o
      → ((id : ℕ) → map.contains_key ids id ≡ true → IsNamed rows id)
      → (id : ℕ) → map.contains_key (ids_with ids o) id ≡ true → IsNamed rows id
  only_case None is at old id has = old id has
  only_case (Some w) is at old id has = split id w.id
      (λ e. record { path = path; whole = w; at = at; is = sym e })
      (λ not. old id (sym (ap is_some (put_off ids w.id tt id not)) ∙ has))

  least_case : (o : Option Whole) → whole_in (map.get rows path) ≡ o → (n ≡ 0) ⊎ HasLast rows n
      → (free_by n o ≡ 0) ⊎ HasLast rows (free_by n o)
  least_case None at was = was
  least_case (Some w) at was = by (after_case n w.label)
    where
      by : (free_after n w.label ≡ n) ⊎ NamesUpTo (free_after n w.label) w.label → (free_after n w.label ≡ 0) ⊎ HasLast rows
          (free_after n w.label)
      by (inl e) = subst (λ m. (m ≡ 0) ⊎ HasLast rows m) (sym e) was
      by (inr u) = inr (record { path = path; whole = w; at = at; named = u })

  each_case : (q : List ℕ) (w : Whole) (b : Bool) → is_at (slice_cmp nat_cmp q) path ≡ b → whole_in
      (cond b (Some row) (find (slice_cmp nat_cmp) q rest)) ≡ Some w
      → ((map.contains_key (ids_with ids row.whole) w.id ≡ true) × NamesBelow (free_by n row.whole) w.label) ⊎
      (whole_in (find (slice_cmp nat_cmp) q rest) ≡ Some w)
  each_case q w true t is = inl (own row.whole w is)
  each_case q w false t is = inr is

  walk_on : Walks rows ((path, row) ∷ rest) ids n → Walks rows rest (ids_with ids row.whole) (free_by n row.whole)
  walk_on a = record {
    have = behind a.have;
    each = λ q w at. by q w (a.each q w at);
    only = only_case row.whole refl (ap whole_in (at_first a.have)) a.only;
    least = least_case row.whole (ap whole_in (at_first a.have)) a.least;
  }
    where
      by : (q : List ℕ) (w : Whole)
          → ((map.contains_key ids w.id ≡ true) × NamesBelow n w.label) ⊎
          (whole_in (find (slice_cmp nat_cmp) q ((path, row) ∷ rest)) ≡ Some w)
          → ((map.contains_key (ids_with ids row.whole) w.id ≡ true) × NamesBelow (free_by n row.whole) w.label) ⊎
          (whole_in (find (slice_cmp nat_cmp) q rest) ≡ Some w)
      by q w (inl p) = inl (noted w.id row.whole p.0, below_more n (free_by n row.whole) w.label (up row.whole) p.1)
      by q w (inr is) = each_case q w (is_at (slice_cmp nat_cmp q) path) refl is

pub walked : (rows : Rows) (path : List ℕ) (row : Row) (before rest : List (List ℕ × Row)) (ids more : IdSet) (n m : ℕ)
    → before ≡ (path, row) ∷ rest
    → more ≡ ids_with ids row.whole → m ≡ free_by n row.whole → Walks rows before ids n → Walks rows rest more m
walked rows path row before rest ids more n m first put free a =
    subst (λ i. Walks rows rest i m) (sym put) (subst (Walks rows rest (ids_with ids row.whole)) (sym free)
    (walk_on rows path row rest ids n (subst (λ es. Walks rows es ids n) first a)))

-- the whole body of the first of the rest is small
pub first_small : (rows : Rows) (path : List ℕ) (row : Row) (before rest : List (List ℕ × Row)) (ids : IdSet) (n : ℕ)
    → before ≡ (path, row) ∷ rest
    → ((q : List ℕ) (w : Whole) → whole_at rows q ≡ Some w → IsSmall w.label) → Walks rows before ids n
    → IfSome row.whole (λ w. IsSmall w.label)
first_small rows path row before rest ids n first small a =
    by row.whole (ap whole_in (at_first rows path row rest ids n (subst (λ es. Walks rows es ids n) first a).have))
  where
    by : (o : Option Whole) → whole_at rows path ≡ o → IfSome o (λ w. IsSmall w.label)
    by None at = tt
    by (Some w) at = small path w at

left_of : {A B : Type 0} → A ⊎ B → (B → ⊥) → A
left_of (inl a) never = a
left_of (inr b) never = absurd (never b)

pub walk_ids : (rows : Rows) (rest : List (List ℕ × Row)) (ids : IdSet) (n : ℕ) → rest ≡ [] → Walks rows rest ids n → AreIds rows ids
walk_ids rows rest ids n none a = record {
  each = λ path w at. (left_of (a.each path w at) (λ is. true≢false (sym (ap is_some is)
      ∙ ap (λ es. is_some (whole_in (find (slice_cmp nat_cmp) path es))) none))).0;
  only = a.only;
}

pub walk_free : (rows : Rows) (rest : List (List ℕ × Row)) (ids : IdSet) (n : ℕ) → rest ≡ [] → Walks rows rest ids n → IsFree rows n
walk_free rows rest ids n none a = record {
  above = λ path w at. (left_of (a.each path w at) (λ is. true≢false (sym (ap is_some is)
      ∙ ap (λ es. is_some (whole_in (find (slice_cmp nat_cmp) path es))) none))).1;
  least = a.least;
}

-- the labels of what was found are small
small_label : (size : ℕ) (l : Label) → IsBoundedLabel size l → IsSmall l
small_label size (Fetched first last) b = b.1
small_label size (Imported hash n) b = tt

pub found_small : (next : ℕ) (rows : Rows) → AreFound next rows → (path : List ℕ) (w : Whole) → whole_at rows path ≡ Some w
    → IsSmall w.label
found_small next rows a path w at = small_label w.size w.label (a.heads path w at).bounded.label
