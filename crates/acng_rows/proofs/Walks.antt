-- Going through the entries of a tree after a path.
use Rattle.std.proofs.Common.{◌≡◌, ℕ, suc, Bool, true, false, ◌&&◌, List, [], ◌∷◌, slice_index_or, Some, None}
use Rattle.std.proofs.Common.{Option, is_some, cond, refl, sym, ap, subst, ◌∙◌, arith}
use mathlib.Core.Bool.{true≢false}
use Rattle.std.specs.List.{All, AllByRecursion, filter}
use Rattle.std.specs.List.Sorted.{IsStrictlySortedBy}
use Rattle.std.proofs.lemmas.List.Kept.{IsStrictlySortedBy-filter}
use Rattle.std.specs.Map.{keys_of}
use Rattle.std.specs.FinMap as map
use Rattle.std.specs.FinMap.{find}
use Rattle.std.specs.Ordering.{nat_cmp, is_gt, is_lt, is_eq}
use Rattle.std.specs.Cmp.Lexicographic.{slice_cmp, nat_list_cmp_total}
use Rattle.std.specs.declared.cmp.Ordering.{Ordering}
use Rattle.std.specs.declared.cmp.Ordering.TheVariants.{Less}
use Rattle.std.specs.declared.ops.Bound.TheVariants.{Unbounded}
use Rattle.std.specs.BTreeMap.{is_at}
use Rattle.std.specs.BTreeMap.Range.{IsFromStart, IsInRange, range_contains, entries_between}
use Rattle.acng_rows.specs.declared.row.Whole.{Whole}
use Rattle.acng_rows.specs.Rows.{Rows, Row, whole_at, whole_in, IsAfter, start_of}
use Rattle.acng_rows.proofs.Points.{tied, tie_self}

-- ---- a part of a list of entries, by their keys

module _ (p : List ℕ → Bool) where
  keys_case : (b : Bool) (k : List ℕ) (v : Row) (es : List (List ℕ × Row)) (ks : List (List ℕ)) → keys_of es ≡ ks
      → keys_of (cond b ((k, v) ∷ es) es) ≡ cond b (k ∷ ks) ks
  keys_case true k v es ks is = ap (λ xs. k ∷ xs) is
  keys_case false k v es ks is = is

  keys-filter : (es : List (List ℕ × Row)) → keys_of (filter (λ (e : List ℕ × Row). p e.0) es) ≡ filter p (keys_of es)
  keys-filter [] = refl
  keys-filter (e ∷ es) = keys_case (p e.0) e.0 e.1 (filter (λ (x : List ℕ × Row). p x.0) es) (filter p (keys_of es)) (keys-filter es)

  find_case : (q k : List ℕ) (v : Row) (es rest : List (List ℕ × Row)) (b c : Bool) → p k ≡ b → is_at (slice_cmp nat_cmp q) k ≡ c
      → p q ≡ true
      → find (slice_cmp nat_cmp) q rest ≡ find (slice_cmp nat_cmp) q es
      → find (slice_cmp nat_cmp) q (cond b ((k, v) ∷ rest) rest) ≡ cond c (Some v) (find (slice_cmp nat_cmp) q es)
  find_case q k v es rest true c t u has is = ap (λ d. cond d (Some v) (find (slice_cmp nat_cmp) q rest)) u ∙ ap (cond c (Some v)) is
  find_case q k v es rest false true t u has is = absurd (true≢false (sym has ∙ ap p (tied q k u) ∙ t))
  find_case q k v es rest false false t u has is = is

  find-filter : (q : List ℕ) (es : List (List ℕ × Row)) → p q ≡ true
      → find (slice_cmp nat_cmp) q (filter (λ (e : List ℕ × Row). p e.0) es) ≡ find (slice_cmp nat_cmp) q es
  find-filter q [] has = refl
  find-filter q (e ∷ es) has = find_case q e.0 e.1 es (filter (λ (x : List ℕ × Row). p x.0) es) (p e.0)
      (is_at (slice_cmp nat_cmp q) e.0) refl refl has
      (find-filter q es has)

-- ---- a walk

-- the rest of the entries after the path, in order: each is the rows', and each whole body that is still to come is there
pub record Passes (rows : Rows) (after : Option (List ℕ)) (rest : List (List ℕ × Row)) : Type 0 where
  pub sorted : IsStrictlySortedBy (slice_cmp nat_cmp) (keys_of rest)
  pub have : AllByRecursion (λ (e : List ℕ × Row). (map.get rows e.0 ≡ Some e.1) × IsAfter after e.0) rest
  pub ahead : (q : List ℕ) (w : Whole) → IsAfter after q → whole_at rows q ≡ Some w → whole_in (find (slice_cmp nat_cmp) q rest) ≡ Some w

is_less : (o : Ordering) → o ≡ Less → is_lt o ≡ true
is_less o is = ap is_lt is

abbrev inside : Option (List ℕ) → List ℕ → Bool
inside after q = range_contains (slice_cmp nat_cmp) (start_of after) Unbounded q

from_start : (after : Option (List ℕ)) (q : List ℕ) → IsFromStart (slice_cmp nat_cmp) (start_of after) q → IsAfter after q
from_start None q is = tt
from_start (Some p) q is = is

after_inside : (after : Option (List ℕ)) (q : List ℕ) → IsAfter after q → inside after q ≡ true
after_inside None q is = refl
after_inside (Some p) q is = ap (λ b. b && true) (is_less (slice_cmp nat_cmp p q) is)

found_in : (es : List (List ℕ × Row)) (rows : Rows) → map.from_entries es ≡ rows → (q : List ℕ)
    → find (slice_cmp nat_cmp) q es ≡ map.get rows q
found_in es rows view q = sym (map.get-from_entries nat_list_cmp_total es q) ∙ ap (λ m. map.get m q) view

all_got : (P : List ℕ × Row → Type 0) (es : List (List ℕ × Row)) → All P es → AllByRecursion P es
all_got P [] all = tt
all_got P (e ∷ es) all = (all 0 e (omega arith), all_got P es (λ k d small. all (suc k) d (omega (arith, small))))

pub walk_from : (rows : Rows) (after : Option (List ℕ)) (es rest : List (List ℕ × Row)) → map.from_entries es ≡ rows
    → IsStrictlySortedBy (slice_cmp nat_cmp) (keys_of es)
    → All (λ (e : List ℕ × Row). IsInRange (slice_cmp nat_cmp) (start_of after) Unbounded e.0 ×
    (find (slice_cmp nat_cmp) e.0 es ≡ Some e.1)) rest
    → rest ≡ entries_between (slice_cmp nat_cmp) (start_of after) Unbounded es → Passes rows after rest
walk_from rows after es rest view sorted all is = record {
  sorted = subst (λ xs. IsStrictlySortedBy (slice_cmp nat_cmp) (keys_of xs)) (sym is)
      (subst (IsStrictlySortedBy (slice_cmp nat_cmp)) (sym (keys-filter (inside after) es))
      (IsStrictlySortedBy-filter (slice_cmp nat_cmp) (inside after) (keys_of es) sorted));
  have = all_got (λ e. (map.get rows e.0 ≡ Some e.1) × IsAfter after e.0) rest
      (λ k d small. let h = all k d small in let e = slice_index_or rest k d in (
        sym (found_in es rows view e.0)
            ∙ h.1,
        from_start after e.0 h.0.0,
      ));
  ahead = λ q w up at. ap (λ xs. whole_in (find (slice_cmp nat_cmp) q xs)) is
      ∙ ap whole_in (find-filter (inside after) q es (after_inside after q up) ∙ found_in es rows view q) ∙ at;
}

module _ (rows : Rows) (after : Option (List ℕ)) (path : List ℕ) (row : Row) (before rest : List (List ℕ × Row))
    (first : before ≡ (path, row) ∷ rest)
    (a : Passes rows after before) where
  here : Passes rows after ((path, row) ∷ rest)
  here = subst (Passes rows after) first a

  next_case : (q : List ℕ) (w : Whole) (b : Bool) → is_some row.whole ≡ false → whole_in
      (cond b (Some row) (find (slice_cmp nat_cmp) q rest)) ≡ Some w
      → whole_in (find (slice_cmp nat_cmp) q rest) ≡ Some w
  next_case q w true none is = absurd (true≢false (sym (ap is_some is) ∙ none))
  next_case q w false none is = is

  -- a row with no whole body is passed
  pub walk_past : is_some row.whole ≡ false → Passes rows after rest
  unfolding IsStrictlySortedBy
  walk_past none = record {
    sorted = here.sorted.1;
    have = here.have.1;
    ahead = λ q w up at. next_case q w (is_at (slice_cmp nat_cmp q) path) none (here.ahead q w up at);
  }

  at_here : map.get rows path ≡ Some row
  at_here = here.have.0.0

  pub walk_held : is_some row.whole ≡ true → is_some (whole_at rows path) ≡ true
  walk_held has = ap (λ o. is_some (whole_in o)) at_here ∙ has

  pub walk_after : IsAfter after path
  walk_after = here.have.0.1

  not_above : (o : Ordering) → o ≡ Less → is_gt o ≡ false
  not_above o is = ap is_gt is

  -- a key of the rest is above
  above_case : (e : List ℕ × Row) (q : List ℕ) (w : Whole) (o : Option Row) (b : Bool) → is_at (slice_cmp nat_cmp q) e.0 ≡ b
      → slice_cmp nat_cmp path e.0 ≡ Less → (whole_in o ≡ Some w → slice_cmp nat_cmp path q ≡ Less)
      → whole_in (cond b (Some e.1) o) ≡ Some w
      → slice_cmp nat_cmp path q ≡ Less
  above_case e q w o true t less more is = subst (λ k. slice_cmp nat_cmp path k ≡ Less) (sym (tied q e.0 t)) less
  above_case e q w o false t less more is = more is

  -- a key of the rest is above
  above_rest : (es : List (List ℕ × Row)) (q : List ℕ) (w : Whole) → AllByRecursion (λ k. slice_cmp nat_cmp path k ≡ Less) (keys_of es)
      → whole_in (find (slice_cmp nat_cmp) q es) ≡ Some w → slice_cmp nat_cmp path q ≡ Less
  above_rest [] q w all is = absurd (true≢false (sym (ap is_some is)))
  above_rest (e ∷ es) q w all is = above_case e q w (find (slice_cmp nat_cmp) q es) (is_at (slice_cmp nat_cmp q) e.0) refl all.0
      (above_rest es q w all.1) is

  self_not_above : (q : List ℕ) → q ≡ path → is_gt (slice_cmp nat_cmp path q) ≡ false
  self_not_above q e = subst (λ k. is_gt (slice_cmp nat_cmp path k) ≡ false) (sym e) (not_gt (slice_cmp nat_cmp path path) (tie_self path))
    where
      not_gt : (o : Ordering) → is_eq o ≡ true → is_gt o ≡ false
      not_gt o is = grind (arith, is)

  is_there : (o : Option Whole) → is_some o ≡ true → (w : Whole) × (o ≡ Some w)
  is_there None is = absurd (true≢false (sym is))
  is_there (Some w) is = (w, refl)

  -- the first row with a whole body is the least
  pub walk_least : (q : List ℕ) → IsAfter after q → is_some (whole_at rows q) ≡ true → is_gt (slice_cmp nat_cmp path q) ≡ false
  unfolding IsStrictlySortedBy
  walk_least q up has =
      let w = is_there (whole_at rows q) has in
      by (is_at (slice_cmp nat_cmp q) path) refl w.0 (here.ahead q w.0 up w.1)
    where
      by : (b : Bool) → is_at (slice_cmp nat_cmp q) path ≡ b → (w : Whole) → whole_in
          (cond b (Some row) (find (slice_cmp nat_cmp) q rest)) ≡ Some w
          → is_gt (slice_cmp nat_cmp path q) ≡ false
      by true t w is = self_not_above q (tied q path t)
      by false t w is = not_above (slice_cmp nat_cmp path q) (above_rest rest q w here.sorted.0 is)

none_is : (o : Option Whole) → ((w : Whole) → o ≡ Some w → ⊥) → o ≡ None
none_is None never = refl
none_is (Some w) never = absurd (never w refl)

pub walk_none : (rows : Rows) (after : Option (List ℕ)) (rest : List (List ℕ × Row)) → rest ≡ [] → Passes rows after rest
    → (q : List ℕ) → IsAfter after q → whole_at rows q ≡ None
walk_none rows after rest none a q up = none_is (whole_at rows q) (λ w at.
    true≢false (sym (ap is_some (a.ahead q w up at)) ∙ ap (λ es. is_some (whole_in (find (slice_cmp nat_cmp) q es))) none))
