-- The rounds of a run: what each makes of each path, and both together.
use Rattle.std.proofs.Common.{◌≡◌, ℕ, ◌<◌, ◌+◌, min, Bool, true, false, List, Option, Some, None, is_some, option_map, cond, refl, sym, ap, ◌∙◌, arith, take, length, get_or}
use mathlib.Core.Bool.{true≢false}
use Rattle.std.proofs.lemmas.Slice.Eq.{bytes_eq-Decides}
use Rattle.acng_rows.specs.declared.row.Whole.{Whole}
use Rattle.acng_rows.specs.Rows.{Row, whole_in}
use Rattle.acng_desk.specs.House.{Plain}
use Rattle.acng_reach.specs.Sets.{same, among}
use Rattle.acng_reach.specs.Desks.{has_whole}
use Rattle.acng_expire.specs.Runs.{new_mark, least}
use Rattle.acng_expire.specs.Places.{Place, place_at, whole_of, seconds, moment_of, remarked, remarked_row, remarked_place, is_due, emptied_row, emptied, cleared, expired}
use Rattle.acng_expire.specs.Rounds.{Run, swept, with_marks, with_removals, HasPlaces, changed_at, how_many, is_due_at, is_doomed}
use Rattle.acng_expire.proofs.Changes.{bare_place, else_same}
use Rattle.acng_expire.proofs.Sweeps.{IsSettled, swept_step, many_same}

-- ---- once more changes nothing

least_again : (mark : Option ℕ) (now : ℕ) → min (least mark now) now ≡ least mark now
least_again None now = grind arith
least_again (Some m) now = grind arith

mark_again : (now : ℕ) (reached : Bool) (mark : Option ℕ) → new_mark reached now (new_mark reached now mark) ≡ new_mark reached now mark
mark_again now true mark = refl
mark_again now false mark = ap (λ m. Some m) (least_again mark now)

pub seconds_of : (n : Option ℕ) → seconds (moment_of n) ≡ n
seconds_of None = refl
seconds_of (Some n) = refl

remarked_again : (now : ℕ) (reached : Bool) (w : Whole) → remarked now reached (remarked now reached w) ≡ remarked now reached w
remarked_again now reached w =
    ap (λ n. record w { mark = moment_of (new_mark reached now n) }) (seconds_of (new_mark reached now (seconds w.mark)))
    ∙ ap (λ n. record w { mark = moment_of n }) (mark_again now reached (seconds w.mark))

whole_again : (now : ℕ) (reached : Bool) (o : Option Whole)
    → option_map (remarked now reached) (option_map (remarked now reached) o) ≡ option_map (remarked now reached) o
whole_again now reached None = refl
whole_again now reached (Some w) = ap (λ x. Some x) (remarked_again now reached w)

row_again : (now : ℕ) (reached : Bool) (o : Option Row) → remarked_row now reached (remarked_row now reached o) ≡ remarked_row now reached o
row_again now reached None = refl
row_again now reached (Some r) = ap (λ (w : Option Whole). Some (record { whole = w; out = r.out })) (whole_again now reached r.whole)

pub marks_settled : (now : ℕ) (reached : List ℕ → Bool) → IsSettled (λ q p. remarked_place now (reached q) p)
marks_settled now reached q p = ap (λ r. record { row = r; part = p.part }) (row_again now (reached q) p.row)

pub emptied_bare : (o : Option Row) → whole_in (emptied_row o) ≡ None
emptied_bare None = refl
emptied_bare (Some r) = by_case (is_some r.out)
  where
    by_case : (b : Bool) → whole_in (cond b (Some (record { whole = None; out = r.out })) None) ≡ None
    by_case true = refl
    by_case false = refl

pub removals_settled : (limit now : ℕ) → IsSettled (λ q p. cleared limit now p)
removals_settled limit now q p = by_case (is_due limit now (whole_of p)) refl
  where
    by_case : (b : Bool) → is_due limit now (whole_of p) ≡ b → cleared limit now (cond b (emptied p) p) ≡ cond b (emptied p) p
    by_case true e =
        ap (λ b. cond b (emptied (emptied p)) (emptied p)) (ap (is_due limit now) (emptied_bare p.row))
    by_case false e = ap (λ b. cond b (emptied p) p) e

-- ---- one path more

-- what a change makes of one path is what the round makes of it
at_path : (f : List ℕ → Place → Place) (path : List ℕ) (p : Plain) (q : List ℕ)
    → changed_at (f path) path p q ≡ cond (same q path) (f q (place_at p q)) (place_at p q)
at_path f path p q = by_case (same q path) refl
  where
    by_case : (b : Bool) → same q path ≡ b → cond b (f path (place_at p q)) (place_at p q) ≡ cond b (f q (place_at p q)) (place_at p q)
    by_case true e = ap (λ x. f x (place_at p q)) (sym ((bytes_eq-Decides q path).0 e))
    by_case false e = refl

pub round_step : (f : List ℕ → Place → Place) → IsSettled f → (old h new : Plain) (ps : List (List ℕ)) (i : ℕ) (path : List ℕ)
    → i < length ps → path ≡ get_or ps i path → HasPlaces (swept f (place_at old) (take i ps)) old h
    → HasPlaces (changed_at (f path) path h) h new → HasPlaces (swept f (place_at old) (take (i + 1) ps)) old new
round_step f settled old h new ps i path lt is before now = record {
  each = swept_step f settled (place_at old) (place_at h) (place_at new) ps i path lt is before.each
      (λ q. now.each q ∙ at_path f path h q);
  others = else_same old h new before.others now.others;
}

pub round_none : (f : List ℕ → Place → Place) (old : Plain) (ps : List (List ℕ)) → HasPlaces (swept f (place_at old) (take 0 ps)) old old
round_none f old ps = record { each = λ q. refl; others = refl }

-- the removed paths are counted as they were before the round
pub due_same : (limit now : ℕ) (old h : Plain) (seen : List (List ℕ)) (path : List ℕ)
    → HasPlaces (with_removals limit now (place_at old) seen) old h → among path seen ≡ false
    → is_due_at limit now h path ≡ is_due_at limit now old path
due_same limit now old h seen path places apart =
    ap (λ p. is_due limit now (whole_of p))
    (places.each path ∙ ap (λ b. cond b (cleared limit now (place_at old path)) (place_at old path)) apart)

-- ---- both rounds

no_whole : {A : Type 0} (o : Option A) → false ≡ is_some o → o ≡ None
no_whole None e = refl
no_whole (Some x) e = absurd (true≢false (sym e))

whole_marked : (now : ℕ) (reached : Bool) (o : Option Row) → whole_in o ≡ None → whole_in (remarked_row now reached o) ≡ None
whole_marked now reached None e = refl
whole_marked now reached (Some r) e = ap (option_map (remarked now reached)) e

module _ (r : Run) (old : Plain) (all : (q : List ℕ) → among q r.paths ≡ has_whole old.rows q) where
  -- the round of marks over all held paths
  pub marks_all : (q : List ℕ) → with_marks r (place_at old) r.paths q ≡ remarked_place r.now (r.reached q) (place_at old q)
  marks_all q = by_case (among q r.paths) (all q)
    where
      by_case : (b : Bool) → b ≡ has_whole old.rows q → cond b (remarked_place r.now (r.reached q) (place_at old q)) (place_at old q)
          ≡ remarked_place r.now (r.reached q) (place_at old q)
      by_case true e = refl
      by_case false e = sym (bare_place r.now (r.reached q) (place_at old q) (no_whole (whole_of (place_at old q)) e))

  -- and then that of removals
  removals_all : (q : List ℕ) → cond (among q r.paths) (cleared r.limit r.now (remarked_place r.now (r.reached q) (place_at old q)))
      (remarked_place r.now (r.reached q) (place_at old q)) ≡ expired r.limit r.now (r.reached q) (place_at old q)
  removals_all q = by_case (among q r.paths) (all q)
    where
      after : Place
      after = remarked_place r.now (r.reached q) (place_at old q)

      by_case : (b : Bool) → b ≡ has_whole old.rows q → cond b (cleared r.limit r.now after) after ≡ cleared r.limit r.now after
      by_case true e = refl
      by_case false e =
          let bare = whole_marked r.now (r.reached q) (place_at old q).row (no_whole (whole_of (place_at old q)) e) in
          sym (ap (λ b. cond b (emptied after) after) (ap (is_due r.limit r.now) bare))

  module _ (mid : Plain) (marks : HasPlaces (with_marks r (place_at old) r.paths) old mid) where
    marked_is : (q : List ℕ) → place_at mid q ≡ remarked_place r.now (r.reached q) (place_at old q)
    marked_is q = marks.each q ∙ marks_all q

    pub doomed_is : (q : List ℕ) → is_due_at r.limit r.now mid q ≡ is_doomed r old q
    doomed_is q = ap (λ p. is_due r.limit r.now (whole_of p)) (marked_is q)

    pub doomed_many : (ps : List (List ℕ)) → how_many (is_due_at r.limit r.now mid) ps ≡ how_many (is_doomed r old) ps
    doomed_many ps = many_same (is_due_at r.limit r.now mid) (is_doomed r old) doomed_is ps

    pub finished : (new : Plain) → HasPlaces (with_removals r.limit r.now (place_at mid) r.paths) mid new
        → HasPlaces (λ q. expired r.limit r.now (r.reached q) (place_at old q)) old new
    finished new gone = record {
      each = λ q.
          gone.each q ∙ ap (λ p. cond (among q r.paths) (cleared r.limit r.now p) p) (marked_is q) ∙ removals_all q;
      others = else_same old mid new marks.others gone.others;
    }

    pub cut_later : (new : Plain) (ps : List (List ℕ)) → HasPlaces (with_removals r.limit r.now (place_at mid) ps) mid new
        → HasPlaces (with_removals r.limit r.now (with_marks r (place_at old) r.paths) ps) old new
    cut_later new ps gone = record {
      each = λ q. gone.each q ∙ ap (λ p. cond (among q ps) (cleared r.limit r.now p) p) (marks.each q);
      others = else_same old mid new marks.others gone.others;
    }
