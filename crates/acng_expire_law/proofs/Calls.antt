-- The rounds of a run, call by call.
use Rattle.std.proofs.Common.{◌≡◌, inl, inr, ℕ, zero, suc, ◌+◌, ◌<◌, ◌≤◌, Bool, true, false, List, [], ◌∷◌, ◌++◌, length, take, get_or, Option, Some, None, refl, sym, ap, subst, ◌∙◌, arith}
use Rattle.std.proofs.Math.Seq.{take-length}
use mathlib.Core.Bool.{true≢false}
use Rattle.std.specs.FinMap as map
use Rattle.std.specs.FinMap.{slice_cmp-IsAntisymmetric, nat_cmp-IsAntisymmetric}
use Rattle.std.specs.Cmp.Lexicographic.{nat_list_cmp_total}
use Rattle.acng_rows.specs.declared.row.Whole.{Whole}
use Rattle.acng_rows.specs.Paths.{PathsTo}
use Rattle.acng_rows.specs.Rows.{Rows, whole_at}
use Rattle.acng_desk.specs.House.{Plain, House, Parts}
use Rattle.acng_desk.specs.Commands.{Command, SetMark, Remove, step, steps}
use Rattle.acng_reach.specs.Desks.{held_paths, has_whole}
use Rattle.acng_reach.specs.Found.{Found}
use Rattle.acng_reach.specs.Sets.{among}
use Rattle.acng_reach.proofs.Desks.{held_is}
use Rattle.acng_expire.specs.Runs.{new_mark}
use Rattle.acng_expire.specs.Places.{Place, place_at, seconds, moment_of, remarked_place, is_due, cleared, expired}
use Rattle.acng_expire.specs.Rounds.{Run, run_of, with_marks, with_removals, HasPlaces, changed_at}
use Rattle.acng_expire.specs.Expirations.{IsFinished, IsCutIn, IsCut}
use Rattle.acng_expire.proofs.Changes.{none_marked, mark_put, due_stays, due_goes}
use Rattle.acng_expire.proofs.Ends.{plain_is}
use Rattle.acng_expire.proofs.Rounds.{round_step, round_none, marks_settled, removals_settled, finished, cut_later}
use Rattle.acng_expire_law.specs.Calls.{IsOfRun, AreOfRun, AreCalls, RunsAreCalls}

-- ---- lists of calls

steps_push : (cs : List Command) (c : Command) (p : Plain) → steps (cs ++ c ∷ []) p ≡ step c (steps cs p)
steps_push [] c p = refl
steps_push (x ∷ xs) c p = steps_push xs c (step x p)

steps_join : (cs ds : List Command) (p : Plain) → steps (cs ++ ds) p ≡ steps ds (steps cs p)
steps_join [] ds p = refl
steps_join (x ∷ xs) ds p = steps_join xs ds (step x p)

of_run_join : (cs ds : List Command) → AreOfRun cs → AreOfRun ds → AreOfRun (cs ++ ds)
of_run_join [] ds a b = b
of_run_join (x ∷ xs) ds a b = (a.0, of_run_join xs ds a.1 b)

no_calls : (p : Plain) → AreCalls p p
no_calls p = record { calls = []; each = tt; is = refl }

one_more : (old mid new : Plain) (c : Command) → IsOfRun c → AreCalls old mid → new ≡ step c mid → AreCalls old new
one_more old mid new c is a e = record {
  calls = a.calls ++ c ∷ [];
  each = of_run_join a.calls (c ∷ []) a.each (is, tt);
  is = e ∙ ap (step c) a.is ∙ sym (steps_push a.calls c old);
}

joined : (old mid new : Plain) → AreCalls old mid → AreCalls mid new → AreCalls old new
joined old mid new a b = record {
  calls = a.calls ++ b.calls;
  each = of_run_join a.calls b.calls a.each b.each;
  is = b.is ∙ ap (steps b.calls) a.is ∙ sym (steps_join a.calls b.calls old);
}

-- ---- what has the same places is the same

same_maps : {X : Type 0} (m n : PathsTo X) → ((q : List ℕ) → map.get m q ≡ map.get n q) → m ≡ n
same_maps m n each = map.same_map nat_list_cmp_total (slice_cmp-IsAntisymmetric nat_cmp-IsAntisymmetric) m n each

same_plain : (places : List ℕ → Place) (old a b : Plain) → HasPlaces places old a → HasPlaces places old b → a ≡ b
same_plain places old a b h k =
    let at : (q : List ℕ) → place_at a q ≡ place_at b q = λ q. h.each q ∙ sym (k.each q) in
    let rows : a.rows ≡ b.rows = same_maps a.rows b.rows (λ q. ap (λ p. p.row) (at q)) in
    let parts : a.parts ≡ b.parts = same_maps a.parts b.parts (λ q. ap (λ p. p.part) (at q)) in
    h.others ∙ ap (λ (r : Rows). record old { rows = r; parts = a.parts }) rows
    ∙ ap (λ (x : Parts). record old { rows = b.rows; parts = x }) parts ∙ sym k.others

-- ---- rounds

within : (ps : List (List ℕ)) (i : ℕ) (x y : List ℕ) → i < length ps → get_or ps i x ≡ get_or ps i y
within [] i x y lt = absurd (omega arith)
within (p ∷ ps) zero x y lt = refl
within (p ∷ ps) (suc i) x y lt = within ps i x y (omega arith)

-- calls that make these places
record Made (places : List ℕ → Place) (old : Plain) : Type 0 where
  plain : Plain
  calls : AreCalls old plain
  at : HasPlaces places old plain

module _ (r : Run) (old : Plain) (ps : List (List ℕ)) where
  abbrev marks_at : ℕ → List ℕ → Place
  marks_at i = with_marks r (place_at old) (take i ps)

  module _ (i : ℕ) (lt : i < length ps) (m : Made (marks_at i) old) where
    abbrev path : List ℕ
    path = get_or ps i []

    marked_next : (new : Plain) → HasPlaces (changed_at (remarked_place r.now (r.reached path)) path m.plain) m.plain new
        → HasPlaces (marks_at (i + 1)) old new
    marked_next new now =
        round_step (λ q p. remarked_place r.now (r.reached q) p) (marks_settled r.now r.reached) old m.plain new ps i path lt
        (within ps i [] path lt) m.at now

    mark_by : (o : Option Whole) → whole_at m.plain.rows path ≡ o → Made (marks_at (i + 1)) old
    mark_by None e = record {
      plain = m.plain;
      calls = m.calls;
      at = marked_next m.plain (none_marked r.now (r.reached path) m.plain path e);
    }
    mark_by (Some w) e =
        let mark = moment_of (new_mark (r.reached path) r.now (seconds w.mark)) in
        let new = step (SetMark path mark) m.plain in
        record {
          plain = new;
          calls = one_more old m.plain new (SetMark path mark) tt m.calls refl;
          at = marked_next new (mark_put r.now (r.reached path) m.plain path w e mark refl new refl);
        }

  marks_made : (i : ℕ) → i ≤ length ps → Made (marks_at i) old
  marks_made zero le = record {
    plain = old;
    calls = no_calls old;
    at = round_none (λ q p. remarked_place r.now (r.reached q) p) old ps;
  }
  marks_made (suc i) le =
      let m = marks_made i (omega arith) in
      let lt : i < length ps = omega arith in
      let e : i + 1 ≡ suc i = omega arith in
      subst (λ j. Made (marks_at j) old) e (mark_by i lt m (whole_at m.plain.rows (get_or ps i [])) refl)

module _ (limit now : ℕ) (old : Plain) (ps : List (List ℕ)) where
  abbrev gone_at : ℕ → List ℕ → Place
  gone_at i = with_removals limit now (place_at old) (take i ps)

  module _ (i : ℕ) (lt : i < length ps) (m : Made (gone_at i) old) where
    abbrev goes : List ℕ
    goes = get_or ps i []

    gone_next : (new : Plain) → HasPlaces (changed_at (cleared limit now) goes m.plain) m.plain new → HasPlaces (gone_at (i + 1)) old new
    gone_next new change =
        round_step (λ q p. cleared limit now p) (removals_settled limit now) old m.plain new ps i goes lt
        (within ps i [] goes lt) m.at change

    gone_whole : (o : Option Whole) → whole_at m.plain.rows goes ≡ o → is_due limit now (whole_at m.plain.rows goes) ≡ true
        → Made (gone_at (i + 1)) old
    gone_whole None e due = absurd (true≢false (sym due ∙ ap (is_due limit now) e))
    gone_whole (Some w) e due =
        let new = step (Remove goes) m.plain in
        record {
          plain = new;
          calls = one_more old m.plain new (Remove goes) tt m.calls refl;
          at = gone_next new (due_goes limit now m.plain goes w e due new refl);
        }

    gone_by : (b : Bool) → is_due limit now (whole_at m.plain.rows goes) ≡ b → Made (gone_at (i + 1)) old
    gone_by true e = gone_whole (whole_at m.plain.rows goes) refl e
    gone_by false e = record {
      plain = m.plain;
      calls = m.calls;
      at = gone_next m.plain (due_stays limit now m.plain goes e);
    }

  gone_made : (i : ℕ) → i ≤ length ps → Made (gone_at i) old
  gone_made zero le = record { plain = old; calls = no_calls old; at = round_none (λ q p. cleared limit now p) old ps }
  gone_made (suc i) le =
      let m = gone_made i (omega arith) in
      let lt : i < length ps = omega arith in
      let e : i + 1 ≡ suc i = omega arith in
      subst (λ j. Made (gone_at j) old) e (gone_by i lt m (is_due limit now (whole_at m.plain.rows (get_or ps i []))) refl)

-- ---- runs

by_made : (places : List ℕ → Place) (old new : Plain) → Made places old → HasPlaces places old new → AreCalls old new
by_made places old new m h =
    let same = same_plain places old new m.plain h m.at in
    record { calls = m.calls.calls; each = m.calls.each; is = same ∙ m.calls.is }

module _ (r : Run) (old : Plain) (all : (q : List ℕ) → among q r.paths ≡ has_whole old.rows q) where
  marked : Made (with_marks r (place_at old) r.paths) old
  marked =
      subst (λ ps. Made (with_marks r (place_at old) ps) old) (take-length r.paths)
      (marks_made r old r.paths (length r.paths) (omega arith))

  removed : (i : ℕ) → i ≤ length r.paths → Made (with_removals r.limit r.now (place_at marked.plain) (take i r.paths)) marked.plain
  removed i le = gone_made r.limit r.now marked.plain r.paths i le

  done_calls : (new : Plain) (gone marks : ℕ) → IsFinished r old new gone marks → AreCalls old new
  done_calls new gone marks f =
      let m = removed (length r.paths) (omega arith) in
      let at = subst (λ ps. HasPlaces (with_removals r.limit r.now (place_at marked.plain) ps) marked.plain m.plain)
      (take-length r.paths) m.at in
      let made : Made (λ q. expired r.limit r.now (r.reached q) (place_at old q)) old = record {
        plain = m.plain;
        calls = joined old marked.plain m.plain marked.calls m.calls;
        at = finished r old all marked.plain marked.at m.plain at;
      } in
      by_made (λ q. expired r.limit r.now (r.reached q) (place_at old q)) old new made f.places

  cut_calls : (new : Plain) (gone : ℕ) → IsCutIn r old new gone → AreCalls old new
  cut_calls new gone (inl c) =
      by_made (with_marks r (place_at old) (take c.at r.paths)) old new
      (marks_made r old r.paths c.at (let lt = c.within in omega (arith, lt))) c.places
  cut_calls new gone (inr c) =
      let m = removed (c.at + 1) (let lt = c.within in omega (arith, lt)) in
      let made : Made (with_removals r.limit r.now (with_marks r (place_at old) r.paths) (take (c.at + 1) r.paths)) old = record {
        plain = m.plain;
        calls = joined old marked.plain m.plain marked.calls m.calls;
        at = cut_later r old all marked.plain marked.at m.plain (take (c.at + 1) r.paths) m.at;
      } in
      by_made (with_removals r.limit r.now (with_marks r (place_at old) r.paths) (take (c.at + 1) r.paths)) old new made c.places

all_held : (p : Plain) (found : Found) → found.held ≡ held_paths p.rows → (q : List ℕ) → among q found.held ≡ has_whole p.rows q
all_held p found held q = ap (among q) held ∙ held_is p.rows q

pub runs_are_calls : RunsAreCalls
runs_are_calls = record {
  done = λ tells failed now old new gone marks d.
      done_calls (run_of old.plain now d.found) old.plain (all_held old.plain d.found d.survey.held) new.plain gone marks d.finished;
  aborted = λ tells failed old new problems a. plain_is tells old new a.same;
  cut = cut;
}
  where
    cut : (tells : Bool) (failed : List (List ℕ)) (now : ℕ) (old new : House) (removed : ℕ) → IsCut tells failed now old new removed
        → AreCalls old.plain new.plain
    cut tells failed now old new gone (inl c) =
        subst (λ (p : Plain). AreCalls old.plain p) (sym (plain_is tells old new c.0)) (no_calls old.plain)
    cut tells failed now old new gone (inr c) =
        cut_calls (run_of old.plain now c.found) old.plain (all_held old.plain c.found c.survey.held) new.plain gone c.cut
