-- A run of expiration leaves each ticket that is out, and what the desk follows.
use Rattle.std.proofs.Common.{◌≡◌, ◌⊎◌, inl, inr, ℕ, ◌+◌, Bool, true, false, List, [], Option, Some, None, refl, ap, sym, ◌∙◌}
use Rattle.std.specs.Prelude.{cond, is_some, take}
use Rattle.acng_base.specs.declared.clock.Moment.{Moment}
use Rattle.acng_rows.specs.Rows.{Row, Load, out_in, out_at}
use Rattle.acng_desk.specs.House.{House, Plain}
use Rattle.acng_desk.specs.Keeps.{IsIdle}
use Rattle.acng_reach.specs.Bodies.{Rest}
use Rattle.acng_reach.specs.Desks.{rest_of}
use Rattle.acng_reach.specs.Sets.{among}
use Rattle.acng_expire.specs.declared.run.Expired.{Expired}
use Rattle.acng_expire.specs.declared.run.Expired.TheVariants.{Done, Aborted, Stopped, NoMemory}
use Rattle.acng_expire.specs.declared.line.ExpireLine.{ExpireLine}
use Rattle.acng_expire.specs.Expirations.{HasExpired, IsAsBefore, IsCut, IsCutIn}
use Rattle.acng_expire.specs.Lines.{HasEnded, HasLine}
use Rattle.acng_expire.specs.Places.{Place, place_at, whole_of, remarked_row, remarked_place, emptied, emptied_row, cleared, expired, is_due}
use Rattle.acng_expire.specs.Rounds.{Run, HasPlaces, swept, with_marks, with_removals}

-- ---- what a place has out

remarked_out : (now : ℕ) (reached : Bool) (o : Option Row) → out_in (remarked_row now reached o) ≡ out_in o
remarked_out now reached None = refl
remarked_out now reached (Some r) = refl

left_out : (x : Option Load) → out_in (cond (is_some x) (Some (record { whole = None; out = x })) None) ≡ x
left_out None = refl
left_out (Some l) = refl

emptied_out : (o : Option Row) → out_in (emptied_row o) ≡ out_in o
emptied_out None = refl
emptied_out (Some r) = left_out r.out

either_out : (b : Bool) (p q : Place) → out_in p.row ≡ out_in q.row → out_in (cond b p q).row ≡ out_in q.row
either_out true p q e = e
either_out false p q e = refl

cleared_out : (limit now : ℕ) (p : Place) → out_in (cleared limit now p).row ≡ out_in p.row
cleared_out limit now p = either_out (is_due limit now (whole_of p)) (emptied p) p (emptied_out p.row)

expired_out : (limit now : ℕ) (reached : Bool) (p : Place) → out_in (expired limit now reached p).row ≡ out_in p.row
expired_out limit now reached p = cleared_out limit now (remarked_place now reached p) ∙ remarked_out now reached p.row

marks_out : (r : Run) (old : List ℕ → Place) (paths : List (List ℕ)) (q : List ℕ)
    → out_in (with_marks r old paths q).row ≡ out_in (old q).row
marks_out r old paths q =
    either_out (among q paths) (remarked_place r.now (r.reached q) (old q)) (old q) (remarked_out r.now (r.reached q) (old q).row)

removals_out : (limit now : ℕ) (old : List ℕ → Place) (paths : List (List ℕ)) (q : List ℕ)
    → out_in (with_removals limit now old paths q).row ≡ out_in (old q).row
removals_out limit now old paths q = either_out (among q paths) (cleared limit now (old q)) (old q) (cleared_out limit now (old q))

-- ---- what a run leaves

-- each ticket that is out, and the rules
pub record Leaves (p q : Plain) : Type 0 where
  pub out : (path : List ℕ) → out_at q.rows path ≡ out_at p.rows path
  pub rules : q.rules ≡ p.rules

by_places : (places : List ℕ → Place) (p q : Plain) → ((path : List ℕ) → out_in (places path).row ≡ out_in (place_at p path).row)
    → HasPlaces places p q → Leaves p q
by_places places p q same h = record {
  out = λ path. ap (λ (x : Place). out_in x.row) (h.each path) ∙ same path;
  rules = ap (λ (x : Plain). x.rules) h.others;
}

by_same : (p q : Plain) → q ≡ p → Leaves p q
by_same p q e = record { out = λ path. ap (λ (x : Plain). out_at x.rows path) e; rules = ap (λ (x : Plain). x.rules) e }

as_before : (tells : Bool) (old new : House) → IsAsBefore tells old new → Leaves old.plain new.plain
as_before tells old new e = by_same old.plain new.plain (ap (λ (x : Rest). x.plain) e)

cut_in : (r : Run) (p q : Plain) (removed : ℕ) → IsCutIn r p q removed → Leaves p q
cut_in r p q removed (inl c) =
    by_places (with_marks r (place_at p) (take c.at r.paths)) p q (marks_out r (place_at p) (take c.at r.paths)) c.places
cut_in r p q removed (inr c) =
    let marked = with_marks r (place_at p) r.paths in
    by_places (with_removals r.limit r.now marked (take (c.at + 1) r.paths)) p q
    (λ path. removals_out r.limit r.now marked (take (c.at + 1) r.paths) path ∙ marks_out r (place_at p) r.paths path) c.places

cut : (tells : Bool) (failed : List (List ℕ)) (now : ℕ) (old new : House) (removed : ℕ) → IsCut tells failed now old new removed
    → Leaves old.plain new.plain
cut tells failed now old new removed (inl x) = as_before tells old new x.0
cut tells failed now old new removed (inr x) = cut_in _ old.plain new.plain removed x.cut

pub run_leaves : {P : Type 0} (tells : Bool) (failed : List (List ℕ)) (now : ℕ) (old new : House) (e : Expired P)
    → HasExpired tells failed now old new e → Leaves old.plain new.plain
run_leaves tells failed now old new (Done removed marked) x =
    by_places _ old.plain new.plain (λ path. expired_out _ _ _ (place_at old.plain path)) x.finished.places
run_leaves tells failed now old new (Aborted problems) x = as_before tells old new x.same
run_leaves tells failed now old new (Stopped slip removed) x = cut tells failed now old new removed x.0
run_leaves tells failed now old new (NoMemory removed) x = cut tells failed now old new removed x

pub ended_leaves : (tells : Bool) (now : Moment) (old new : House) → HasEnded tells now old new → Leaves old.plain new.plain
ended_leaves tells now old new h = run_leaves tells [] now.0 old new h.ended h.run

-- a desk with no ticket out
pub idle_by : (p q : Plain) → Leaves p q → IsIdle p → IsIdle q
idle_by p q l idle = record { each = λ path. l.out path ∙ idle.each path }

-- ---- ends of runs

-- a run that has a line ended
pub line_ended : {P : Type 0} (tells : Bool) (now : Moment) (old new : House) (line : ExpireLine P) → HasLine tells now old new line
    → HasEnded tells now old new
line_ended {P} tells now old new line h = by_end h.ended h.run
  where
    by_end : (e : Expired P) → HasExpired tells [] now.0 old new e → HasEnded tells now old new
    by_end (Done removed marked) x = record { ended = Done removed marked; run = x }
    by_end (Aborted problems) x = record { ended = Aborted problems; run = x }
    by_end (Stopped slip removed) x = record { ended = Stopped tt removed; run = x }
    by_end (NoMemory removed) x = record { ended = NoMemory removed; run = x }

-- no run was made: memory was wanting before it
pub not_begun : (tells : Bool) (now : Moment) (old new : House) → new ≡ old → HasEnded tells now old new
not_begun tells now old new e = record { ended = NoMemory 0; run = inl (ap (λ h. rest_of tells h) e, refl) }
