-- A run of expiration leaves a desk of which no ticket is out; and what the keeper has after it.
use Rattle.std.proofs.Common.{◌≡◌, inl, inr, ℕ, ◌+◌, Bool, true, false, List, take, cond}
use Rattle.std.proofs.Common.{Option, Some, None, refl, sym, subst, ap, ◌∙◌}
use Rattle.acng_keeper.specs.Kept.{Kept}
use Rattle.acng_keeper.specs.Slips.{Faults}
use Rattle.acng_rows.specs.Rows.{Row, out_in}
use Rattle.acng_desk.specs.House.{Plain, House}
use Rattle.acng_desk.specs.Keeps.{IsIdle}
use Rattle.acng_expire.specs.Places.{Place, place_at, whole_of, remarked_row, remarked_place, is_due, emptied_row, emptied, cleared}
use Rattle.acng_expire.specs.Rounds.{Run, run_of, swept, with_marks, with_removals, HasPlaces}
use Rattle.acng_expire.specs.Expirations.{HasExpired, IsFinished, IsCutIn, IsCut}
use Rattle.acng_expire.specs.declared.run.Expired.{Expired}
use Rattle.acng_expire.specs.declared.run.Expired.TheVariants as run
use Rattle.acng_expire.proofs.Ends.{plain_is}
use Rattle.acng_cli.specs.Opens.{Store}
use Rattle.acng_cli.specs.Single.{store_in}

-- ---- no ticket of a place is out

abbrev IsFree : Place → Type 0
IsFree p = out_in p.row ≡ None

row_remarked : (now : ℕ) (reached : Bool) (r : Option Row) → out_in (remarked_row now reached r) ≡ out_in r
row_remarked now reached None = refl
row_remarked now reached (Some r) = refl

place_remarked : (now : ℕ) (reached : Bool) (p : Place) → IsFree p → IsFree (remarked_place now reached p)
place_remarked now reached p free = row_remarked now reached p.row ∙ free

row_kept : (b : Bool) (r : Row) → r.out ≡ None → out_in (cond b (Some (record { whole = None; out = r.out })) None) ≡ None
row_kept true r free = free
row_kept false r free = refl

row_emptied : (r : Option Row) → out_in r ≡ None → out_in (emptied_row r) ≡ None
row_emptied None free = refl
row_emptied (Some r) free = row_kept _ r free

place_emptied : (b : Bool) (p : Place) → IsFree p → IsFree (cond b (emptied p) p)
place_emptied true p free = row_emptied p.row free
place_emptied false p free = free

place_cleared : (limit now : ℕ) (p : Place) → IsFree p → IsFree (cleared limit now p)
place_cleared limit now p free = place_emptied (is_due limit now (whole_of p)) p free

module _ (f : List ℕ → Place → Place) (keeps : (q : List ℕ) (p : Place) → IsFree p → IsFree (f q p)) where
  one_swept : (b : Bool) (q : List ℕ) (p : Place) → IsFree p → IsFree (cond b (f q p) p)
  one_swept true q p free = keeps q p free
  one_swept false q p free = free

  all_swept : (old : List ℕ → Place) → ((q : List ℕ) → IsFree (old q)) → (paths : List (List ℕ)) (q : List ℕ)
      → IsFree (swept f old paths q)
  all_swept old free paths q = one_swept _ q (old q) (free q)

all_marked : (r : Run) (old : List ℕ → Place) → ((q : List ℕ) → IsFree (old q)) → (paths : List (List ℕ)) (q : List ℕ)
    → IsFree (with_marks r old paths q)
all_marked r old free paths q =
    all_swept (λ q p. remarked_place r.now (r.reached q) p) (λ q p a. place_remarked r.now (r.reached q) p a) old free paths q

all_removed : (limit now : ℕ) (old : List ℕ → Place) → ((q : List ℕ) → IsFree (old q)) → (paths : List (List ℕ)) (q : List ℕ)
    → IsFree (with_removals limit now old paths q)
all_removed limit now old free paths q = all_swept (λ q p. cleared limit now p) (λ q p a. place_cleared limit now p a) old free paths q

-- ---- the desk after a run

idle_by : (places : List ℕ → Place) (old new : Plain) → HasPlaces places old new → ((q : List ℕ) → IsFree (places q)) → IsIdle new
idle_by places old new has free = record { each = λ q. subst IsFree (sym (has.each q)) (free q) }

finished_idle : (r : Run) (old new : Plain) (removed marked : ℕ) → IsFinished r old new removed marked → IsIdle old → IsIdle new
finished_idle r old new removed marked h a =
    idle_by _ old new h.places
    (λ q. place_cleared r.limit r.now (remarked_place r.now (r.reached q) (place_at old q))
    (place_remarked r.now (r.reached q) (place_at old q) (a.each q)))

cut_in_idle : (r : Run) (old new : Plain) (removed : ℕ) → IsCutIn r old new removed → IsIdle old → IsIdle new
cut_in_idle r old new removed (inl h) a = idle_by _ old new h.places (all_marked r (place_at old) a.each (take h.at r.paths))
cut_in_idle r old new removed (inr h) a =
    idle_by _ old new h.places
    (all_removed r.limit r.now (with_marks r (place_at old) r.paths) (all_marked r (place_at old) a.each r.paths) (take (h.at + 1) r.paths))

cut_idle : (tells : Bool) (failed : List (List ℕ)) (now : ℕ) (old new : House) (removed : ℕ) → IsCut tells failed now old new removed
    → IsIdle old.plain → IsIdle new.plain
cut_idle tells failed now old new removed (inl h) a = subst IsIdle (sym (plain_is tells old new h.0)) a
cut_idle tells failed now old new removed (inr h) a =
    cut_in_idle (run_of old.plain now h.found) old.plain new.plain removed h.cut a

pub expired_idle : {P : Type 0} (tells : Bool) (failed : List (List ℕ)) (now : ℕ) (old new : House) (e : Expired P)
    → HasExpired tells failed now old new e → IsIdle old.plain → IsIdle new.plain
expired_idle tells failed now old new (run.Done removed marked) h a =
    finished_idle (run_of old.plain now h.found) old.plain new.plain removed marked h.finished a
expired_idle tells failed now old new (run.Aborted problems) h a = subst IsIdle (sym (plain_is tells old new h.same)) a
expired_idle tells failed now old new (run.Stopped slip removed) h a = cut_idle tells failed now old new removed h.0 a
expired_idle tells failed now old new (run.NoMemory removed) h a = cut_idle tells failed now old new removed h a

-- ---- the keeper after a run

abbrev store_of : Kept → ℕ → Faults → Store
store_of kept next_id faults = record { kept = kept; next_id = next_id; faults = faults }

pub store_left : (kept : Kept) (next_id : ℕ) (faults : Faults) (h : House) → kept ≡ h.kept → next_id ≡ h.plain.next_id → faults ≡ h.faults
    → store_of kept next_id faults ≡ store_in h
store_left kept next_id faults h same_kept same_next same_faults =
    ap (λ x. store_of x next_id faults) same_kept ∙ ap (λ x. store_of h.kept x faults) same_next
    ∙ ap (λ x. store_of h.kept h.plain.next_id x) same_faults
