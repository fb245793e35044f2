-- How a run ends, by its rounds.
use Rattle.std.proofs.Common.{◌≡◌, ◌<◌, inl, inr, ℕ, ◌+◌, Bool, true, false, List, [], take, length, slice_index_or, cond, refl, sym, ap, subst, ◌∙◌}
use mathlib.Core.Bool.{true≢false}
use Rattle.acng_keeper.specs.Kept.{Stored, stored, nothing}
use Rattle.acng_keeper.specs.declared.slip.KeepFault.{KeepFault}
use Rattle.acng_keeper.specs.declared.slip.KeepFault.TheVariants as keep
use Rattle.acng_rows.specs.Goods.{IsExact}
use Rattle.acng_desk.specs.House.{Plain, House}
use Rattle.acng_desk.specs.Stops.{IsFound}
use Rattle.acng_reach.specs.Bodies.{MaySlip}
use Rattle.acng_reach.specs.Desks.{held_paths, has_whole, rest_of}
use Rattle.acng_reach.specs.Found.{Found}
use Rattle.acng_reach.specs.Sets.{among}
use Rattle.acng_reach.proofs.Desks.{held_is}
use Rattle.acng_expire.specs.declared.run.Expired.{Expired}
use Rattle.acng_expire.specs.declared.run.Expired.TheVariants.{Done, Aborted, Stopped, NoMemory}
use Rattle.acng_expire.specs.Places.{place_at}
use Rattle.acng_expire.specs.Rounds.{Run, run_of, limit_of, with_marks, with_removals, HasPlaces, HasLost, how_many, is_due_at, is_doomed, is_marked_at}
use Rattle.acng_expire.specs.Expirations.{IsSurvey, is_stopped, IsFinished, IsCutIn, cut, HasRun, HasExpired}
use Rattle.acng_expire.proofs.Rounds.{doomed_is, doomed_many, finished, cut_later}

module _ (old mid new : Plain) (now : ℕ) (found : Found) (held : found.held ≡ held_paths old.rows)
    (marks : HasPlaces (with_marks (run_of old now found) (place_at old) found.held) old mid) where
  abbrev r : Run
  r = run_of old now found

  all : (q : List ℕ) → among q found.held ≡ has_whole old.rows q
  all q = ap (among q) held ∙ held_is old.rows q

  -- the marks leave the limit as it is
  pub same_limit : limit_of mid ≡ r.limit
  same_limit = ap (λ (p : Plain). limit_of p) marks.others

  module _ (limit : ℕ) (paths : List (List ℕ)) (limit_is : limit ≡ limit_of mid) (paths_are : paths ≡ found.held) where
    gone_by : HasPlaces (with_removals limit now (place_at mid) paths) mid new
        → HasPlaces (with_removals r.limit now (place_at mid) found.held) mid new
    gone_by gone =
        subst (λ ps. HasPlaces (with_removals r.limit now (place_at mid) ps) mid new) paths_are
        (subst (λ l. HasPlaces (with_removals l now (place_at mid) paths) mid new) (limit_is ∙ same_limit) gone)

    count_by : (ps : List (List ℕ)) → how_many (is_due_at limit now mid) ps ≡ how_many (is_doomed r old) ps
    count_by ps = ap (λ l. how_many (is_due_at l now mid) ps) (limit_is ∙ same_limit) ∙ doomed_many r old all mid marks ps

    -- both rounds were done
    pub ended : (removed marked : ℕ) (counted : List (List ℕ)) → counted ≡ found.held
        → HasPlaces (with_removals limit now (place_at mid) paths) mid new → removed ≡ how_many (is_due_at limit now mid) paths
        → marked ≡ how_many (is_marked_at new) counted → IsFinished r old new removed marked
    ended removed marked counted counted_are gone removed_is marked_is = record {
      places = finished r old all mid marks new (gone_by gone);
      removed_is = removed_is ∙ count_by paths ∙ ap (how_many (is_doomed r old)) paths_are;
      marked_is = marked_is ∙ ap (how_many (is_marked_at new)) counted_are;
    }

    -- the second one was cut
    lost_at : (removed : ℕ) → HasLost limit now paths mid new removed → HasLost r.limit now found.held mid new removed
    lost_at removed lost =
        subst (λ ps. HasLost r.limit now ps mid new removed) paths_are
        (subst (λ l. HasLost l now paths mid new removed) (limit_is ∙ same_limit) lost)

    pub cut_short : (removed : ℕ) → HasLost limit now paths mid new removed → IsCutIn r old new removed
    cut_short removed lost =
        let l = lost_at removed lost in
        inr (record {
          at = l.at;
          within = l.within;
          places = cut_later r old all mid marks new (take (l.at + 1) found.held) l.places;
          doomed = sym (doomed_is r old all mid marks (slice_index_or found.held l.at [])) ∙ l.due;
          removed_is = l.removed_is ∙ doomed_many r old all mid marks (take l.at found.held);
        })

-- the first one was cut
pub cut_first : (r : Run) (old new : Plain) → ((at : ℕ) × (at < length r.paths)
    × HasPlaces (with_marks r (place_at old) (take at r.paths)) old new) → IsCutIn r old new 0
cut_first r old new h = inl (record { at = h.0; within = h.1; places = h.2; none = refl })

-- ---- answers

pub cut_run : {P : Type 0} (tells : Bool) (now : ℕ) (found : Found) (old new : House) (may : Bool) → may ≡ old.faults.may_fail
    → (fault : KeepFault P) (removed : ℕ) → IsCutIn (run_of old.plain now found) old.plain new.plain removed → MaySlip may fault
    → HasRun tells now found old new (cut fault removed)
cut_run tells now found old new may same (keep.Slip p) removed is_cut slips = (is_cut, sym same ∙ slips)
cut_run tells now found old new may same keep.NoMemory removed is_cut slips = is_cut

told_same : {X : Type 0} (tells : Bool) (x y z : X) → tells ≡ true → cond tells x z ≡ cond tells y z → x ≡ y
told_same true x y z t e = e
told_same false x y z t e = absurd (true≢false (sym t))

pub plain_is : (tells : Bool) (old mid : House) → rest_of tells mid ≡ rest_of tells old → mid.plain ≡ old.plain
plain_is tells old mid rests = ap (λ r. r.plain) rests

module _ (tells : Bool) (failed : List (List ℕ)) (now : ℕ) (old mid new : House) (found : Found)
    (survey : IsSurvey tells old failed found) (rests : rest_of tells mid ≡ rest_of tells old)
    (goes : is_stopped old.plain found ≡ false) where
  still_found : tells ≡ true → IsFound old → IsFound mid
  still_found t f =
      let kept : stored mid.kept ≡ stored old.kept =
      told_same tells (stored mid.kept) (stored old.kept) (stored nothing) t (ap (λ r. r.stored) rests) in
      subst (λ (s : Stored). IsExact mid.plain.rows s) (sym kept)
      (subst (λ (p : Plain). IsExact p.rows (stored old.kept)) (sym (plain_is tells old mid rests)) f)

  cut_by : (removed : ℕ) → IsCutIn (run_of mid.plain now found) mid.plain new.plain removed
      → IsCutIn (run_of old.plain now found) old.plain new.plain removed
  cut_by removed is_cut = subst (λ (p : Plain). IsCutIn (run_of p now found) p new.plain removed) (plain_is tells old mid rests) is_cut

  -- the rounds over a desk in which the reach was found
  pub by_run : {P : Type 0} (e : Expired P) → HasRun tells now found mid new e → HasExpired tells failed now old new e
  by_run (Done removed marked) h = record {
    found = found;
    survey = survey;
    goes = goes;
    finished = subst (λ (p : Plain). IsFinished (run_of p now found) p new.plain removed marked) (plain_is tells old mid rests) h.0;
    exact = λ t f. h.1 t (still_found t f);
  }
  by_run (Aborted problems) h = absurd h
  by_run (Stopped slip removed) h = (
    inr (record { found = found; survey = survey; goes = goes; cut = cut_by removed h.0 }),
    sym (ap (λ r. r.may_slip) rests) ∙ h.1,
  )
  by_run (NoMemory removed) h = inr (record { found = found; survey = survey; goes = goes; cut = cut_by removed h })
