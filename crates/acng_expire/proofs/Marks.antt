-- One mark for each row is the least moment from which its body has been unreached.
use Rattle.std.proofs.Common.{◌≡◌, ◌⊎◌, inl, inr, ℕ, zero, suc, ◌-◌, ◌<◌, ◌≤◌, min, Bool, true, false, ◌&&◌, not, ◌==◌, List, [], ◌∷◌, cond, Option, Some, None, slice_index_or, refl, sym, ap, subst, ◌∙◌, arith}
use Rattle.std.proofs.lemmas.Grind.{common_steps}
use Rattle.acng_expire.specs.Runs.{Path, Row, House, Event, Done, Aborted, Other, Follow, Changes, after_held, after_row, new_mark, least, is_over, is_past}
use Rattle.acng_expire.specs.Doomed.{Seen, is_unreached, nothing_seen, IsUnreachedFrom, IsDoomed, IsLeast, IsMark, moment, seen, before, before_row, GoesAs, HeldGoes, Lawful}
use Rattle.acng_expire.specs.Laws.{OneMarkSuffices}

-- ---- from one run to the next

from_here : (id : ℕ) (s : Seen) (runs : List Seen) → is_unreached id s ≡ true → IsUnreachedFrom id 0 (s ∷ runs)
from_here id s runs h = record {
  within = omega arith;
  each = λ k le. let e : k ≡ 0 = omega arith in subst (λ j. is_unreached id (slice_index_or (s ∷ runs) j nothing_seen) ≡ true) (sym e) h;
}

from_before : (id i : ℕ) (s : Seen) (runs : List Seen) → is_unreached id s ≡ true → IsUnreachedFrom id i runs
    → IsUnreachedFrom id (suc i) (s ∷ runs)
from_before id i s runs h u = record { within = omega (arith, u.within); each = each }
  where
    each : (k : ℕ) → k ≤ suc i → is_unreached id (slice_index_or (s ∷ runs) k nothing_seen) ≡ true
    each zero le = h
    each (suc k) le = u.each k (omega arith)

first_unreached : (id i : ℕ) (s : Seen) (runs : List Seen) → IsUnreachedFrom id i (s ∷ runs) → is_unreached id s ≡ true
first_unreached id i s runs u = u.each 0 (omega arith)

later_unreached : (id i : ℕ) (s : Seen) (runs : List Seen) → IsUnreachedFrom id (suc i) (s ∷ runs) → IsUnreachedFrom id i runs
later_unreached id i s runs u = record { within = omega (arith, u.within); each = λ k le. u.each (suc k) (omega arith) }

-- ---- marks

no_mark : (id : ℕ) (s : Seen) (runs : List Seen) → is_unreached id s ≡ false → IsMark id (s ∷ runs) None
no_mark id s runs h i u = let e = first_unreached id i s runs u in cc

lesser : (m now : ℕ) → (min m now ≤ m) × (min m now ≤ now) × ((min m now ≡ m) ⊎ (min m now ≡ now))
lesser m now = grind arith

-- the lesser of the mark and the moment
next_mark : (id : ℕ) (s : Seen) (runs : List Seen) (mark : Option ℕ) → is_unreached id s ≡ true → IsMark id runs mark
    → IsLeast id (least mark s.now) (s ∷ runs)
next_mark id s runs None h none = record { from = 0; unreached = from_here id s runs h; is = refl; least = low }
  where
    low : (i : ℕ) → IsUnreachedFrom id i (s ∷ runs) → s.now ≤ moment i (s ∷ runs)
    low zero u = omega arith
    low (suc i) u = absurd (none i (later_unreached id i s runs u))
next_mark id s runs (Some m) h old = by_case (lesser m s.now)
  where
    low : (i : ℕ) → IsUnreachedFrom id i (s ∷ runs) → min m s.now ≤ moment i (s ∷ runs)
    low zero u = (lesser m s.now).1
    low (suc i) u = let a = old.least i (later_unreached id i s runs u) in let b = (lesser m s.now).0 in omega arith

    by_case : (min m s.now ≤ m) × (min m s.now ≤ s.now) × ((min m s.now ≡ m) ⊎ (min m s.now ≡ s.now))
        → IsLeast id (min m s.now) (s ∷ runs)
    by_case (a, b, inl e) = record {
      from = suc old.from;
      unreached = from_before id old.from s runs h old.unreached;
      is = old.is ∙ sym e;
      least = low;
    }
    by_case (a, b, inr e) = record { from = 0; unreached = from_here id s runs h; is = sym e; least = low }

-- ---- doom

past_parts : (limit now m : ℕ) → is_past limit now m ≡ true → (m < now) × (limit < now - m)
past_parts limit now m h = (grind (arith, common_steps), grind (arith, common_steps))

is_past_by : (limit now m : ℕ) → m < now → limit < now - m → is_past limit now m ≡ true
is_past_by limit now m a b = grind (arith, common_steps)

doomed_by_mark : (limit now id m : ℕ) (runs : List Seen) → IsLeast id m runs → is_past limit now m ≡ true → IsDoomed limit now id runs
doomed_by_mark limit now id m runs l h =
    let p = past_parts limit now m h in
    record {
      from = l.from;
      unreached = l.unreached;
      earlier = subst (λ j. j < now) (sym l.is) p.0;
      long = subst (λ j. limit < now - j) (sym l.is) p.1;
    }

mark_by_doomed : (limit now id m : ℕ) (runs : List Seen) → IsLeast id m runs → IsDoomed limit now id runs → is_past limit now m ≡ true
mark_by_doomed limit now id m runs l d =
    let le : m ≤ moment d.from runs = l.least d.from d.unreached in
    let a : m < now = omega (arith, d.earlier) in
    let b : limit < now - m = omega (arith, d.long) in
    is_past_by limit now m a b

-- ---- one row

-- each run before found a body with an id below this one
abbrev AreBelow : ℕ → List Seen → Type 0
AreBelow next runs = (id i : ℕ) → next ≤ id → ¬ (IsUnreachedFrom id i runs)

-- what is kept of one path
abbrev HasMark : List Seen → Option Row → Type 0
HasMark runs None = Unit {0}
HasMark runs (Some r) = IsMark r.id runs r.mark

abbrev IdBelow : ℕ → Option Row → Type 0
IdBelow next None = Unit {0}
IdBelow next (Some r) = r.id < next

record Tracks (next : ℕ) (runs : List Seen) (row : Option Row) : Type 0 where
  below : AreBelow next runs
  id : IdBelow next row
  row_mark : HasMark runs row

itself : (n : ℕ) → (n == n) ≡ true
itself n = grind (arith, common_steps)

found : (now : ℕ) (reached : Bool) (r : Row) → is_unreached r.id (seen now reached (Some r)) ≡ not reached
found now reached r = ap (λ b. b && not reached) (itself r.id)

apart : (a b n : ℕ) → b < n → n ≤ a → (a == b) ≡ false
apart a b n h le = grind (arith, common_steps)

other_id : (next id now : ℕ) (reached : Bool) (row : Option Row) → IdBelow next row → next ≤ id
    → is_unreached id (seen now reached row) ≡ false
other_id next id now reached None h le = refl
other_id next id now reached (Some r) h le = ap (λ b. b && not reached) (apart id r.id next h le)

stays_below : (next now : ℕ) (reached : Bool) (row : Option Row) (runs : List Seen) → Tracks next runs row
    → AreBelow next (seen now reached row ∷ runs)
stays_below next now reached row runs t id i le u =
    let yes_ = first_unreached id i (seen now reached row) runs u in
    let no_ = other_id next id now reached row t.id le in
    cc

-- the body goes as the law says, and its mark is right from then on
abbrev Ends : ℕ → ℕ → List Seen → Row → Option Row → Type 0
Ends limit now runs r new = GoesAs limit now runs r new × HasMark runs new

abbrev with_mark : Row → Option ℕ → Row
with_mark r mark = record { id = r.id; mark = mark }

goes_on : (limit now : ℕ) (runs : List Seen) (r : Row) (mark : Option ℕ) → ¬ (IsDoomed limit now r.id runs)
    → IsMark r.id runs mark → Ends limit now runs r (Some (with_mark r mark))
goes_on limit now runs r mark safe m = (record { removed = (λ e. cc, λ d. absurd (safe d)); stays = stays }, m)
  where
    stays : (s : Row) → Some (with_mark r mark) ≡ Some s → (s.id ≡ r.id) × IsMark r.id runs s.mark
    stays s e =
        let same : with_mark r mark ≡ s = cc in
        (sym (ap (λ (x : Row). x.id) same), subst (λ (x : Row). IsMark r.id runs x.mark) same m)

goes_off : (limit now : ℕ) (runs : List Seen) (r : Row) → IsDoomed limit now r.id runs → Ends limit now runs r None
goes_off limit now runs r d = (record { removed = (λ _. d, λ _. refl); stays = λ s e. cc }, tt)

row_reached : (limit now : ℕ) (runs : List Seen) (r : Row)
    → Ends limit now (seen now true (Some r) ∷ runs) r (after_row limit now true r)
row_reached limit now runs r =
    let s = seen now true (Some r) in
    let none = no_mark r.id s runs (found now true r) in
    goes_on limit now (s ∷ runs) r None (λ d. none d.from d.unreached) none

-- by whether the least moment is past the limit
unreached_by : (limit now m : ℕ) (runs : List Seen) (r : Row) (b : Bool) → IsLeast r.id m runs → is_past limit now m ≡ b
    → Ends limit now runs r (cond b None (Some (with_mark r (Some m))))
unreached_by limit now m runs r true l e = goes_off limit now runs r (doomed_by_mark limit now r.id m runs l e)
unreached_by limit now m runs r false l e =
    goes_on limit now runs r (Some m) (λ d. let y = mark_by_doomed limit now r.id m runs l d in cc) l

row_unreached : (limit now : ℕ) (runs : List Seen) (r : Row) → IsMark r.id runs r.mark
    → Ends limit now (seen now false (Some r) ∷ runs) r (after_row limit now false r)
row_unreached limit now runs r old =
    let m = least r.mark now in
    let s = seen now false (Some r) in
    let l = next_mark r.id s runs r.mark (found now false r) old in
    unreached_by limit now m (s ∷ runs) r (is_past limit now m) l refl

row_done : (limit now : ℕ) (reached : Bool) (runs : List Seen) (r : Row) → IsMark r.id runs r.mark
    → Ends limit now (seen now reached (Some r) ∷ runs) r (after_row limit now reached r)
row_done limit now true runs r old = row_reached limit now runs r
row_done limit now false runs r old = row_unreached limit now runs r old

id_after : (limit now next : ℕ) (reached : Bool) (r : Row) → r.id < next → IdBelow next (after_row limit now reached r)
id_after limit now next reached r h = by_case (is_over limit now (new_mark reached now r.mark))
  where
    by_case : (b : Bool) → IdBelow next (cond b None (Some (with_mark r (new_mark reached now r.mark))))
    by_case true = tt
    by_case false = h

done : (limit now next : ℕ) (reached : Bool) (runs : List Seen) (row : Option Row) → Tracks next runs row
    → HeldGoes limit now (seen now reached row ∷ runs) row (after_held limit now reached row)
    × Tracks next (seen now reached row ∷ runs) (after_held limit now reached row)
done limit now next reached runs None t =
    (refl, record { below = stays_below next now reached None runs t; id = tt; row_mark = tt })
done limit now next reached runs (Some r) t =
    let d = row_done limit now reached runs r t.row_mark in
    let id = id_after limit now next reached r t.id in
    (d.0, record { below = stays_below next now reached (Some r) runs t; id = id; row_mark = d.1 })

-- ---- other steps

id_later : (low high : ℕ) (row : Option Row) → low ≤ high → IdBelow low row → IdBelow high row
id_later low high None le h = tt
id_later low high (Some r) le h = omega arith

below_later : (low high : ℕ) (runs : List Seen) → low ≤ high → AreBelow low runs → AreBelow high runs
below_later low high runs le below id i h u = below id i (omega arith) u

changed : (low high : ℕ) (runs : List Seen) (old new : Option Row) → low ≤ high → Changes low high old new
    → Tracks low runs old → Tracks high runs new
changed low high runs old new le (inl e) t =
    let row : Tracks high runs old = record {
      below = below_later low high runs le t.below;
      id = id_later low high old le t.id;
      row_mark = t.row_mark;
    } in
    subst (λ row. Tracks high runs row) (sym e) row
changed low high runs old new le (inr (inl e)) t =
    let none : Tracks high runs None = record { below = below_later low high runs le t.below; id = tt; row_mark = tt } in
    subst (λ row. Tracks high runs row) (sym e) none
changed low high runs old new le (inr (inr (id, a, b, e))) t =
    let fresh : Tracks high runs (Some (record { id = id; mark = None })) = record {
      below = below_later low high runs le t.below;
      id = b;
      row_mark = λ i u. t.below id i a u;
    } in
    subst (λ row. Tracks high runs row) (sym e) fresh

-- ---- all runs

all_runs : (limit : ℕ) (p : Path) (runs : List Seen) (h : House) (es : List Event) → Tracks h.next runs (h.held p)
    → Follow limit h es → Lawful limit p runs h es
all_runs limit p runs h [] t f = tt
all_runs limit p runs h (Done now reached after ∷ es) t f =
    let more = seen now (reached p) (h.held p) ∷ runs in
    let d = done limit now h.next (reached p) runs (h.held p) t in
    let is = sym (f.0.each p) in
    let tracks = subst (λ n. Tracks n more (after.held p)) (sym f.0.next) (subst (λ x. Tracks h.next more x) is d.1) in
    (subst (λ x. HeldGoes limit now more (h.held p) x) is d.0, all_runs limit p more after es tracks f.1)
all_runs limit p runs h (Aborted ∷ es) t f = all_runs limit p runs h es t f
all_runs limit p runs h (Other after ∷ es) t f =
    let tracks = changed h.next after.next runs (h.held p) (after.held p) f.0.next (f.0.each p) t in
    all_runs limit p runs after es tracks f.1

-- ---- the beginning

begins : (next : ℕ) (row : Option Row) → ((r : Row) → row ≡ Some r → r.id < next) → Tracks next (before row) row
begins next None h = record { below = λ id i le u. absurd (omega (arith, u.within)); id = tt; row_mark = tt }
begins next (Some r) h = begins_row r.mark refl
  where
    s : ℕ → Seen
    s m = record { now = m; body = Some r.id; reached = false }

    none : (id i : ℕ) → ¬ (IsUnreachedFrom id i [])
    none id i u = absurd (omega (arith, u.within))

    one : (m : ℕ) → AreBelow next (s m ∷ [])
    one m id i le u =
        let yes_ = first_unreached id i (s m) [] u in
        let no_ : is_unreached id (s m) ≡ false = ap (λ b. b && true) (apart id r.id next (h r refl) le) in
        cc

    itself_found : (m : ℕ) → is_unreached r.id (s m) ≡ true
    itself_found m = ap (λ b. b && true) (itself r.id)

    low : (m i : ℕ) → IsUnreachedFrom r.id i (s m ∷ []) → m ≤ moment i (s m ∷ [])
    low m zero u = omega arith
    low m (suc i) u = absurd (none r.id i (later_unreached r.id i (s m) [] u))

    marked : (m : ℕ) → IsLeast r.id m (s m ∷ [])
    marked m = record { from = 0; unreached = from_here r.id (s m) [] (itself_found m); is = refl; least = low m }

    begins_row : (mark : Option ℕ) → r.mark ≡ mark → Tracks next (before_row r r.mark) (Some r)
    begins_row None e =
        let no_mark_yet : IsMark r.id [] r.mark = subst (λ m. IsMark r.id [] m) (sym e) (λ i u. none r.id i u) in
        let tracks : Tracks next [] (Some r) = record { below = λ id i le u. none id i u; id = h r refl; row_mark = no_mark_yet } in
        subst (λ m. Tracks next (before_row r m) (Some r)) (sym e) tracks
    begins_row (Some m) e =
        let is_marked : IsMark r.id (s m ∷ []) r.mark = subst (λ x. IsMark r.id (s m ∷ []) x) (sym e) (marked m) in
        let tracks : Tracks next (s m ∷ []) (Some r) = record { below = one m; id = h r refl; row_mark = is_marked } in
        subst (λ x. Tracks next (before_row r x) (Some r)) (sym e) tracks

pub law : OneMarkSuffices
law limit h es house f p = all_runs limit p (before (h.held p)) h es (begins h.next (h.held p) (house.each p)) f
