-- The bodies of the ticket that is out, and what becomes nobody's when it comes in.
use Rattle.std.proofs.Common.{◌≡◌, ◌≢◌, ◌==◌, ℕ, ◌+◌, ◌≤◌, Bool, true, false, ◌&&◌, List, Some, None, Option, is_some, unwrap_or}
use Rattle.std.proofs.Common.{refl, sym, ap, subst, ◌∙◌, inl, inr, arith}
use Rattle.std.specs.Option.{option_map, IfSome}
use mathlib.Core.Bool.{true≢false}
use Rattle.acng_site.specs.declared.site.Site.{Ghosts as SiteGhosts}
use Rattle.acng_head.specs.declared.head.Label.{Label}
use Rattle.acng_head.specs.declared.head.Label.TheVariants.{Fetched, Imported}
use Rattle.acng_rows.specs.declared.row.Whole.{Whole}
use Rattle.acng_rows.specs.Rows.{Load, whole_at, out_at}
use Rattle.acng_rows.specs.Starts.{NamesBelow}
use Rattle.acng_desk.specs.declared.ticket.Info.{Info}
use Rattle.acng_desk.specs.House.{Parked, Plain, House}
use Rattle.acng_desk.specs.Keeps.{Fresh, Carried, join, IsPlain, IsSound, IsNobodys}
use Rattle.acng_desk.specs.Settles.{is_out, same_id, part_id, left_with, HasOwn, IsOwn, IsAmong}
use Rattle.acng_desk.proofs.Changes.{no_some}
use Rattle.acng_desk.proofs.Lefts.{bare_out, own_had, held_own, out_own, freed}

and_left : (a b : Bool) → (a && b) ≡ true → a ≡ true
and_left true b is = refl
and_left false b is = is

and_right : (a b : Bool) → (a && b) ≡ true → b ≡ true
and_right true b is = is
and_right false b is = absurd (true≢false (sym is))

same_is : (m n : Option ℕ) → same_id m n ≡ true → m ≡ n
same_is None None is = refl
same_is None (Some n) is = absurd (true≢false (sym is))
same_is (Some m) None is = absurd (true≢false (sym is))
same_is (Some m) (Some n) is = let e : m ≡ n = grind (arith, is) in ap (λ k. Some k) e

pub out_some : (o : Option Load) (i : Info) → is_out o i ≡ true → is_some o ≡ true
out_some None i is = is
out_some (Some o) i is = refl

pub out_fresh : (o : Option Load) (i : Info) → is_out o i ≡ true → HasOwn o i.fresh
out_fresh None i is = absurd (true≢false (sym is))
out_fresh (Some o) i is =
    let b : (o.fresh == i.fresh) ≡ true = and_right (o.first == i.first) (o.fresh == i.fresh)
    (and_left ((o.first == i.first) && (o.fresh == i.fresh)) (same_id o.part (part_id i)) is) in
    inl (grind (arith, b))

pub out_part : (o : Option Load) (i : Info) (id : ℕ) → is_out o i ≡ true → part_id i ≡ Some id → HasOwn o id
out_part None i id is at = absurd (true≢false (sym is))
out_part (Some o) i id is at =
    inr (same_is o.part (part_id i) (and_right ((o.first == i.first) && (o.fresh == i.fresh)) (same_id o.part (part_id i)) is) ∙ at)

pub out_first : (o : Load) (i : Info) → is_out (Some o) i ≡ true → o.first ≡ i.first
out_first o i is =
    let b : (o.first == i.first) ≡ true = and_left (o.first == i.first) (o.fresh == i.fresh)
    (and_left ((o.first == i.first) && (o.fresh == i.fresh)) (same_id o.part (part_id i)) is) in
    grind (arith, b)

pub out_has : (o : Option Load) (i : Info) (id : ℕ) → is_out o i ≡ true → IsOwn i id → HasOwn o id
out_has o i id is (inl own) = subst (HasOwn o) (sym own) (out_fresh o i is)
out_has o i id is (inr own) = out_part o i id is (sym own)

-- ---- nobody's from then on

pub close_freed : {S : Type 0} (s : SiteGhosts S) (tells : Bool) (h : House) (path : List ℕ) (id : ℕ) → IsSound s tells h
    → HasOwn (out_at h.plain.rows path) id
    → IsNobodys (left_with path (whole_at h.plain.rows path) None h.plain).rows
    (left_with path (whole_at h.plain.rows path) None h.plain).parts id
close_freed s tells h path id a own =
    let out : is_some (out_at h.plain.rows path) ≡ true = out_own (out_at h.plain.rows path) id own in
    freed s tells h.plain path (whole_at h.plain.rows path) None a.plain (bare_out s tells h.plain path a.plain out) id
    (own_had h.plain path id own)
    (λ x at. held_own s tells h.plain path x id a.plain at own) (λ x is. no_some x is)

pub rest_freed : {S : Type 0} (s : SiteGhosts S) (tells : Bool) (h : House) (path : List ℕ) (x : Parked) (id : ℕ) → IsSound s tells h
    → HasOwn (out_at h.plain.rows path) id
    → id ≢ x.handle.number
    → IsNobodys (left_with path (whole_at h.plain.rows path) (Some x) h.plain).rows (left_with path (whole_at h.plain.rows path) (Some x)
    h.plain).parts id
rest_freed s tells h path x id a own other =
    let out : is_some (out_at h.plain.rows path) ≡ true = out_own (out_at h.plain.rows path) id own in
    freed s tells h.plain path (whole_at h.plain.rows path) (Some x) a.plain (bare_out s tells h.plain path a.plain out) id
    (own_had h.plain path id own)
    (λ w at. held_own s tells h.plain path w id a.plain at own)
    (λ y is e. other (sym e ∙ sym (ap (λ (o : Option Parked). unwrap_or (option_map (λ (p : Parked). p.handle.number) o) id) is)))

-- ---- labels among the sixteen

among_case : {S : Type 0} (s : SiteGhosts S) (tells : Bool) (p : Plain) (path : List ℕ) (i : Info) (l : Label) (o : Option Load)
    → IsPlain s tells p → out_at p.rows path ≡ o → is_out o i ≡ true
    → IsAmong i.first l → NamesBelow p.next_try l
among_case s tells p path i l None a at is among = absurd (true≢false (sym is))
among_case s tells p path i (Fetched first last) (Some o) a at is among = omega (arith, among.1, out_first o i is, a.tries.out path o at)
among_case s tells p path i (Imported hash size) (Some o) a at is among = absurd among

pub among_below : {S : Type 0} (s : SiteGhosts S) (tells : Bool) (p : Plain) (path : List ℕ) (i : Info) (l : Label) → IsPlain s tells p
    → is_out (out_at p.rows path) i ≡ true
    → IsAmong i.first l → NamesBelow p.next_try l
among_below s tells p path i l a is among = among_case s tells p path i l (out_at p.rows path) a refl is among

-- the new body and the partial one are two
pub own_apart : {S : Type 0} (s : SiteGhosts S) (tells : Bool) (p : Plain) (path : List ℕ) (i : Info) (id : ℕ) → IsPlain s tells p
    → is_out (out_at p.rows path) i ≡ true → part_id i ≡ Some id → id ≢ i.fresh
own_apart s tells p path i id a is at same = by (out_at p.rows path) refl is
  where
    fresh_carried : Fresh ≡ Carried → ⊥
    fresh_carried e = cc

    by : (o : Option Load) → out_at p.rows path ≡ o → is_out o i ≡ true → ⊥
    by None e not = absurd (true≢false (sym not))
    by (Some o) e sure =
        let b : (o.fresh == i.fresh) ≡ true = and_right (o.first == i.first) (o.fresh == i.fresh)
        (and_left ((o.first == i.first) && (o.fresh == i.fresh)) (same_id o.part (part_id i)) sure) in
        let f : o.fresh ≡ i.fresh = grind (arith, b) in
        let c : o.part ≡ Some id = same_is o.part (part_id i) (and_right ((o.first == i.first) && (o.fresh == i.fresh))
        (same_id o.part (part_id i)) sure) ∙ at in
        fresh_carried (a.apart.each path path Fresh Carried id
        (ap (option_map (λ (l : Load). l.fresh)) e ∙ ap (λ n. Some n) (f ∙ sym same))
        (ap (λ (x : Option Load). join x (λ l. l.part)) e ∙ c)).1

-- ---- the same for an id that may not be there

part_by : {S : Type 0} (s : SiteGhosts S) (tells : Bool) (h : House) (path : List ℕ) (i : Info) (o : Option ℕ) → part_id i ≡ o
    → IsSound s tells h → is_out (out_at h.plain.rows path) i ≡ true
    → IfSome o (IsNobodys (left_with path (whole_at h.plain.rows path) None h.plain).rows (left_with path (whole_at h.plain.rows path) None
    h.plain).parts)
part_by s tells h path i None at a out = tt
part_by s tells h path i (Some id) at a out = close_freed s tells h path id a (out_part (out_at h.plain.rows path) i id out at)

pub part_freed : {S : Type 0} (s : SiteGhosts S) (tells : Bool) (h : House) (path : List ℕ) (i : Info) → IsSound s tells h
    → is_out (out_at h.plain.rows path) i ≡ true
    → IfSome (part_id i) (IsNobodys (left_with path (whole_at h.plain.rows path) None h.plain).rows
    (left_with path (whole_at h.plain.rows path) None h.plain).parts)
part_freed s tells h path i a out = part_by s tells h path i (part_id i) refl a out

pub other_freed : {S : Type 0} (s : SiteGhosts S) (tells : Bool) (h : House) (path : List ℕ) (i : Info) (x : Parked) (o : Option ℕ)
    → IsSound s tells h
    → is_out (out_at h.plain.rows path) i ≡ true → IfSome o (λ id. IsOwn i id × (id ≢ x.handle.number))
    → IfSome o (IsNobodys (left_with path (whole_at h.plain.rows path) (Some x) h.plain).rows
    (left_with path (whole_at h.plain.rows path) (Some x) h.plain).parts)
other_freed s tells h path i x None a out may = tt
other_freed s tells h path i x (Some id) a out may = rest_freed s tells h path x id a (out_has (out_at h.plain.rows path) i id out may.0)
    may.1

apart_by : {S : Type 0} (s : SiteGhosts S) (tells : Bool) (p : Plain) (path : List ℕ) (i : Info) (o : Option ℕ) → part_id i ≡ o
    → IsPlain s tells p → is_out (out_at p.rows path) i ≡ true
    → IfSome o (λ id. id ≢ i.fresh)
apart_by s tells p path i None at a out = tt
apart_by s tells p path i (Some id) at a out = own_apart s tells p path i id a out at

pub apart_if : {S : Type 0} (s : SiteGhosts S) (tells : Bool) (p : Plain) (path : List ℕ) (i : Info) → IsPlain s tells p
    → is_out (out_at p.rows path) i ≡ true
    → IfSome (part_id i) (λ id. id ≢ i.fresh)
apart_if s tells p path i a out = apart_by s tells p path i (part_id i) refl a out

-- another of the ticket's bodies than the one that is held from now on
pub hold_freed : {S : Type 0} (s : SiteGhosts S) (tells : Bool) (h : House) (path : List ℕ) (i : Info) (w : Whole) (o : Option ℕ)
    → IsSound s tells h
    → is_out (out_at h.plain.rows path) i ≡ true → IfSome o (λ id. IsOwn i id × (id ≢ w.id))
    → IfSome o (IsNobodys (left_with path (Some w) None h.plain).rows (left_with path (Some w) None h.plain).parts)
hold_freed s tells h path i w None a out may = tt
hold_freed s tells h path i w (Some id) a out may =
    let own = out_has (out_at h.plain.rows path) i id out may.0 in
    let there : is_some (out_at h.plain.rows path) ≡ true = out_own (out_at h.plain.rows path) id own in
    freed s tells h.plain path (Some w) None a.plain (bare_out s tells h.plain path a.plain there) id (own_had h.plain path id own)
    (λ x is e. may.1 (sym e ∙ sym (ap (λ (q : Option Whole). unwrap_or (option_map (λ (v : Whole). v.id) q) id) is)))
    (λ x is. no_some x is)

out_by : {S : Type 0} (s : SiteGhosts S) (tells : Bool) (p : Plain) (path : List ℕ) (i : Info) (o : Option Load) → out_at p.rows path ≡ o
    → IsPlain s tells p → is_out o i ≡ true → i.first + 16 ≤ p.next_try
out_by s tells p path i None at a is = absurd (true≢false (sym is))
out_by s tells p path i (Some o) at a is = omega (arith, out_first o i is, a.tries.out path o at)

-- the sixteen tries of the ticket that is out are below the next one
pub out_below : {S : Type 0} (s : SiteGhosts S) (tells : Bool) (p : Plain) (path : List ℕ) (i : Info) → IsPlain s tells p
    → is_out (out_at p.rows path) i ≡ true → i.first + 16 ≤ p.next_try
out_below s tells p path i a is = out_by s tells p path i (out_at p.rows path) refl a is
