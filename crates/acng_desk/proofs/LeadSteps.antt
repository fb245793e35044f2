-- The steps of giving a ticket out.
use Rattle.std.proofs.Common.{◌≡◌, ℕ, ◌<◌, Bool, true, false, not, List, Some, None, Option, is_some, refl}
use Rattle.std.proofs.Common.{sym, ap, subst, ◌∙◌, arith}
use Rattle.std.specs.Option.{option_map, IfSome}
use Rattle.std.specs.Prelude.{All, length, IsSomeAnd}
use mathlib.Core.Bool.{true≢false}
use Rattle.std.specs.FinMap as map
use Rattle.acng_base.specs.declared.clock.Moment.{Moment}
use Rattle.acng_keeper.specs.Handles.{Handle, fresh}
use Rattle.acng_keeper.specs.Slips.{Faults, Later, SlipRose}
use Rattle.acng_keeper.specs.declared.slip.KeepFault.{KeepFault}
use Rattle.acng_keeper.specs.declared.slip.KeepFault.TheVariants.{Slip, NoMemory}
use Rattle.acng_site.specs.declared.site.Site.{Ghosts as SiteGhosts}
use Rattle.acng_rows.specs.declared.row.Whole.{Whole}
use Rattle.acng_rows.specs.Rows.{Rows, Row, Load, bare, whole_in, whole_at, reserved, released, with_out}
use Rattle.acng_rows.specs.Starts.{NamesBelow}
use Rattle.acng_rows.proofs.Points.{got_own}
use Rattle.acng_rows.proofs.Wholes.{undone, twice, none_is}
use Rattle.acng_desk.specs.declared.ticket.OldFile.{OldFile}
use Rattle.acng_desk.specs.declared.ticket.PartFile.{PartFile}
use Rattle.acng_desk.specs.House.{Parked, House, Spot, spot_at}
use Rattle.acng_desk.specs.Keeps.{IsSound}
use Rattle.acng_desk.specs.Tickets.{Ticketed, IsTicket, IsOld, IsOldBody, IsPart, IsPartBody, old_of, file_of}
use Rattle.acng_desk.specs.Begins.{OldBodyAs, info_of, load_of, is_worn}
use Rattle.acng_desk.specs.Settles.{load_in}
use Rattle.acng_desk.proofs.Leads.{tries_there}
use Rattle.acng_desk.proofs.Wholes.{is_old, is_old_body}

not_true : (b : Bool) → true ≡ not b → b ≡ false
not_true true e = absurd (true≢false e)
not_true false e = refl

not_false : (b : Bool) → false ≡ not b → b ≡ true
not_false true e = refl
not_false false e = absurd (true≢false (sym e))

-- ---- the room that is made and filled, or taken back

module _ (rows : Rows) (path : List ℕ) where
  absent : true ≡ not (map.contains_key rows path) → map.get rows path ≡ None
  absent e = none_is (map.get rows path) (not_true (map.contains_key rows path) e)

  set_reserved : (made : Bool) (r : Row) → map.insert (reserved made rows path) path r ≡ map.insert rows path r
  set_reserved true r = twice rows path bare r
  set_reserved false r = refl

  whole_reserved : (made : Bool) → made ≡ not (map.contains_key rows path) → whole_at (reserved made rows path) path ≡ whole_at rows path
  whole_reserved true e = ap whole_in (got_own rows path bare) ∙ sym (ap whole_in (absent e))
  whole_reserved false e = refl

  pub has_reserved : (made : Bool) → made ≡ not (map.contains_key rows path) → map.contains_key (reserved made rows path) path ≡ true
  has_reserved true e = ap is_some (got_own rows path bare)
  has_reserved false e = not_false (map.contains_key rows path) e

  pub released_reserved : (made : Bool) → made ≡ not (map.contains_key rows path) → released made (reserved made rows path) path ≡ rows
  released_reserved true e = undone rows path bare (absent e)
  released_reserved false e = refl

  -- the row that was reserved and filled
  pub out_reserved : (made : Bool) → made ≡ not (map.contains_key rows path) → (o : Load)
      → with_out (reserved made rows path) path (Some o) ≡ map.insert rows path (record { whole = whole_at rows path; out = Some o })
  out_reserved made e o = set_reserved made (record { whole = whole_at (reserved made rows path) path; out = Some o })
      ∙ ap (λ w. map.insert rows path (record { whole = w; out = Some o })) (whole_reserved made e)

pub slip_later : {P : Type 0} (e : KeepFault P) (a b c : Faults) → Later a b → SlipRose e b c → SlipRose e a c
slip_later (Slip p) a b c later rose = record { rose = omega (arith, later.count, rose.rose); could = sym later.may_fail ∙ rose.could }
slip_later NoMemory a b c later rose = tt

pub later_both : (a b c : Faults) → Later a b → Later b c → Later a c
later_both a b c x y = record { count = omega (arith, x.count, y.count); may_fail = y.may_fail ∙ x.may_fail }

-- ---- what the row says of the ticket

ids_case : (o : Option Parked) → option_map (λ (f : PartFile). f.id) (option_map file_of o) ≡ option_map (λ (p : Parked). p.handle.number) o
ids_case None = refl
ids_case (Some p) = refl

labels_case : (o : Option Whole) → option_map (λ (f : OldFile). f.label) (option_map old_of o) ≡ option_map (λ (w : Whole). w.label) o
labels_case None = refl
labels_case (Some w) = refl

pub load_is : (path : List ℕ) (origins : List (List ℕ)) (now : Moment) (s : Spot) → load_in (info_of path origins now s) ≡ load_of s
load_is path origins now s =
    (λ i. record { first = s.next_try; fresh = s.next_id; part = ids_case s.part i; was = labels_case (whole_in s.row) i })

pub labels_are : (o : Option Whole) (was : Option OldFile) → was ≡ option_map old_of o
    → option_map (λ (f : OldFile). f.label) was ≡ option_map (λ (w : Whole). w.label) o
labels_are o was is = ap (option_map (λ (f : OldFile). f.label)) is ∙ labels_case o

-- ---- the ticket keeps what a ticket keeps

module _ {S : Type 0} (s : SiteGhosts S) (tells body_tells : Bool) (same : body_tells ≡ tells) (h : House) (path : List ℕ)
    (a : IsSound s tells h) where
  old_case : (o : Option Whole) → whole_at h.plain.rows path ≡ o → IfSome (option_map old_of o) (IsOld s path)
  old_case None at = tt
  old_case (Some w) at = is_old s tells h path w a at

  below_case : (o : Option Whole) → whole_at h.plain.rows path ≡ o
      → IfSome (option_map old_of o) (λ (f : OldFile). NamesBelow h.plain.next_try f.label)
  below_case None at = tt
  below_case (Some w) at = a.plain.tries.whole path w at

  body_case : (o : Option Whole) (b : Option Handle) → whole_at h.plain.rows path ≡ o → OldBodyAs tells h.kept o b
      → IfSome b (λ x. IsSomeAnd (option_map old_of o) (λ f. IsOldBody s body_tells path f x))
  body_case None None at is = tt
  body_case None (Some x) at is = absurd is
  body_case (Some w) None at is = tt
  body_case (Some w) (Some x) at is = subst (λ t. IsOldBody s t path (old_of w) x) (sym same) (is_old_body s tells h path w a at x is)

  part_case : (o : Option Parked) → map.get h.plain.parts path ≡ o → IfSome (option_map file_of o) (IsPart s path)
  part_case None at = tt
  part_case (Some p) at = (a.plain.stand.parked path p at).file

  part_below_case : (o : Option Parked) → map.get h.plain.parts path ≡ o
      → IfSome (option_map file_of o) (λ (f : PartFile). NamesBelow h.plain.next_try f.label)
  part_below_case None at = tt
  part_below_case (Some p) at = a.plain.tries.part path p at

  part_body_case : (o : Option Parked) → map.get h.plain.parts path ≡ o
      → IfSome o (λ b. IsSomeAnd (option_map file_of o) (λ f. IsPartBody s body_tells path f b))
  part_body_case None at = tt
  part_body_case (Some p) at = subst (λ t. IsPartBody s t path (file_of p) p) (sym same) (a.plain.stand.parked path p at).body

  -- the value that `begin` makes
  abbrev pub given : List (List ℕ) → Moment → Option Handle → Ticketed
  given origins now old = record {
    info = info_of path origins now (spot_at h.plain path);
    left = 16;
    fresh = Some (fresh h.plain.next_id);
    old_body = old;
    part_body = map.get h.plain.parts path;
  }

  pub given_keeps : (origins : List (List ℕ)) (now : Moment) (old : Option Handle) → 0 < length origins
      → (s.tells ≡ true → All (λ u. s.serves u path ≡ true) origins)
      → is_worn (spot_at h.plain path) ≡ false → OldBodyAs tells h.kept (whole_at h.plain.rows path) old
      → IsTicket s body_tells (given origins now old)
  given_keeps origins now old some serve worn is = record {
    some = some;
    serve = serve;
    first = tries_there h.plain path worn;
    few = omega arith;
    old_file = old_case (whole_at h.plain.rows path) refl;
    old_below = below_case (whole_at h.plain.rows path) refl;
    part_file = part_case (map.get h.plain.parts path) refl;
    part_below = part_below_case (map.get h.plain.parts path) refl;
    fresh = record { number = refl; size = refl; writable = refl; bytes = λ told. refl };
    old_body = body_case (whole_at h.plain.rows path) old refl is;
    part_body = part_body_case (map.get h.plain.parts path) refl;
  }
