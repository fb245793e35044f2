-- What the stops of several steps of a desk leave together.
use Rattle.std.proofs.Common.{◌≡◌, ℕ, Bool, true, false, ◌||◌, List, Some, None, Option, is_some, cond, refl, sym, ap, subst, ◌∙◌}
use mathlib.Core.Bool.{true≢false}
use Rattle.acng_site.specs.declared.site.Site.{Ghosts as SiteGhosts}
use Rattle.acng_keeper.specs.Kept.{Kept, stored}
use Rattle.acng_keeper.specs.Images.{LeavesOnly}
use Rattle.acng_keeper.specs.Stops.{last, leaves_more}
use Rattle.std.specs.FinMap as map
use Rattle.acng_rows.specs.declared.row.Whole.{Whole}
use Rattle.acng_base.specs.declared.clock.Moment.{Moment}
use Rattle.acng_rows.specs.declared.stamp.Stamp.TheVariants.{Checked, Mark}
use Rattle.acng_base.specs.declared.hash.Hash.{Hash}
use Rattle.acng_grow.specs.Grown.{Grown, number_of}
use Rattle.acng_desk.specs.declared.ending.Ending.{Ending}
use Rattle.acng_desk.specs.declared.ending.Ending.TheVariants as ending
use Rattle.acng_desk.specs.declared.ticket.Info.{Info}
use Rattle.acng_desk.specs.Tickets.{Ticketed}
use Rattle.acng_desk.specs.Commands.{Settle, PutImport, step, imported, put_in, marked}
use Rattle.acng_rows.specs.Rows.{Rows, whole_at, out_at, with_whole, stamped_in, restamped}
use Rattle.acng_rows.specs.Goods.{Core, Holds, IsExact, IsBetween}
use Rattle.acng_rows.proofs.Points.{tie, tied}
use Rattle.acng_rows.proofs.Wholes.{whole-insert, whole-remove, same_wholes, none_is}
use Rattle.acng_rows.proofs.Changes.{rest_stops as rows_rest}
use Rattle.acng_rows.proofs.Seals.{alike_exact, alike_holds, between_any, since_stops, then_stops, stops_alike, one_of}
use Rattle.acng_desk.specs.House.{House, Parked, Plain, spot_at}
use Rattle.acng_desk.specs.Begins.{is_full}
use Rattle.acng_desk.specs.Settles.{left_rows, left_with, new_in, end_of, ended}
use Rattle.acng_desk.specs.Stops.{IsFile, StopsAt, IsFound, KeepsFiles}

-- the rows have the same whole bodies
abbrev pub Alike : Rows → Rows → Type 0
Alike m n = (q : List ℕ) → whole_at m q ≡ whole_at n q

-- ---- which whole bodies a row that was left has

left_case : (rows : Rows) (path q : List ℕ) (w : Option Whole) (b : Bool) → (b ≡ false → w ≡ None)
    → whole_at (cond b (map.insert rows path (record { whole = w; out = None })) (map.remove rows path)) q
    ≡ cond (tie q path) w (whole_at rows q)
left_case rows path q w true none = whole-insert rows path (record { whole = w; out = None }) q
left_case rows path q w false none = whole-remove rows path q ∙ ap (λ o. cond (tie q path) o (whole_at rows q)) (sym (none refl))

no_whole : (a : Bool) (w : Option Whole) → (a || is_some w) ≡ false → w ≡ None
no_whole true None is = refl
no_whole false None is = refl
no_whole true (Some w) is = absurd (true≢false is)
no_whole false (Some w) is = absurd (true≢false is)

pub whole_left : (rows : Rows) (path : List ℕ) (w : Option Whole) (stays : Bool) (q : List ℕ)
    → whole_at (left_rows rows path w stays) q ≡ cond (tie q path) w (whole_at rows q)
whole_left rows path w stays q = left_case rows path q w (stays || is_some w) (no_whole stays w)

own_case : (rows : Rows) (path q : List ℕ) (b : Bool) → tie q path ≡ b → cond b (whole_at rows path) (whole_at rows q) ≡ whole_at rows q
own_case rows path q true t = ap (whole_at rows) (sym (tied q path t))
own_case rows path q false t = refl

-- the ticket came in, and the whole body stays
pub left_alike : (rows : Rows) (path : List ℕ) (stays : Bool) → Alike (left_rows rows path (whole_at rows path) stays) rows
left_alike rows path stays q = whole_left rows path (whole_at rows path) stays q ∙ own_case rows path q (tie q path) refl

-- the whole body was changed before
pub with_alike : (rows : Rows) (path : List ℕ) (w : Option Whole) (stays : Bool)
    → Alike (left_rows rows path w stays) (with_whole rows path w)
with_alike rows path w stays q = whole_left rows path w stays q
    ∙ sym (whole-insert rows path (record { whole = w; out = out_at rows path }) q)

pub plain_alike : (p q : Plain) → q ≡ p → Alike q.rows p.rows
plain_alike p q is path = ap (λ (x : Plain). whole_at x.rows path) is

pub plain_rows : (p q : Plain) → p ≡ q → Alike p.rows q.rows
plain_rows p q is path = ap (λ (x : Plain). whole_at x.rows path) is

pub left_with_alike : (p q : Plain) (path : List ℕ) (part : Option Parked) → q ≡ left_with path (whole_at p.rows path) part p
    → Alike q.rows p.rows
left_with_alike p q path part is r = ap (λ (x : Plain). whole_at x.rows r) is ∙ left_alike p.rows path (is_some part) r

-- nothing is marked where no whole body is held
marked_case : (mark : Option Moment) (path : List ℕ) (p : Plain) (b : Bool) → is_some (whole_at p.rows path) ≡ b
    → Alike (cond b (record p { rows = restamped (Mark mark) p.rows path }) p).rows (restamped (Mark mark) p.rows path)
marked_case mark path p true is q = refl
marked_case mark path p false is q =
    let none : whole_at p.rows path ≡ None = none_is (whole_at p.rows path) is in
    sym (same_wholes p.rows path (record { whole = stamped_in (Mark mark) (whole_at p.rows path); out = out_at p.rows path })
    (ap (stamped_in (Mark mark)) none ∙ sym none) q)

pub marked_alike : (mark : Option Moment) (path : List ℕ) (p : Plain) → Alike (marked mark path p).rows (restamped (Mark mark) p.rows path)
marked_alike mark path p q = marked_case mark path p (is_some (whole_at p.rows path)) refl q

-- ---- steps put together

module _ {S : Type 0} (s : SiteGhosts S) where
  wide : (c : Core) (text : List ℕ) → IsFile s c text → IsFile s c text
  wide c text f = f

  -- nothing came
  pub rest_stops : (rows : Rows) (old new : House) → new.kept ≡ old.kept → StopsAt s rows old new
  rest_stops rows old new is =
      subst (λ k. LeavesOnly (IsBetween (IsFile s) old.plain.rows rows (stored old.kept)) old.kept k) (sym is)
      (rows_rest (IsFile s) old.plain.rows rows old.kept)

  pub rest_found : (old new : House) → new.kept ≡ old.kept → Alike new.plain.rows old.plain.rows → IsFound old → IsFound new
  rest_found old new is same a = subst (λ (k : Kept). IsExact new.plain.rows (stored k)) (sym is)
      (alike_exact old.plain.rows new.plain.rows same (stored old.kept) a)

  pub rest_files : (old new : House) → new.kept ≡ old.kept → Alike new.plain.rows old.plain.rows → KeepsFiles s old new
  rest_files old new is same = (rest_stops old.plain.rows old new is, rest_found old new is same)

  -- the ticket came in, and the whole body stays
  pub left_files : (old new : House) (path : List ℕ) (part : Option Parked)
      → new.plain ≡ left_with path (whole_at old.plain.rows path) part old.plain → new.kept ≡ old.kept → KeepsFiles s old new
  left_files old new path part is same = rest_files old new same
      (λ q. ap (λ (p : Plain). whole_at p.rows q) is ∙ left_alike old.plain.rows path (is_some part) q)

  -- where the files are kept, any rows may be said to come
  pub any_stops : (rows : Rows) (old new : House) → StopsAt s old.plain.rows old new → StopsAt s rows old new
  any_stops rows old new l = leaves_more (IsBetween (IsFile s) old.plain.rows old.plain.rows (stored old.kept))
      (IsBetween (IsFile s) old.plain.rows rows (stored old.kept)) old.kept new.kept
      (λ t b. between_any (IsFile s) old.plain.rows rows (stored old.kept) t b) l

  -- the rows that come are seen otherwise
  pub as_stops : (rows other : Rows) (old new : House) → Alike other rows → StopsAt s rows old new → StopsAt s other old new
  as_stops rows other old new same l = stops_alike (IsFile s) (IsFile s) old.plain.rows old.plain.rows rows other (stored old.kept)
      old.kept new.kept (λ q. refl) same wide l

  -- the files are kept, and then rows come
  pub since_files : (rows : Rows) (old mid new : House) → Alike mid.plain.rows old.plain.rows → KeepsFiles s old mid
      → StopsAt s rows mid new → StopsAt s rows old new
  since_files rows old mid new same a b =
      let back : Alike old.plain.rows mid.plain.rows = λ q. sym (same q) in
      since_stops (IsFile s) old.plain.rows rows old.kept mid.kept new.kept a.0
      (λ f. alike_exact mid.plain.rows old.plain.rows back (stored mid.kept) (a.1 f))
      (λ h. one_of ((last (IsBetween (IsFile s) old.plain.rows old.plain.rows (stored old.kept)) old.kept mid.kept a.0).holds h))
      (stops_alike (IsFile s) (IsFile s) mid.plain.rows old.plain.rows rows rows (stored mid.kept) mid.kept new.kept back (λ q. refl)
      wide b)

  pub both_files : (old mid new : House) → Alike mid.plain.rows old.plain.rows → KeepsFiles s old mid → KeepsFiles s mid new
      → KeepsFiles s old new
  both_files old mid new same a b = (
    since_files old.plain.rows old mid new same a (any_stops old.plain.rows mid new b.0),
    λ f. b.1 (a.1 f),
  )

  -- rows came, and then the files are kept
  pub then_files : (rows : Rows) (old mid new : House) → Alike mid.plain.rows rows → StopsAt s rows old mid
      → (IsFound old → IsFound mid) → Holds mid.plain.rows (stored mid.kept) → KeepsFiles s mid new → StopsAt s rows old new
  then_files rows old mid new same a found held b =
      let back : Alike rows mid.plain.rows = λ q. sym (same q) in
      then_stops (IsFile s) old.plain.rows rows old.kept mid.kept new.kept a
      (λ f. alike_exact mid.plain.rows rows back (stored mid.kept) (found f))
      (λ h. alike_holds mid.plain.rows rows back (stored mid.kept) held)
      (stops_alike (IsFile s) (IsFile s) mid.plain.rows rows mid.plain.rows rows (stored mid.kept) mid.kept new.kept back back wide b.0)

  -- the same, where the keeper did nothing more
  pub then_rest : (rows : Rows) (old mid new : House) → new.kept ≡ mid.kept → StopsAt s rows old mid → StopsAt s rows old new
  then_rest rows old mid new is a =
      subst (λ k. LeavesOnly (IsBetween (IsFile s) old.plain.rows rows (stored old.kept)) old.kept k) (sym is) a

  -- a ticket was settled by this end
  pub ended_stops : (h new : House) (t : Ticketed) (g : Grown) (e : Ending) (rows : Rows) → end_of (spot_at h.plain g.path) t g ≡ e
      → (ended e t g h.plain).rows ≡ rows → StopsAt s rows h new → StopsAt s (step (Settle t g) h.plain).rows h new
  ended_stops h new t g e rows is same l =
      subst (λ r. StopsAt s r h new) (sym (ap (λ x. (ended x t g h.plain).rows) is ∙ same)) l

  pub kept_stops : (h new : House) (t : Ticketed) (g : Grown) (i : Info) → end_of (spot_at h.plain g.path) t g ≡ ending.Keep → i ≡ t.info
      → g.path ≡ t.info.path
      → StopsAt s (left_with i.path (new_in i.moment (number_of g) g.seen.label g.seen) None h.plain).rows h new
      → StopsAt s (step (Settle t g) h.plain).rows h new
  kept_stops h new t g i is info path l =
      ended_stops h new t g ending.Keep (left_with i.path (new_in i.moment (number_of g) g.seen.label g.seen) None h.plain).rows is
      (ap (λ q. (left_with q (new_in t.info.moment (number_of g) g.seen.label g.seen) None h.plain).rows) path
      ∙ sym (ap (λ (x : Info). (left_with x.path (new_in x.moment (number_of g) g.seen.label g.seen) None h.plain).rows) info)) l

  pub same_stops : (h new : House) (t : Ticketed) (g : Grown) (i : Info) → end_of (spot_at h.plain g.path) t g ≡ ending.Same → i ≡ t.info
      → g.path ≡ t.info.path
      → StopsAt s (left_with i.path (stamped_in (Checked i.moment) (whole_at h.plain.rows i.path)) None h.plain).rows h new
      → StopsAt s (step (Settle t g) h.plain).rows h new
  same_stops h new t g i is info path l =
      ended_stops h new t g ending.Same (left_with i.path (stamped_in (Checked i.moment) (whole_at h.plain.rows i.path)) None h.plain).rows
      is
      (ap (λ q. (left_with q (stamped_in (Checked t.info.moment) (whole_at h.plain.rows q)) None h.plain).rows) path
      ∙ sym (ap (λ (x : Info). (left_with x.path (stamped_in (Checked x.moment) (whole_at h.plain.rows x.path)) None h.plain).rows) info)) l

  -- an import was put where there is room
  pub put_stops : (h new : House) (path : List ℕ) (id : ℕ) (hash : Hash) (size : ℕ) (now : Moment)
      → is_full (spot_at h.plain path) ≡ false → StopsAt s (put_in path (imported id hash size now) h.plain).rows h new
      → StopsAt s (step (PutImport path id hash size now) h.plain).rows h new
  put_stops h new path id hash size now room l =
      let done : Plain = put_in path (imported id hash size now) h.plain in
      subst (λ b. StopsAt s (cond b h.plain done).rows h new) (sym room) l
