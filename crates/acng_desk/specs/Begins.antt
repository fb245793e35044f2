-- How a desk lets a call in.
use Rattle.std.specs.Prelude.{◌≡◌, ℕ, ◌+◌, ◌-◌, ◌^◌, Bool, true, false, not, ◌&&◌, ◌||◌, cond, nat_le, nat_lt, List}
use Rattle.std.specs.Prelude.{is_some, Option, None, Some, option_map, ⊤}
use Rattle.std.specs.FinMap as map
use Rattle.acng_base.specs.declared.clock.Moment.{Moment}
use Rattle.acng_class.specs.declared.class.Class.{Class}
use Rattle.acng_class.specs.declared.class.Class.TheVariants.{Solid, Volatile, Forbidden}
use Rattle.acng_conf.specs.Settings.{Rules}
use Rattle.acng_head.specs.declared.head.Label.{Label}
use Rattle.acng_site.specs.declared.site.Site.{Ghosts as SiteGhosts}
use Rattle.acng_keeper.specs.Handles.{Handle, fresh}
use Rattle.acng_keeper.specs.Kept.{Kept, stored}
use Rattle.acng_keeper.specs.Slips.{HasFailed}
use Rattle.acng_rows.specs.declared.row.Whole.{Whole}
use Rattle.acng_rows.specs.Rows.{Row, Load, whole_in, out_in, whole_at, out_at}
use Rattle.acng_desk.specs.declared.case.Case.{Case}
use Rattle.acng_desk.specs.declared.case.Case.TheVariants as case
use Rattle.acng_desk.specs.declared.begin.Begun.{Begun}
use Rattle.acng_desk.specs.declared.begin.Begun.TheVariants as begun
use Rattle.acng_desk.specs.declared.entry.Brim.{Brim}
use Rattle.acng_desk.specs.declared.entry.BrimKind.{BrimKind}
use Rattle.acng_desk.specs.declared.entry.BrimKind.TheVariants as brim
use Rattle.acng_desk.specs.declared.entry.Entry.{Entry}
use Rattle.acng_desk.specs.declared.entry.Held.{Held}
use Rattle.acng_desk.specs.House.{Parked, Plain, House, Spot, spot_at, facts_of}
use Rattle.acng_desk.specs.declared.ticket.Info.{Info}
use Rattle.acng_desk.specs.Tickets.{Ticketed, IsOld, IsOldBody, old_of, file_of}

-- ---- which case fits

abbrev pub is_solid : Class → Bool
is_solid Solid = true
is_solid Volatile = false
is_solid Forbidden = false

-- not checked after now, and not longer ago than the age; a clock that went back makes nothing fresh
abbrev pub is_fresh : ℕ → ℕ → ℕ → Bool
is_fresh age checked now = nat_le checked now && nat_le (now - checked) age

-- a whole body is held that is served as it is
abbrev pub keeps : Rules → Class → ℕ → Option Whole → Bool
keeps rules class now None = false
keeps rules class now (Some w) = is_solid class || rules.offline || is_fresh rules.fresh_age w.checked.0 now

-- the path has no row, and the rows are at their limit
abbrev pub is_full : Spot → Bool
is_full s = not (is_some s.row) && s.crowded

-- sixteen more tries, or one more id, aren't there
abbrev pub is_worn : Spot → Bool
is_worn s = nat_lt (2 ^ 63 - 16) s.next_try || nat_le (2 ^ 63) s.next_id

-- the first case that fits
abbrev pub begin_case : Spot → Class → ℕ → Case
begin_case s class now =
    cond (is_some (out_in s.row)) case.Join
    (cond (keeps s.rules class now (whole_in s.row)) case.Keep
    (cond s.rules.offline case.Offline
    (cond (is_full s) case.Full
    (cond (is_worn s) case.Worn case.Lead))))

-- ---- what is made of the house

abbrev pub load_of : Spot → Load
load_of s = record {
  first = s.next_try;
  fresh = s.next_id;
  part = option_map (λ (p : Parked). p.handle.number) s.part;
  was = option_map (λ (w : Whole). w.label) (whole_in s.row);
}

abbrev pub led_row : Spot → Row
led_row s = record { whole = whole_in s.row; out = Some (load_of s) }

-- a ticket of the path is out, with the partial body, a new body and sixteen tries
abbrev pub led : List ℕ → Plain → Plain
led path p = record {
  rows = map.insert p.rows path (led_row (spot_at p path));
  parts = map.remove p.parts path;
  next_try = p.next_try + 16;
  next_id = p.next_id + 1;
  limit = p.limit;
  rules = p.rules;
}

abbrev pub let_in : Case → List ℕ → Plain → Plain
let_in case.Join path p = p
let_in case.Keep path p = p
let_in case.Offline path p = p
let_in case.Full path p = p
let_in case.Worn path p = p
let_in case.Lead path p = led path p

-- ---- what is handed out

abbrev pub entry_of : List ℕ → ℕ → Option Label → Bool → Moment → Entry
entry_of path first was kept now =
    record { asked = record { path = path; first_try = first; old = was }; kept = kept; moment = now }

abbrev pub brim_of : BrimKind → List ℕ → Brim
brim_of kind path = record { kind = kind; path = path }

-- what a ticket says
abbrev pub info_of : List ℕ → List (List ℕ) → Moment → Spot → Info
info_of path origins now s = record {
  path = path;
  moment = now;
  first = s.next_try;
  origins = origins;
  redir_max = s.rules.redir_max;
  fresh = s.next_id;
  was = option_map old_of (whole_in s.row);
  part = option_map file_of s.part;
}

-- a handle of a whole body, as the keeper gave it
pub record IsHandleOf (tells : Bool) (k : Kept) (w : Whole) (h : Handle) : Type 0 where
  pub number : h.number ≡ w.id
  pub size : h.size ≡ w.size
  pub sealed : h.writable ≡ false
  pub bytes : tells ≡ true → map.get k.bodies w.id ≡ Some h.bytes

-- the whole body of a row, with what is known of it
pub record HoldsAs {F : Type 0} (handle : F → Handle) (tells : Bool) (k : Kept) (w : Whole) (held : Held F) : Type 0 where
  pub id : held.id.0 ≡ w.id
  pub label : held.label ≡ w.label
  pub facts : held.facts ≡ facts_of w
  pub size : held.size ≡ w.size
  pub body : IsHandleOf tells k w (handle held.body)

-- the handle of a ticket's old body: there where the row has a whole body
abbrev pub OldBodyAs : Bool → Kept → Option Whole → Option Handle → Type 0
OldBodyAs tells k None None = ⊤
OldBodyAs tells k None (Some h) = ⊥
OldBodyAs tells k (Some w) None = ⊥
OldBodyAs tells k (Some w) (Some h) = IsHandleOf tells k w h

-- a ticket with all that it is given
pub record TicketAs (tells : Bool) (k : Kept) (s : Spot) (path : List ℕ) (origins : List (List ℕ)) (now : Moment) (t : Ticketed) : Type
    0 where
  pub info : t.info ≡ info_of path origins now s
  pub left : t.left ≡ 16
  pub fresh_body : t.fresh ≡ Some (fresh s.next_id)
  pub part_body : t.part_body ≡ s.part
  pub old_body : OldBodyAs tells k (whole_in s.row) t.old_body

-- ---- the answers

abbrev pub KeptAs : {F : Type 0} → (F → Handle) → Bool → Kept → List ℕ → ℕ → Moment → Option Whole → Held F → Entry → Type 0
KeptAs handle tells k path next now None held e = ⊥
KeptAs handle tells k path next now (Some w) held e = HoldsAs handle tells k w held × (e ≡ entry_of path next (Some w.label) true now)

abbrev pub JoinedAs : List ℕ → Moment → Option Load → Entry → Type 0
JoinedAs path now None e = ⊥
JoinedAs path now (Some o) e = e ≡ entry_of path o.first o.was false now

-- the answer is that of the case that fits, and holds what the house has; a refusal comes with a failed call, and want of
-- memory is free
abbrev pub BegunAs : {S F P T X : Type 0} → (F → Handle) → Bool → List ℕ → Class → List (List ℕ) → Moment → House → House
    → Begun S F P T X → Type 0
BegunAs handle tells path class origins now h new (begun.Kept held e) =
    (begin_case (spot_at h.plain path) class now.0 ≡ case.Keep)
    × KeptAs handle tells h.kept path h.plain.next_try now (whole_at h.plain.rows path) held e
BegunAs handle tells path class origins now h new (begun.Join token e) =
    (begin_case (spot_at h.plain path) class now.0 ≡ case.Join) × JoinedAs path now (out_at h.plain.rows path) e × (new ≡ h)
BegunAs handle tells path class origins now h new (begun.Lead ticket e) =
    (begin_case (spot_at h.plain path) class now.0 ≡ case.Lead)
    × TicketAs tells h.kept (spot_at h.plain path) path origins now ticket
    × (e ≡ entry_of path h.plain.next_try (option_map (λ (w : Whole). w.label) (whole_at h.plain.rows path)) false now)
BegunAs handle tells path class origins now h new (begun.Offline b) =
    (begin_case (spot_at h.plain path) class now.0 ≡ case.Offline) × (b ≡ brim_of brim.Offline path) × (new ≡ h)
BegunAs handle tells path class origins now h new (begun.Full b) =
    (begin_case (spot_at h.plain path) class now.0 ≡ case.Full) × (b ≡ brim_of brim.Full path) × (new ≡ h)
BegunAs handle tells path class origins now h new (begun.Worn b) =
    (begin_case (spot_at h.plain path) class now.0 ≡ case.Worn) × (b ≡ brim_of brim.Worn path) × (new ≡ h)
BegunAs handle tells path class origins now h new (begun.KeeperFault p) = HasFailed h.faults new.faults
BegunAs handle tells path class origins now h new begun.NoMemory = ⊤

-- it was answered, or refused for a failed call or for want of memory
abbrev pub IfAnswered : {S F P T X : Type 0} → Begun S F P T X → Type 0 → Type 0 → Type 0
IfAnswered (begun.Kept held e) A B = A
IfAnswered (begun.Join token e) A B = A
IfAnswered (begun.Lead ticket e) A B = A
IfAnswered (begun.Offline b) A B = A
IfAnswered (begun.Full b) A B = A
IfAnswered (begun.Worn b) A B = A
IfAnswered (begun.KeeperFault p) A B = B
IfAnswered begun.NoMemory A B = B

abbrev pub IfKept : {S F P T X : Type 0} → Begun S F P T X → (Held F → Type 0) → Type 0
IfKept (begun.Kept held e) A = A held
IfKept (begun.Join token e) A = ⊤
IfKept (begun.Lead ticket e) A = ⊤
IfKept (begun.Offline b) A = ⊤
IfKept (begun.Full b) A = ⊤
IfKept (begun.Worn b) A = ⊤
IfKept (begun.KeeperFault p) A = ⊤
IfKept begun.NoMemory A = ⊤

-- what a `Held` says of its body, as a ticket says it of an old one
pub record IsHeld {S F : Type 0} (s : SiteGhosts S) (handle : F → Handle) (tells : Bool) (path : List ℕ) (held : Held F) : Type 0 where
  pub said : IsOld s path (record { id = held.id.0; label = held.label; facts = held.facts; size = held.size })
  pub body : IsOldBody s tells path (record { id = held.id.0; label = held.label; facts = held.facts; size = held.size })
      (handle held.body)

-- no effect came: heads, sealed bodies and trail are as they were
pub record HasRested (old new : Kept) : Type 0 where
  pub stored_is : stored new ≡ stored old
  pub trail_is : new.trail ≡ old.trail
