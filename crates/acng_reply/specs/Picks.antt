-- What of a file a reply sends (RFC 9110, sections 13 and 14).
use Rattle.std.specs.Prelude.{◌≡◌, ◌<◌, ◌≤◌, ℕ, ◌+◌, ◌-◌, Bool, true, false, ◌&&◌, ◌||◌, ◌==◌, nat_le, min, cond, ⊤}
use Rattle.std.specs.Prelude.{List, [], take, drop, Option, Some, None, is_some, bytes_eq, codes}
use Rattle.httpdate.specs.Date.{parse_secs}
use Rattle.acng_base.specs.declared.clock.Moment.{Moment}
use Rattle.acng_request.specs.declared.got.Request.{Request}
use Rattle.acng_request.specs.declared.got.Part.{Part}
use Rattle.acng_grow.specs.declared.facts.Facts.{Facts}
use Rattle.acng_grow.specs.declared.facts.Stage.{Stage}
use Rattle.acng_grow.specs.declared.facts.Stage.TheVariants as stage
use Rattle.acng_reply.specs.declared.pick.Pick.{Pick}
use Rattle.acng_reply.specs.declared.pick.Pick.TheVariants.{Unmodified, NoPart, Section, All}

-- ---- ranges

abbrev pub is_get : Request → Bool
is_get r = bytes_eq r.method (codes "GET")

abbrev pub same_secs : Option ℕ → Option Moment → Bool
same_secs None m = false
same_secs (Some n) None = false
same_secs (Some n) (Some m) = n == m.0

abbrev pub same_tag : List ℕ → Option (List ℕ) → Bool
same_tag text None = false
same_tag text (Some tag) = bytes_eq text tag

-- an `If-Range` names the file by its tag or by its date (section 13.1.5)
abbrev pub names_held : Facts → Option (List ℕ) → Bool
names_held f None = true
names_held f (Some text) = same_tag text f.tag || same_secs (parse_secs text) f.modified

abbrev pub both : {A B : Type 0} → Option A → Option B → Option (A × B)
both None b = None
both (Some a) None = None
both (Some a) (Some b) = Some (a, b)

-- the Range of a GET whose total is known, and whose If-Range, if there is one, names the file
abbrev pub lawful_range : Request → Facts → Option (Part × ℕ)
lawful_range r f = cond (is_get r && names_held f r.if_range) (both r.part f.total) None

-- the place after the last one that was asked for, or the end
abbrev pub stop_at : ℕ → Option ℕ → ℕ
stop_at total None = total
stop_at total (Some last) = min (last + 1) total

abbrev pub by_range : Option (Part × ℕ) → Pick
by_range None = All
by_range (Some p) = cond (nat_le p.1 p.0.from) (NoPart p.0.from p.1) (Section p.0.from (stop_at p.1 p.0.to) p.1)

-- ---- dates

abbrev pub not_later : Option Moment → Option Moment → Bool
not_later None since = false
not_later (Some m) None = false
not_later (Some m) (Some s) = nat_le m.0 s.0

-- a body that was held before
abbrev pub is_kept : Stage → Bool
is_kept stage.Opening = false
is_kept stage.Running = false
is_kept stage.Whole = false
is_kept stage.Cut = false
is_kept stage.Same = true
is_kept stage.Refused = false

-- the client has the file (section 15.4.5)
abbrev pub is_unmodified : Request → Bool → Facts → Bool
is_unmodified r kept f = (is_some f.total || kept) && not_later f.modified r.since

-- ---- the pick

-- 304 goes before 416, 206 and 200
abbrev pub pick : Request → Bool → Facts → Pick
pick r kept f = cond (is_unmodified r kept f) Unmodified (by_range (lawful_range r f))

-- the asked part of a file
abbrev pub part_of : Pick → List ℕ → List ℕ
part_of Unmodified file = []
part_of (NoPart from total) file = []
part_of (Section from stop total) file = take (stop - from) (drop from file)
part_of All file = file

-- a part begins in the file and lies in it
pub record IsSection (f : Facts) (from stop total : ℕ) : Type 0 where
  pub known : f.total ≡ Some total
  pub begins : from < total
  pub inside : stop ≤ total

pub record IsPast (f : Facts) (from total : ℕ) : Type 0 where
  pub known : f.total ≡ Some total
  pub past : total ≤ from

-- what a pick says of the facts that it was made with
abbrev pub IsPicked : Facts → Pick → Type 0
IsPicked f Unmodified = ⊤
IsPicked f (NoPart from total) = IsPast f from total
IsPicked f (Section from stop total) = IsSection f from stop total
IsPicked f All = ⊤

abbrev pub status_of : Pick → ℕ
status_of Unmodified = 304
status_of (NoPart from total) = 416
status_of (Section from stop total) = 206
status_of All = 200

-- where the bytes of the file that are sent begin, and where they stop, if it isn't the end
abbrev pub range_of : Pick → ℕ × Option ℕ
range_of Unmodified = (0, Some 0)
range_of (NoPart from total) = (0, Some 0)
range_of (Section from stop total) = (from, Some stop)
range_of All = (0, None)

-- the first and the last place
abbrev pub part_in : Pick → Option (ℕ × ℕ)
part_in Unmodified = None
part_in (NoPart from total) = None
part_in (Section from stop total) = Some (from, stop - 1)
part_in All = None
