-- What a request is answered where nothing fails: a function of the request, the configuration, what the desk has, the site
-- and the moment. What the report page shows is told of the desk itself.
use Rattle.std.specs.Prelude.{ℕ, Bool, true, false, List, [], Option, Some, None, option_map, Ok, Err}
use Rattle.std.specs.FinMap as map
use Rattle.acng_base.specs.declared.clock.Moment.{Moment}
use Rattle.acng_base.specs.Answers.{Reading as Heard}
use Rattle.acng_site.specs.declared.ask.Ask.{Ask}
use Rattle.acng_site.specs.declared.site.Site.{Ghosts as SiteGhosts}
use Rattle.acng_site.specs.Honest.{heard}
use Rattle.acng_head.specs.declared.head.Label.{Label}
use Rattle.acng_head.specs.declared.head.Label.TheVariants.{Fetched, Imported}
use Rattle.acng_conf.specs.Settings.{Settings}
use Rattle.acng_remap.specs.Readings.{Reading, reading}
use Rattle.acng_remap.specs.declared.target.Target.TheVariants.{File, Page}
use Rattle.acng_class.specs.declared.class.Class.{Class}
use Rattle.acng_class.specs.declared.class.Class.TheVariants.{Solid, Volatile, Forbidden}
use Rattle.acng_class.specs.Classes.{class_of}
use Rattle.acng_request.specs.declared.got.Request.{Request}
use Rattle.acng_keeper.specs.Kept.{Kept}
use Rattle.acng_grow.specs.declared.facts.Seen.{Seen}
use Rattle.acng_grow.specs.Effects.{Effect, Errand, opening, runs, kept_same}
use Rattle.acng_grow.specs.Download.{download}
use Rattle.acng_rows.specs.declared.row.Whole.{Whole}
use Rattle.acng_rows.specs.Rows.{whole_in}
use Rattle.acng_desk.specs.declared.case.Case.{Case}
use Rattle.acng_desk.specs.declared.case.Case.TheVariants as case
use Rattle.acng_desk.specs.declared.entry.BrimKind.TheVariants as brim
use Rattle.acng_desk.specs.declared.entry.Entry.{Entry}
use Rattle.acng_desk.specs.House.{House, Spot, spot_at, facts_of}
use Rattle.acng_desk.specs.Tickets.{errand_of}
use Rattle.acng_desk.specs.Begins.{begin_case, entry_of, info_of}
use Rattle.acng_reply.specs.declared.manner.Manner.{Manner}
use Rattle.acng_reply.specs.Manners.{manner_of}
use Rattle.acng_serve.specs.declared.note.Cause.TheVariants as cause
use Rattle.acng_serve.specs.Causes.{target_cause, brim_cause}
use Rattle.acng_serve.specs.Notes.{Answer, Found, lined, found, answer_of}
use Rattle.acng_serve.specs.Pages.{Visit, Shows, Runs, Forbids, visit_of}

-- what an answer depends on besides the request and the configuration
pub record World : Type 0 where
  -- what the desk has for each path, and the sealed bodies by id
  pub spot : List ℕ → Spot
  pub bodies : ℕ → List ℕ
  -- what an attempt hears, and the file of a path as an attempt finds it
  pub heard : ℕ → Ask → Heard
  pub instance : ℕ → List ℕ → List ℕ
  pub now : Moment

-- a desk at a moment, over a site
abbrev pub bytes_in : Option (List ℕ) → List ℕ
bytes_in None = []
bytes_in (Some bytes) = bytes

abbrev pub bytes_at : Kept → ℕ → List ℕ
bytes_at k id = bytes_in (map.get k.bodies id)

abbrev pub world_of : {S : Type 0} → SiteGhosts S → House → Moment → World
world_of s h now = record { spot = spot_at h.plain; bodies = bytes_at h.kept; heard = heard s; instance = s.instance; now = now }

-- ---- what is found

-- a held body is looked at as one that a download kept
abbrev pub held_seen : Whole → Seen
held_seen x = kept_same (record { label = x.label; facts = facts_of x; size = x.size })

abbrev pub found_held : World → List ℕ → Whole → Found
found_held w path x =
    found (entry_of path (w.spot path).next_try (Some x.label) true w.now) (held_seen x) (w.bodies x.id)

abbrev pub whole_label : Option Whole → Option Label
whole_label x = option_map (λ (y : Whole). y.label) x

-- what the download of a path is for
abbrev pub errand_at : World → List ℕ → List (List ℕ) → Errand
errand_at w path origins = errand_of (info_of path origins w.now (w.spot path))

abbrev pub effects_at : World → List ℕ → List (List ℕ) → List Effect
effects_at w path origins = download w.heard (errand_at w path origins) 16 (w.spot path).next_try

-- the file of a path that a downloaded body's label names
abbrev pub file_by : (ℕ → List ℕ → List ℕ) → List ℕ → Option Label → List ℕ
file_by instance path None = []
file_by instance path (Some (Fetched first last)) = instance first path
file_by instance path (Some (Imported hash size)) = []

-- what is to be seen of the body that the download gives, and its text
abbrev pub seen_at : World → List ℕ → List (List ℕ) → Seen
seen_at w path origins = runs (errand_at w path origins) (effects_at w path origins) opening

abbrev pub text_at : World → List ℕ → List (List ℕ) → List ℕ
text_at w path origins = file_by w.instance path (seen_at w path origins).label

abbrev pub entry_at : World → List ℕ → Entry
entry_at w path = entry_of path (w.spot path).next_try (whole_label (whole_in (w.spot path).row)) false w.now

abbrev pub found_loaded : World → List ℕ → List (List ℕ) → Found
found_loaded w path origins = found (entry_at w path) (seen_at w path origins) (text_at w path origins)

-- ---- the answer

-- the answer, and the path whose ticket was given out for it, with its origins
pub record Answered (Q : Type 0) : Type 0 where
  pub answer : Answer Q
  pub loads : Option (List ℕ × List (List ℕ))

abbrev pub still : {Q : Type 0} → Answer Q → Answered Q
still a = record { answer = a; loads = None }

-- a whole body is held where it is kept
abbrev pub by_whole : {Q : Type 0} → Manner → World → Request → List ℕ → Option Whole → Answered Q
by_whole m w r path None = still (lined m cause.NoMemory None None)
by_whole m w r path (Some x) = still (answer_of m r (found_held w path x))

-- no ticket is out where a call has the desk to itself, so nothing is joined
abbrev pub by_case : {Q : Type 0} → Manner → World → Request → List ℕ → List (List ℕ) → Case → Answered Q
by_case m w r path origins case.Join = still (lined m cause.NoMemory None None)
by_case m w r path origins case.Keep = by_whole m w r path (whole_in (w.spot path).row)
by_case m w r path origins case.Offline = still (lined m (brim_cause brim.Offline path) None None)
by_case m w r path origins case.Full = still (lined m (brim_cause brim.Full path) None None)
by_case m w r path origins case.Worn = still (lined m (brim_cause brim.Worn path) None None)
by_case m w r path origins case.Lead =
    record { answer = answer_of m r (found_loaded w path origins); loads = Some (path, origins) }

abbrev pub by_class : {Q : Type 0} → Manner → World → Request → List ℕ → List (List ℕ) → Class → Answered Q
by_class m w r path origins Forbidden = still (lined m cause.Forbidden None None)
by_class m w r path origins Solid = by_case m w r path origins (begin_case (w.spot path) Solid w.now.0)
by_class m w r path origins Volatile = by_case m w r path origins (begin_case (w.spot path) Volatile w.now.0)

-- None where the page is shown: the desk itself tells what is on it
abbrev pub by_visit : {Q : Type 0} → Manner → Visit → Option (Answered Q)
by_visit m Shows = None
by_visit m Runs = None
by_visit m Forbids = Some (still (lined m cause.Maint None None))

abbrev pub by_target : {Q : Type 0} → Settings → Manner → World → Request → Reading → Option (Answered Q)
by_target s m w r (Err fault) = Some (still (lined m (target_cause fault) None None))
by_target s m w r (Ok (Page query)) = by_visit m (visit_of s query)
by_target s m w r (Ok (File path origins)) = Some (by_class m w r path origins (class_of s.pfile_pattern s.vfile_pattern path))

-- what a request is answered in a manner
abbrev pub answered_as : {Q : Type 0} → Settings → Manner → World → Request → Option (Answered Q)
answered_as s m w r = by_target s m w r (reading s r.method r.target)

-- what a request is answered; `last` is the last of its connection
abbrev pub answered : {Q : Type 0} → Settings → Bool → World → Request → Option (Answered Q)
answered s last w r = answered_as s (manner_of last r) w r
