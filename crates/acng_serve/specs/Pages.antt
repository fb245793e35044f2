-- The report page: what its query asks, and what is sent of a desk.
use Rattle.std.specs.Prelude.{◌≡◌, ◌⊎◌, Bool, true, false, List, [], ℕ, Option, Some, None, bytes_eq, codes, ⊤}
use Rattle.acng_base.specs.declared.clock.Moment.{Moment}
use Rattle.acng_conf.specs.Settings.{Settings}
use Rattle.acng_desk.specs.House.{House, Plain}
use Rattle.acng_expire.specs.declared.line.ExpireLine.{ExpireLine}
use Rattle.acng_expire.specs.Lines.{HasLine, HasEnded}
use Rattle.acng_report.specs.Desks.{lines_of}
use Rattle.acng_report.specs.Pages.{Page, page_of}
use Rattle.acng_reply.specs.declared.manner.Manner.{Manner}
use Rattle.acng_reply.specs.Replies.{Sent}
use Rattle.acng_serve.specs.declared.note.Note.{Note}
use Rattle.acng_serve.specs.declared.note.Cause.TheVariants as cause
use Rattle.acng_serve.specs.Notes.{Gives, lined, paged}

-- ---- the query

-- the page is to be shown; or to be shown behind a run of expiration; or such a run is asked for and isn't allowed
pub data Visit : Type 0 where
  Shows Runs Forbids : Visit

-- any other query asks for nothing
abbrev pub asks_run : List ℕ → Bool
asks_run query = bytes_eq query (codes "run=expire")

-- by whether a run is asked for, and whether the configuration allows it
abbrev pub visit_by : Bool → Bool → Visit
visit_by false leave = Shows
visit_by true true = Runs
visit_by true false = Forbids

abbrev pub visit_of : Settings → List ℕ → Visit
visit_of s query = visit_by (asks_run query) s.maint_over_http

-- ---- the page of a desk

-- with a first text
abbrev pub page_at : List ℕ → Plain → Page
page_at first p = record { bytes = page_of first (lines_of p); first = first }

-- a run at the moment, and the page of what it left, with its line as the first text
pub record IsRunPage {Q : Type 0} (tells : Bool) (now : Moment) (old new : House) (page : Page) (run : Option (ExpireLine Q)) : Type
    0 where
  pub line : ExpireLine Q
  pub ran : HasLine tells now old new line
  pub told : run ≡ Some line
  pub shows : page ≡ page_at line.text new.plain

-- the same of some desk, where a lock tells nothing of it
pub record IsSomePage {Q : Type 0} (page : Page) (run : Option (ExpireLine Q)) : Type 0 where
  pub desk : Plain
  pub shows : page ≡ page_at [] desk
  pub none : run ≡ None

pub record IsSomeRun {Q : Type 0} (tells : Bool) (now : Moment) (page : Page) (run : Option (ExpireLine Q)) : Type 0 where
  pub old : House
  pub new : House
  pub is : IsRunPage tells now old new page run

-- ---- what is sent of a desk that a call has to itself

-- the page of the desk, unless memory was wanting; the desk stays as it is
pub record ShowsDesk {Q : Type 0} (m : Manner) (old new : House) (note : Note Q) (io : Sent) : Type 0 where
  pub gives : Gives (paged m (page_at [] old.plain) None) note io ⊎ Gives (lined m cause.NoMemory None None) note io
  pub same : new ≡ old

-- the page behind a run
pub record RunsDesk {Q : Type 0} (tells : Bool) (m : Manner) (now : Moment) (old new : House) (note : Note Q) (io : Sent) : Type 0 where
  pub page : Page
  pub run : Option (ExpireLine Q)
  pub is : IsRunPage tells now old new page run
  pub gives : Gives (paged m page run) note io

-- memory was wanting before the run, in it, or behind it
pub record LacksRun {Q : Type 0} (tells : Bool) (m : Manner) (now : Moment) (old new : House) (note : Note Q) (io : Sent) : Type 0 where
  pub gives : Gives (lined m cause.NoMemory None None) note io
  pub ended : HasEnded tells now old new

-- a visit; one that isn't allowed is told by its line
abbrev pub Visits : {Q : Type 0} → Bool → Manner → Moment → House → House → Note Q → Sent → Visit → Type 0
Visits tells m now old new note io Shows = ShowsDesk m old new note io
Visits tells m now old new note io Runs = RunsDesk tells m now old new note io ⊎ LacksRun tells m now old new note io
Visits tells m now old new note io Forbids = ⊤
