-- When a note is lawful for a request, whoever else uses the desk, and what went out for it.
use Rattle.std.specs.Prelude.{◌≡◌, ◌⊎◌, ◌≤◌, ℕ, Bool, true, false, List, length, [], Option, Some, None, Ok, Err, IfSome, IsSome, ⊤}
use Rattle.acng_base.specs.declared.clock.Moment.{Moment}
use Rattle.acng_site.specs.declared.site.Site.{Ghosts as SiteGhosts}
use Rattle.acng_head.specs.declared.head.Label.{Label}
use Rattle.acng_conf.specs.Settings.{Settings}
use Rattle.acng_remap.specs.Readings.{Reading, reading}
use Rattle.acng_remap.specs.declared.target.Target.TheVariants.{File, Page}
use Rattle.acng_class.specs.declared.class.Class.{Class}
use Rattle.acng_class.specs.declared.class.Class.TheVariants.{Solid, Volatile, Forbidden}
use Rattle.acng_class.specs.Classes.{class_of}
use Rattle.acng_request.specs.declared.got.Request.{Request}
use Rattle.acng_grow.specs.declared.asked.Asked.{Asked}
use Rattle.acng_grow.specs.declared.facts.Stage.TheVariants as stage
use Rattle.acng_grow.specs.declared.why.Shown.{Shown}
use Rattle.acng_grow.specs.Agrees.{label_agrees, cause_agrees}
use Rattle.acng_grow.specs.Causes.{IsLawful}
use Rattle.acng_grow.specs.Looks.{CauseStands}
use Rattle.acng_grow.specs.Stands.{StandsFor, StandsWhole, FactsStand}
use Rattle.acng_desk.specs.declared.entry.BrimKind.{BrimKind}
use Rattle.acng_desk.specs.House.{House, Plain}
use Rattle.acng_reply.specs.declared.manner.Manner.{Manner}
use Rattle.acng_reply.specs.declared.pick.Pick.{Pick}
use Rattle.acng_reply.specs.declared.pick.Pick.TheVariants as picks
use Rattle.acng_reply.specs.Picks.{pick, is_kept}
use Rattle.acng_reply.specs.Replies.{Sent, WroteAll, WroteFront, through}
use Rattle.acng_serve.specs.declared.note.Cause.{Cause}
use Rattle.acng_serve.specs.declared.note.Cause.TheVariants as cause
use Rattle.acng_serve.specs.declared.note.Note.{Note}
use Rattle.acng_serve.specs.Causes.{target_cause, brim_cause}
use Rattle.acng_serve.specs.Notes.{Answer, Found, Gives, lined, paged, answer_of}
use Rattle.acng_serve.specs.Pages.{Visit, Shows, Runs, Forbids, RunsDesk, page_at, visit_of}

-- ---- what was found for a file

-- an entry for the path, and a look that a body of it may give, where the site tells
pub record IsFound {S : Type 0} (s : SiteGhosts S) (path : List ℕ) (f : Found) : Type 0 where
  pub at : f.entry.asked.path ≡ path
  -- a held body
  pub kept_label : f.entry.kept ≡ true → f.look.label ≡ f.entry.asked.old
  pub kept_stage : f.entry.kept ≡ true → f.look.stage ≡ stage.Same
  pub kept_total : f.entry.kept ≡ true → IsSome f.look.facts.total
  -- a body of the ticket that was out or given
  pub label : f.entry.kept ≡ false → label_agrees f.entry.asked.first_try f.entry.asked.old f.look.label ≡ true
  pub cause : f.entry.kept ≡ false → cause_agrees f.entry.asked.first_try f.look.shown ≡ true
  pub facts : s.tells ≡ true → IfSome f.look.label (λ l. FactsStand s path None l f.look.facts)
  pub lawful : s.tells ≡ true → IfSome f.look.shown (IsLawful s path)

-- a text, as far as it is there, stands for the label
abbrev pub IsTextOf : {S : Type 0} → SiteGhosts S → Bool → List ℕ → Option Label → List ℕ → Type 0
IsTextOf s tells path label text = s.tells ≡ true → tells ≡ true → IfSome label (λ l. StandsFor s path l text)

-- the picked part of it is there whole
abbrev pub PartIsThere : {S : Type 0} → SiteGhosts S → Bool → List ℕ → Option Label → List ℕ → Pick → Type 0
PartIsThere s tells path label text picks.Unmodified = ⊤
PartIsThere s tells path label text (picks.NoPart from total) = ⊤
PartIsThere s tells path label text (picks.Section from stop total) = stop ≤ length text
PartIsThere s tells path label text picks.All = s.tells ≡ true → tells ≡ true → IfSome label (λ l. StandsWhole s path l text)

abbrev pub IsThere : {S : Type 0} → SiteGhosts S → Bool → List ℕ → Option Label → Request → Found → Type 0
IsThere s tells path label r f = PartIsThere s tells path label f.text (pick r (is_kept f.look.stage) f.look.facts)

-- ---- a file's note

-- why a file's reply was cut behind its head: a cause that is lawful for what was asked, or a slip of the body's file
abbrev pub IsCut : {S Q : Type 0} → SiteGhosts S → Asked → Cause Q → Type 0
IsCut {S} {Q} s asked c =
    ((shown : Shown) × (c ≡ cause.Load shown) × CauseStands s asked shown) ⊎ ((slip : Q) × (c ≡ cause.KeeperSlip slip))

-- the reply went out; or it was cut behind the head; or the link failed
pub record EndsWhole {Q : Type 0} (a : Answer Q) (note : Note Q) (io : Sent) : Type 0 where
  pub cause : note.cause ≡ a.note.cause
  pub whole : note.whole ≡ true
  pub sent : note.sent ≡ length a.reply.body
  pub wrote : WroteAll a.reply io

pub record EndsCut {S Q : Type 0} (s : SiteGhosts S) (asked : Asked) (a : Answer Q) (note : Note Q) (io : Sent) : Type 0 where
  pub cause : IsCut s asked note.cause
  pub whole : note.whole ≡ false
  pub sent : note.sent ≤ length a.reply.body
  pub wrote : WroteAll (through note.sent false a.reply) io

pub record EndsBroken {Q : Type 0} (a : Answer Q) (note : Note Q) (io : Sent) : Type 0 where
  pub cause : note.cause ≡ cause.ClientFault
  pub whole : note.whole ≡ false
  pub wrote : WroteFront a.reply note.sent io

-- the note of a file's reply, over a look at its body and a text of it
pub record FileNote {S Q : Type 0} (s : SiteGhosts S) (tells : Bool) (m : Manner) (r : Request) (path : List ℕ) (note : Note Q)
    (io : Sent) : Type
    0 where
  pub found : Found
  pub is_found : IsFound s path found
  pub entered : note.entry ≡ Some found.entry
  pub stands : IsTextOf s tells path note.label found.text
  pub there : note.whole ≡ true → found.look.shown ≡ None → IsThere s tells path note.label r found
  pub labelled : found.look.shown ≡ None → IsSome note.label
  pub agrees : found.entry.kept ≡ false → label_agrees found.entry.asked.first_try found.entry.asked.old note.label ≡ true
  pub status : note.status ≡ (answer_of {Q = Q} m r found).note.status
  pub part : note.part ≡ (answer_of {Q = Q} m r found).note.part
  pub ends : EndsWhole (answer_of m r found) note io ⊎ EndsCut s found.entry.asked (answer_of m r found) note io
      ⊎ EndsBroken (answer_of m r found) note io

-- ---- the table

-- the desk was at a limit for the path
pub record BrimNote {Q : Type 0} (m : Manner) (path : List ℕ) (note : Note Q) (io : Sent) : Type 0 where
  pub kind : BrimKind
  pub gives : Gives (lined m (brim_cause kind path) None None) note io

abbrev pub ByClass : {S Q : Type 0} → SiteGhosts S → Bool → Manner → Request → List ℕ → Note Q → Sent → Class → Type 0
ByClass s tells m r path note io Forbidden = Gives (lined m cause.Forbidden None None) note io
ByClass s tells m r path note io Solid = FileNote s tells m r path note io ⊎ BrimNote m path note io
ByClass s tells m r path note io Volatile = FileNote s tells m r path note io ⊎ BrimNote m path note io

-- the page of some desk
pub record PageNote {Q : Type 0} (m : Manner) (note : Note Q) (io : Sent) : Type 0 where
  pub desk : Plain
  pub gives : Gives (paged m (page_at [] desk) None) note io

-- a run at the moment over some desk, and the page of what it left
pub record RunNote {Q : Type 0} (tells : Bool) (m : Manner) (now : Moment) (note : Note Q) (io : Sent) : Type 0 where
  pub old : House
  pub new : House
  pub runs : RunsDesk tells m now old new note io

abbrev pub ByVisit : {Q : Type 0} → Bool → Manner → Moment → Note Q → Sent → Visit → Type 0
ByVisit tells m now note io Shows = PageNote m note io
ByVisit tells m now note io Runs = RunNote tells m now note io
ByVisit tells m now note io Forbids = Gives (lined m cause.Maint None None) note io

abbrev pub ByTarget : {S Q : Type 0} → SiteGhosts S → Bool → Settings → Manner → Request → Moment → Note Q → Sent → Reading → Type 0
ByTarget s tells conf m r now note io (Err fault) = Gives (lined m (target_cause fault) None None) note io
ByTarget s tells conf m r now note io (Ok (Page query)) = ByVisit tells m now note io (visit_of conf query)
ByTarget s tells conf m r now note io (Ok (File path origins)) =
    ByClass s tells m r path note io (class_of conf.pfile_pattern conf.vfile_pattern path)

-- a failed call of the keeper let no request in; the note has its slip
pub record SlipNote {Q : Type 0} (m : Manner) (note : Note Q) (io : Sent) : Type 0 where
  pub slip : Q
  pub gives : Gives (lined m (cause.KeeperSlip slip) None None) note io

abbrev pub LacksNote : {Q : Type 0} → Manner → Note Q → Sent → Type 0
LacksNote m note io = Gives (lined m cause.NoMemory None None) note io

-- a lawful note at a moment, and what went out for it
abbrev pub IsLawfulNote : {S Q : Type 0} → SiteGhosts S → Bool → Settings → Manner → Request → Moment → Note Q → Sent → Type 0
IsLawfulNote s tells conf m r now note io =
    ByTarget s tells conf m r now note io (reading conf r.method r.target) ⊎ SlipNote m note io ⊎ LacksNote m note io
