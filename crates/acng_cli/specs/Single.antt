-- The command `once`: its words, and the status of the program after a run.
use Rattle.std.specs.Prelude.{◌≡◌, ◌⊎◌, ℕ, Bool, true, false, List, Option, Some, None, Result, Ok, Err, cond}
use Rattle.acng_base.specs.declared.link.Link.{Ghosts as LinkGhosts}
use Rattle.acng_site.specs.declared.site.Site.{Ghosts as SiteGhosts}
use Rattle.acng_conf.specs.Settings.{Settings}
use Rattle.acng_grow.specs.Faithful.{IsFaithful}
use Rattle.acng_grow.specs.declared.why.Shown.{Shown}
use Rattle.acng_grow.specs.declared.why.Shown.TheVariants as shown
use Rattle.acng_desk.specs.House.{House}
use Rattle.acng_serve.specs.declared.note.Note.{Note}
use Rattle.acng_serve.specs.declared.note.Cause.{Cause}
use Rattle.acng_serve.specs.declared.note.Cause.TheVariants as cause
use Rattle.acng_cli.specs.declared.once.Once.{Once}
use Rattle.acng_cli.specs.declared.once.OnceStop.{OnceStop}
use Rattle.acng_cli.specs.declared.once.OnceStop.TheVariants as stop
use Rattle.acng_cli.specs.declared.single.Single.{Single}
use Rattle.acng_cli.specs.declared.words.Command.{Command}
use Rattle.acng_cli.specs.declared.words.Command.TheVariants as command
use Rattle.acng_cli.specs.declared.words.Words.{Words}
use Rattle.acng_cli.specs.declared.words.WordsFault.{WordsFault}
use Rattle.acng_cli.specs.Once.{Outside, RanOnce}
use Rattle.acng_cli.specs.declared.opening.Maint.{Maint}
use Rattle.acng_cli.specs.Opens.{Store, Given, IsReady, IsEnded}

abbrev pub is_once : Command → Bool
is_once command.Serve = false
is_once command.Once = true
is_once command.Expire = false
is_once command.Import = false
is_once command.Report = false
is_once command.CheckConf = false
is_once (command.Gen n) = false

-- the words, where they are read and ask for `once`
abbrev pub once_in : Result Words WordsFault → Option Words
once_in (Ok words) = cond (is_once words.command) (Some words) None
once_in (Err e) = None

-- ---- the status

-- a body that broke off: 5 by a call of the keeper, 6 for want of memory, else 1
abbrev pub shown_status : Shown → ℕ
shown_status (shown.Origin attempt) = 1
shown_status (shown.Early attempt) = 1
shown_status (shown.Bad attempt at) = 1
shown_status (shown.Status attempt status) = 1
shown_status (shown.TlsRedirect attempt) = 1
shown_status (shown.Redirects attempt) = 1
shown_status (shown.Gone attempt) = 1
shown_status (shown.Keeper mark) = 5
shown_status shown.NoMemory = 6

-- 0 where all of a file's reply or of the report page went out, or the reply that nothing is to be sent of a file
abbrev pub sent_status : Bool → ℕ
sent_status true = 0
sent_status false = 1

abbrev pub cause_status : {Q : Type 0} → Cause Q → Bool → ℕ
cause_status cause.Served whole = sent_status whole
cause_status (cause.Page page run) whole = sent_status whole
cause_status cause.NotModified whole = sent_status whole
cause_status (cause.NoPart from total) whole = sent_status whole
cause_status (cause.Head fault) whole = 1
cause_status cause.Connect whole = 1
cause_status cause.Tls whole = 1
cause_status cause.BadTarget whole = 1
cause_status cause.Query whole = 1
cause_status (cause.BadPath fault) whole = 1
cause_status cause.Forbidden whole = 1
cause_status cause.Maint whole = 1
cause_status (cause.Load why) whole = shown_status why
cause_status (cause.KeeperSlip slip) whole = 5
cause_status (cause.Offline brim) whole = 1
cause_status (cause.Full brim) whole = 1
cause_status (cause.Worn brim) whole = 1
cause_status cause.ClientFault whole = 4
cause_status cause.NoMemory whole = 6

-- 7 where the client ended before its request was whole
abbrev pub stop_status : OnceStop → ℕ
stop_status stop.Replied = 1
stop_status stop.ClientEnded = 7
stop_status stop.ClientFault = 4

abbrev pub note_status : {Q : Type 0} → OnceStop → Option (Note Q) → ℕ
note_status stop None = stop_status stop
note_status stop (Some note) = cause_status note.cause note.whole

abbrev pub once_status : {Q : Type 0} → Once Q → ℕ
once_status once = note_status once.stop once.note

-- ---- a run

-- the client's link and the clock
pub record Streams (L : Type 0) : Type 0 where
  pub client : L
  pub coming : Option (List ℕ)

-- beside a desk
abbrev pub outside : {L : Type 0} → Streams L → House → Outside L
outside x desk = record { client = x.client; coming = x.coming; desk = desk }

-- the keeper of a desk
abbrev pub store_in : House → Store
store_in h = record { kept = h.kept; next_id = h.plain.next_id; faults = h.faults }

-- one request was waited for over a desk, and the keeper is the desk's
pub record RunsOver {S L K Q : Type 0} (s : SiteGhosts S) (tells : Bool) (l : LinkGhosts L) (store : K → Store) (conf : Settings)
    (desk : House) (old new : Streams L) (one : Single K Q) : Type 0 where
  pub once : Once Q
  pub told : one.once ≡ Some once
  pub status : one.status ≡ once_status once
  pub quiet : one.slip ≡ None
  pub left : House
  pub ran : RanOnce s tells l conf (outside old desk) (outside new left) once
  pub keeper : store one.keeper ≡ store_in left
  pub still : tells ≡ true → IsFaithful s (store one.keeper).kept

-- a desk was opened for it
pub record RunsOnce {S L K Q : Type 0} (s : SiteGhosts S) (tells : Bool) (l : LinkGhosts L) (store : K → Store) (g : Given) (w : Words)
    (old new : Streams L) (one : Single K Q) : Type 0 where
  pub words : Words
  pub conf : Settings
  pub desk : House
  pub ready : IsReady tells g w words conf desk
  pub over : RunsOver s tells l store conf desk old new one

-- what an ended run gives back of its start
abbrev pub start_of : {K Q : Type 0} → Single K Q → Maint K Q
start_of one = record { status = one.status; keeper = one.keeper; slip = one.slip }

-- no desk was opened, and neither client nor clock was touched
pub record EndsUnopened {S L K Q : Type 0} (s : SiteGhosts S) (tells : Bool) (store : K → Store) (g : Given) (before after : ℕ)
    (old new : Streams L) (one : Single K Q) : Type 0 where
  pub ended : IsEnded s tells store g before after (start_of one)
  pub unasked : one.once ≡ None
  pub untouched : new ≡ old

-- nothing was done: the status says why
pub record StaysIdle {L K Q : Type 0} (status : ℕ) (keeper : K) (old new : Streams L) (one : Single K Q) : Type 0 where
  pub is : one ≡ record { status = status; keeper = keeper; slip = None; once = None }
  pub untouched : new ≡ old

-- the run of `once`; other words have status 2, unless memory was refused before they were read
abbrev pub RanSingle : {S L K Q : Type 0} → SiteGhosts S → Bool → LinkGhosts L → (K → Store) → Given → ℕ → ℕ → K → Streams L → Streams L
    → Option Words → Single K Q → Type 0
RanSingle s tells l store g before after keeper old new (Some w) one =
    RunsOnce s tells l store g w old new one ⊎ EndsUnopened s tells store g before after old new one
RanSingle s tells l store g before after keeper old new None one = StaysIdle 2 keeper old new one ⊎ StaysIdle 6 keeper old new one
