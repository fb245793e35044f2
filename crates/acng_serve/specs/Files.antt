-- What a request for a file gets of a desk of which no ticket is out.
use Rattle.std.specs.Prelude.{◌≡◌, ◌≢◌, ◌⊎◌, ℕ, Bool, true, List, length, Some, None}
use Rattle.acng_base.specs.declared.clock.Moment.{Moment}
use Rattle.acng_site.specs.declared.site.Site.{Ghosts as SiteGhosts}
use Rattle.acng_class.specs.declared.class.Class.{Class}
use Rattle.acng_keeper.specs.Handles.{Handle}
use Rattle.acng_keeper.specs.Slips.{Faults, HasFailed, Later}
use Rattle.acng_request.specs.declared.got.Request.{Request}
use Rattle.acng_grow.specs.declared.facts.Stage.TheVariants as stage
use Rattle.acng_grow.specs.Agrees.{label_agrees, cause_agrees}
use Rattle.acng_grow.specs.Effects.{kept_same}
use Rattle.acng_grow.specs.Grown.{Grown, text_of}
use Rattle.acng_grow.specs.Keeps.{IsSound}
use Rattle.acng_grow.specs.Stands.{StandsWhole, FactsStand}
use Rattle.acng_rows.specs.declared.row.Whole.{Whole}
use Rattle.acng_rows.specs.Rows.{whole_at}
use Rattle.acng_desk.specs.declared.case.Case.{Case}
use Rattle.acng_desk.specs.declared.case.Case.TheVariants as case
use Rattle.acng_desk.specs.declared.entry.BrimKind.TheVariants as brim
use Rattle.acng_desk.specs.declared.entry.Held.{Held}
use Rattle.acng_desk.specs.declared.entry.Entry.{Entry}
use Rattle.acng_desk.specs.House.{House, Plain, spot_at, facts_of}
use Rattle.acng_desk.specs.Tickets.{Ticketed}
use Rattle.acng_desk.specs.Begins.{begin_case, entry_of}
use Rattle.acng_desk.specs.Settles.{IsFault}
use Rattle.acng_fetch.specs.LoadsBy.{LoadsBy}
use Rattle.acng_reply.specs.declared.manner.Manner.{Manner}
use Rattle.acng_reply.specs.Replies.{Sent}
use Rattle.acng_serve.specs.declared.note.Note.{Note}
use Rattle.acng_serve.specs.declared.note.Cause.TheVariants as cause
use Rattle.acng_serve.specs.Causes.{brim_cause}
use Rattle.acng_serve.specs.Notes.{Gives, GivesFile, SendsFound, lined, found, look_of, answer_of}
use Rattle.acng_serve.specs.Answered.{bytes_at, held_seen, world_of, seen_at, text_at, entry_at}
use Rattle.acng_serve.specs.Houses.{AfterFile, Settled}

-- ---- what is found

-- a held body, followed as one that a download kept
abbrev pub held_grown : {F : Type 0} → (F → Handle) → (F → Faults) → List ℕ → Held F → Grown
held_grown handle faults path h = record {
  path = path;
  seen = kept_same (record { label = h.label; facts = h.facts; size = (handle h.body).size });
  file = Some (handle h.body, faults h.body);
}

-- the path's whole body, and a text of it
pub record IsHeldText {S : Type 0} (s : SiteGhosts S) (tells : Bool) (path : List ℕ) (h : House) (x : Whole) (text : List ℕ) : Type 0 where
  pub is : whole_at h.plain.rows path ≡ Some x
  pub facts : FactsStand s path None x.label (facts_of x)
  pub size : length text ≡ x.size
  pub stands : tells ≡ true → StandsWhole s path x.label text
  pub bytes : tells ≡ true → text ≡ bytes_at h.kept x.id

-- a body that was loaded: it agrees with what was asked for, and is that of the path's download, unless the keeper failed or
-- memory was wanting
pub record IsLoad {S : Type 0} (s : SiteGhosts S) (tells : Bool) (path : List ℕ) (origins : List (List ℕ)) (now : Moment) (h : House)
    (g : Grown) : Type 0 where
  pub path_is : g.path ≡ path
  pub sound : IsSound s tells g
  pub opened : g.seen.stage ≢ stage.Opening
  pub grown : g.seen.stage ≢ stage.Running
  pub label : label_agrees (entry_at (world_of s h now) path).asked.first_try (entry_at
      (world_of s h now) path).asked.old g.seen.label ≡ true
  pub cause : cause_agrees (entry_at (world_of s h now) path).asked.first_try g.seen.shown ≡ true
  pub seen : s.tells ≡ true → (look_of g.seen ≡ look_of (seen_at (world_of s h now) path origins)) ⊎ IsFault g.seen.shown
  pub text : s.tells ≡ true → tells ≡ true → g.seen.shown ≡ None → text_of g ≡ text_at (world_of s h now) path origins

-- ---- what is answered

-- the held body is sent
pub record AnswersHeld {S Q : Type 0} (s : SiteGhosts S) (tells : Bool) (m : Manner) (r : Request) (path : List ℕ) (now : Moment)
    (h : House) (note : Note Q) (io : Sent) : Type 0 where
  pub whole : Whole
  pub text : List ℕ
  pub is : IsHeldText s tells path h whole text
  pub gives : GivesFile (answer_of m r (found (entry_of path h.plain.next_try (Some whole.label) true now) (held_seen whole) text)) note io

-- a body is loaded, sent, and the ticket settled
pub record AnswersLoaded {S Q : Type 0} (s : SiteGhosts S) (tells : Bool) (m : Manner) (r : Request) (path : List ℕ)
    (origins : List (List ℕ)) (now : Moment) (h new : House) (note : Note Q) (io : Sent) : Type 0 where
  pub body : Grown
  pub is : IsLoad s tells path origins now h body
  pub sends : SendsFound tells m r (entry_at (world_of s h now) path) body note io
  pub settled : Settled s path origins now h.plain new.plain

-- what a call that loads and sends gives, by its ticket
pub record LoadsFound {S Q : Type 0} (s : SiteGhosts S) (tells : Bool) (t : Ticketed) (m : Manner) (r : Request) (e : Entry)
    (old new : House) (note : Note Q) (io : Sent) : Type 0 where
  pub body : Grown
  pub loads : LoadsBy s t old new body
  pub sound : IsSound s tells body
  pub sends : SendsFound tells m r e body note io

-- the answer of the case that fits
abbrev pub AnswersCase : {S Q : Type 0} → SiteGhosts S → Bool → Manner → Request → List ℕ → List (List ℕ) → Moment → House → House → Note Q
    → Sent → Case → Type 0
AnswersCase s tells m r path origins now h new note io case.Join = ⊥
AnswersCase s tells m r path origins now h new note io case.Keep = AnswersHeld s tells m r path now h note io
AnswersCase s tells m r path origins now h new note io case.Offline = Gives (lined m (brim_cause brim.Offline path) None None) note io
AnswersCase s tells m r path origins now h new note io case.Full = Gives (lined m (brim_cause brim.Full path) None None) note io
AnswersCase s tells m r path origins now h new note io case.Worn = Gives (lined m (brim_cause brim.Worn path) None None) note io
AnswersCase s tells m r path origins now h new note io case.Lead = AnswersLoaded s tells m r path origins now h new note io

-- what the case that fits leaves: only a ticket that is given out changes a desk
abbrev pub Leaves : {S : Type 0} → SiteGhosts S → List ℕ → List (List ℕ) → Moment → Plain → Plain → Case → Type 0
Leaves s path origins now p q case.Join = q ≡ p
Leaves s path origins now p q case.Keep = q ≡ p
Leaves s path origins now p q case.Offline = q ≡ p
Leaves s path origins now p q case.Full = q ≡ p
Leaves s path origins now p q case.Worn = q ≡ p
Leaves s path origins now p q case.Lead = AfterFile s path origins now p q

-- a call of the keeper failed as the request was let in
pub record AnswersSlip {Q : Type 0} (m : Manner) (old new : House) (note : Note Q) (io : Sent) : Type 0 where
  pub slip : Q
  pub failed : HasFailed old.faults new.faults
  pub gives : Gives (lined m (cause.KeeperSlip slip) None None) note io

-- the answer, and what the desk is after it
pub record AnswersFile {S Q : Type 0} (s : SiteGhosts S) (tells : Bool) (m : Manner) (r : Request) (path : List ℕ) (class : Class)
    (origins : List (List ℕ)) (now : Moment) (old new : House) (note : Note Q) (io : Sent) : Type 0 where
  pub answers : AnswersCase s tells m r path origins now old new note io (begin_case (spot_at old.plain path) class now.0)
      ⊎ AnswersSlip m old new note io ⊎ Gives (lined m cause.NoMemory None None) note io
  pub leaves : Leaves s path origins now old.plain new.plain (begin_case (spot_at old.plain path) class now.0)
  pub moment : (e : Entry) → note.entry ≡ Some e → e.moment ≡ now
  pub later : Later old.faults new.faults
