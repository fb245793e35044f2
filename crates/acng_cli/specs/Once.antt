-- What a run of `once` over a desk does: the client's bytes are read for one request, and that is answered.
use Rattle.std.specs.Prelude.{◌≡◌, ◌⊎◌, ℕ, Bool, true, false, List, Option, Some, None, Ok, IfSome}
use Rattle.std.specs.Io.KnownBytes.{Keeps, IsAtEnd}
use Rattle.acng_base.specs.declared.link.Link.{Ghosts as LinkGhosts}
use Rattle.acng_base.specs.Causes.{Rose}
use Rattle.acng_site.specs.declared.site.Site.{Ghosts as SiteGhosts}
use Rattle.acng_conf.specs.Settings.{Settings}
use Rattle.acng_request.specs.Nexts.{Next, next, Asks, Refuses, Ends}
use Rattle.acng_request.specs.declared.got.Request.{Request}
use Rattle.acng_request.specs.declared.got.HeadFault.{HeadFault}
use Rattle.acng_desk.specs.House.{House}
use Rattle.acng_remap.specs.Readings.{reading}
use Rattle.acng_remap.specs.declared.target.Target.TheVariants.{File, Page}
use Rattle.acng_reply.specs.Manners.{is_head, manner_of, unread}
use Rattle.acng_reply.specs.Replies.{Sent}
use Rattle.acng_serve.specs.declared.note.Cause.{Cause}
use Rattle.acng_serve.specs.declared.note.Cause.TheVariants as cause
use Rattle.acng_serve.specs.declared.note.Note.{Note}
use Rattle.acng_serve.specs.Notes.{Gives, LinkTold, lined}
use Rattle.acng_serve.specs.Answers.{AnswersOne}
use Rattle.acng_serve.specs.Headline.{SendsFile}
use Rattle.acng_cli.specs.declared.once.Once.{Once}
use Rattle.acng_cli.specs.declared.once.OnceStop.{OnceStop}
use Rattle.acng_cli.specs.declared.once.OnceStop.TheVariants as stop

-- what a run has about it: the client's link, the moments that the clock has still to tell, and the desk
pub record Outside (L : Type 0) : Type 0 where
  pub client : L
  pub coming : Option (List ℕ)
  pub desk : House

-- ---- what the client gets

-- what its link took; nothing was written while the request was read
pub record SentSince {L : Type 0} (l : LinkGhosts L) (old new : L) (io : Sent) : Type 0 where
  pub kept : Keeps (l.written old) io.old
  pub now : io.now ≡ l.written new
  pub before : io.before ≡ l.faults old
  pub after : io.after ≡ l.faults new

-- the run made this reply; the link's count of faults rose exactly where the note says that it failed
pub record Replied {L Q : Type 0} (l : LinkGhosts L) (old new : L) (once : Once Q) (note : Note Q) (io : Sent) : Type 0 where
  pub stop : once.stop ≡ stop.Replied
  pub noted : once.note ≡ Some note
  pub since : SentSince l old new io
  pub told : LinkTold note io.before io.after

-- the run made no reply, and nothing was written
pub record Unanswered {L Q : Type 0} (l : LinkGhosts L) (old new : L) (once : Once Q) (why : OnceStop) : Type 0 where
  pub stop : once.stop ≡ why
  pub noted : once.note ≡ None
  pub kept : Keeps (l.written old) (l.written new)

-- desk and clock weren't touched
pub record Untouched {L : Type 0} (old new : Outside L) : Type 0 where
  pub desk : new.desk ≡ old.desk
  pub coming : new.coming ≡ old.coming

-- ---- how a run ends

-- the request was answered, as the last of its connection
pub record Answered {S L Q : Type 0} (s : SiteGhosts S) (tells : Bool) (l : LinkGhosts L) (conf : Settings) (r : Request) (once : Once Q)
    (old new : Outside L) : Type 0 where
  pub note : Note Q
  pub io : Sent
  pub replied : Replied l old.client new.client once note io
  pub answers : AnswersOne s tells conf (manner_of true r) r old.coming new.coming old.desk new.desk note io

-- a line was sent that names this cause, and nothing was asked of the desk
pub record Lined {L Q : Type 0} (l : LinkGhosts L) (c : Cause Q) (once : Once Q) (old new : Outside L) : Type 0 where
  pub note : Note Q
  pub io : Sent
  pub replied : Replied l old.client new.client once note io
  pub gives : Gives (lined unread c None None) note io
  pub untouched : Untouched old new

-- the client ended before its request was whole
pub record EndsUnread {L Q : Type 0} (l : LinkGhosts L) (once : Once Q) (old new : Outside L) : Type 0 where
  pub unanswered : Unanswered l old.client new.client once stop.ClientEnded
  pub at_end : IsAtEnd (l.left new.client)
  pub untouched : Untouched old new

-- the link failed before a request was read or refused
pub record FailsUnread {L Q : Type 0} (l : LinkGhosts L) (once : Once Q) (old new : Outside L) : Type 0 where
  pub unanswered : Unanswered l old.client new.client once stop.ClientFault
  pub rose : Rose (l.faults old.client) (l.faults new.client)
  pub untouched : Untouched old new

-- the one way in which each other end may be missed: the link failed early, or memory was refused, and a line says so
abbrev pub IsHindered : {L Q : Type 0} → LinkGhosts L → Once Q → Outside L → Outside L → Type 0
IsHindered l once old new = FailsUnread l once old new ⊎ Lined l cause.NoMemory once old new

-- what a run does where the client's bytes ask this next
abbrev pub RunsBy : {S L Q : Type 0} → SiteGhosts S → Bool → LinkGhosts L → Settings → Next → Once Q → Outside L → Outside L → Type 0
RunsBy s tells l conf (Asks r rest) once old new = Answered s tells l conf r once old new
RunsBy s tells l conf (Refuses fault) once old new = Lined l (cause.Head fault) once old new
RunsBy s tells l conf Ends once old new = EndsUnread l once old new

-- ---- the headline

-- the statuses of a reply that sends of a file; that of a page is one of them
abbrev pub IsFileStatus : ℕ → Type 0
IsFileStatus status = (status ≡ 200) ⊎ (status ≡ 206)

-- the client's bytes ask a request, where they are known, and its target reads as a file; unless it is HEAD, what went out behind
-- the head is a front of the asked part of one file of that path, all of it where the note is whole
pub record SendsFileOf {S L Q : Type 0} (s : SiteGhosts S) (l : LinkGhosts L) (conf : Settings) (note : Note Q) (old new : Outside L) : Type
    0 where
  pub request : Request
  pub asked : IfSome (l.left old.client) (λ bytes. (rest : List ℕ) × (next bytes ≡ Asks request rest))
  pub path : List ℕ
  pub origins : List (List ℕ)
  pub target : reading conf request.method request.target ≡ Ok (File path origins)
  pub io : Sent
  pub since : SentSince l old.client new.client io
  pub sends : is_head request ≡ false → SendsFile s path (manner_of true request) request note io

-- the client's bytes ask a request, where they are known, and its target reads as the report page
pub record AsksPage {L : Type 0} (l : LinkGhosts L) (conf : Settings) (old : Outside L) : Type 0 where
  pub request : Request
  pub asked : IfSome (l.left old.client) (λ bytes. (rest : List ℕ) × (next bytes ≡ Asks request rest))
  pub query : List ℕ
  pub target : reading conf request.method request.target ≡ Ok (Page query)

-- ---- a run

pub record RanOnce {S L Q : Type 0} (s : SiteGhosts S) (tells : Bool) (l : LinkGhosts L) (conf : Settings) (old new : Outside L)
    (once : Once Q) : Type 0 where
  -- what the client's bytes ask next, where they are known
  pub asks : Next
  pub told : IfSome (l.left old.client) (λ bytes. asks ≡ next bytes)
  -- the run does what they ask, unless it is hindered
  pub runs : RunsBy s tells l conf asks once old new ⊎ IsHindered l once old new
  -- a reply with such a status sends of one file, as one attempt found it or an import has it, unless the page is asked for
  pub headline : s.tells ≡ true → tells ≡ true → (note : Note Q) → once.note ≡ Some note → IsFileStatus note.status
      → SendsFileOf s l conf note old new ⊎ AsksPage l conf old
