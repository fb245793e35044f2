-- What a call that answers one request gives.
use Rattle.std.specs.Prelude.{◌≡◌, ℕ, Bool, true, false, List, Option, Some, None, Ok, Err, IfSome, ⊤}
use Rattle.acng_base.specs.Moments.{Ticks}
use Rattle.acng_base.specs.declared.clock.Moment.{Moment}
use Rattle.acng_site.specs.declared.site.Site.{Ghosts as SiteGhosts}
use Rattle.acng_conf.specs.Settings.{Settings}
use Rattle.acng_keeper.specs.Slips.{Later, HasFailed}
use Rattle.acng_remap.specs.Readings.{Reading, reading}
use Rattle.acng_remap.specs.declared.target.Target.TheVariants.{File, Page}
use Rattle.acng_request.specs.declared.got.Request.{Request}
use Rattle.acng_desk.specs.declared.entry.Entry.{Entry}
use Rattle.acng_desk.specs.House.{House}
use Rattle.acng_reply.specs.declared.manner.Manner.{Manner}
use Rattle.acng_reply.specs.Replies.{Sent}
use Rattle.acng_serve.specs.declared.note.Note.{Note}
use Rattle.acng_serve.specs.Causes.{is_slip}
use Rattle.acng_serve.specs.Notes.{Gives, is_free}
use Rattle.acng_serve.specs.Answered.{world_of, answered_as}
use Rattle.acng_serve.specs.Headline.{SendsFiles}
use Rattle.acng_serve.specs.Houses.{AfterFile, Settled}
use Rattle.acng_serve.specs.Lawful.{IsLawfulNote}
use Rattle.acng_serve.specs.Pages.{Visits, visit_of}

-- what a desk is after a request: as it was, or with the ticket of the request's file settled
abbrev pub AfterAny : {S : Type 0} → SiteGhosts S → Option (List ℕ × List (List ℕ)) → Moment → House → House → Type 0
AfterAny s None now old new = new.plain ≡ old.plain
AfterAny s (Some f) now old new = AfterFile s f.0 f.1 now old.plain new.plain

-- the same where the ticket was settled
abbrev pub SettledAny : {S : Type 0} → SiteGhosts S → Option (List ℕ × List (List ℕ)) → Moment → House → House → Type 0
SettledAny s None now old new = new.plain ≡ old.plain
SettledAny s (Some f) now old new = Settled s f.0 f.1 now old.plain new.plain

-- the report page, by the desk before and after the request; other readings show none
abbrev pub VisitsBy : {Q : Type 0} → Bool → Settings → Manner → Moment → House → House → Note Q → Sent → Reading → Type 0
VisitsBy tells conf m now old new note io (Err fault) = ⊤
VisitsBy tells conf m now old new note io (Ok (Page query)) = Visits tells m now old new note io (visit_of conf query)
VisitsBy tells conf m now old new note io (Ok (File path origins)) = ⊤

pub record AnswersAt {S Q : Type 0} (s : SiteGhosts S) (tells : Bool) (conf : Settings) (m : Manner) (r : Request) (now : Moment)
    (old new : House) (note : Note Q) (io : Sent) : Type 0 where
  -- the answer is a function of all that it depends on, unless a call of the keeper failed or memory was wanting
  pub exact : s.tells ≡ true → is_free note ≡ false → IfSome (answered_as conf m (world_of s old now) r) (λ a. Gives a.answer note io)
  -- a page is that of the desk as it is, or as the run at this moment leaves it
  pub page : VisitsBy tells conf m now old new note io (reading conf r.method r.target)
  -- each note is lawful, and each body that was sent is a front of one file of the request's path
  pub lawful : IsLawfulNote s tells conf m r now note io
  pub sends : s.tells ≡ true → tells ≡ true → SendsFiles s conf m r note io
  -- the desk, whatever comes, and where the answer is the function's
  pub settles : is_free note ≡ false
      → IfSome (answered_as {Q = Q} conf m (world_of s old now) r) (λ a. SettledAny s a.loads now old new)
  pub leaves : IfSome (answered_as {Q = Q} conf m (world_of s old now) r) (λ a. AfterAny s a.loads now old new)
  pub moment : (e : Entry) → note.entry ≡ Some e → e.moment ≡ now
  -- a failed call of the keeper refuses a request only where its count of faults rose
  pub slip : is_slip note.cause ≡ true → note.whole ≡ true → HasFailed old.faults new.faults
  -- a run tells of its faults in its line alone
  pub later : IfSome (answered_as {Q = Q} conf m (world_of s old now) r) (λ a. Later old.faults new.faults)

-- the same at the clock's moment
pub record AnswersOne {S Q : Type 0} (s : SiteGhosts S) (tells : Bool) (conf : Settings) (m : Manner) (r : Request)
    (before after : Option (List ℕ)) (old new : House) (note : Note Q) (io : Sent) : Type 0 where
  pub now : Moment
  pub ticked : Ticks before after now.0
  pub at : AnswersAt s tells conf m r now old new note io
