-- What a request gets of a house that others use at the same time.
use Rattle.std.specs.Prelude.{◌≡◌, ◌⊎◌, ℕ, Bool, true, List, Option, None, Some}
use Rattle.acng_base.specs.Moments.{Ticks}
use Rattle.acng_base.specs.declared.clock.Moment.{Moment}
use Rattle.acng_site.specs.declared.site.Site.{Ghosts as SiteGhosts}
use Rattle.acng_head.specs.declared.head.Label.{Label}
use Rattle.acng_conf.specs.Settings.{Settings}
use Rattle.acng_request.specs.declared.got.Request.{Request}
use Rattle.acng_grow.specs.declared.asked.Look.{Look}
use Rattle.acng_grow.specs.declared.facts.Facts.{Facts}
use Rattle.acng_grow.specs.declared.facts.Stage.{Stage}
use Rattle.acng_desk.specs.declared.entry.Entry.{Entry}
use Rattle.acng_reply.specs.declared.manner.Manner.{Manner}
use Rattle.acng_reply.specs.Replies.{Sent}
use Rattle.acng_serve.specs.declared.note.Note.{Note}
use Rattle.acng_serve.specs.Headline.{SendsFiles}
use Rattle.acng_serve.specs.Lawful.{BrimNote, FileNote, IsLawfulNote, LacksNote, SlipNote}
use Rattle.acng_serve.specs.Sessions.{Rule}

-- a request for a file: the file's note, or why it isn't sent
pub record FileAmong {S Q : Type 0} (s : SiteGhosts S) (tells : Bool) (m : Manner) (r : Request) (path : List ℕ) (now : Moment)
    (note : Note Q) (io : Sent) : Type 0 where
  pub lawful : FileNote s tells m r path note io ⊎ BrimNote m path note io ⊎ SlipNote m note io ⊎ LacksNote m note io
  pub moment : (e : Entry) → note.entry ≡ Some e → e.moment ≡ now

-- any request, at a moment
pub record LawfulAt {S Q : Type 0} (s : SiteGhosts S) (tells : Bool) (conf : Settings) (m : Manner) (r : Request) (now : Moment)
    (note : Note Q) (io : Sent) : Type 0 where
  pub lawful : IsLawfulNote s tells conf m r now note io
  pub sends : s.tells ≡ true → tells ≡ true → SendsFiles s conf m r note io
  pub moment : (e : Entry) → note.entry ≡ Some e → e.moment ≡ now

-- at the clock's moment
pub record AnswersAmong {S Q : Type 0} (s : SiteGhosts S) (tells : Bool) (conf : Settings) (m : Manner) (r : Request)
    (before after : Option (List ℕ)) (note : Note Q) (io : Sent) : Type 0 where
  pub now : Moment
  pub ticked : Ticks before after now.0
  pub at : LawfulAt s tells conf m r now note io

-- each request of a connection is answered at a moment of its own; what stands between them are the moments to come
abbrev pub by_house : {S Q : Type 0} → SiteGhosts S → Bool → Settings → Rule (Option (List ℕ)) Q
by_house s tells conf m r x y note io = AnswersAmong s tells conf m r x y note io

-- a look at a body that didn't end early
abbrev pub look_by : Label → Stage → Facts → Look
look_by label st f = record { stage = st; facts = f; label = Some label; shown = None }
