-- Only the reply of a file or a page has a status of one, so its request names a file or the page.
use Rattle.std.proofs.Common.{◌≡◌, ◌<◌, ◌⊎◌, inl, inr, ℕ, Bool, List, Option, None, Ok, Err, refl, ap, arith}
use Rattle.acng_base.specs.declared.clock.Moment.{Moment}
use Rattle.acng_site.specs.declared.site.Site.{Ghosts as SiteGhosts}
use Rattle.acng_head.specs.declared.head.Label.{Label}
use Rattle.acng_conf.specs.Settings.{Settings}
use Rattle.acng_remap.specs.Readings.{Reading, reading}
use Rattle.acng_remap.specs.declared.target.Target.TheVariants.{File, Page}
use Rattle.acng_request.specs.declared.got.Request.{Request}
use Rattle.acng_desk.specs.declared.entry.Entry.{Entry}
use Rattle.acng_reply.specs.declared.line.Line.{Line}
use Rattle.acng_reply.specs.declared.line.Line.TheVariants as line
use Rattle.acng_reply.specs.declared.manner.Manner.{Manner}
use Rattle.acng_reply.specs.Lines.{line_status}
use Rattle.acng_reply.specs.Replies.{Sent}
use Rattle.acng_serve.specs.declared.note.Cause.{Cause}
use Rattle.acng_serve.specs.declared.note.Cause.TheVariants as cause
use Rattle.acng_serve.specs.declared.note.Note.{Note}
use Rattle.acng_serve.specs.Causes.{line_of, target_cause}
use Rattle.acng_serve.specs.Lawful.{IsLawfulNote, ByTarget}
use Rattle.acng_serve.specs.Notes.{Gives, lined, line_or}
use Rattle.acng_cli.specs.Once.{IsFileStatus}

past_files : (l : Line) → 206 < line_status l
past_files line.BadHead = omega arith
past_files line.HasBody = omega arith
past_files line.Connect = omega arith
past_files line.Tls = omega arith
past_files line.BadTarget = omega arith
past_files line.Query = omega arith
past_files line.BadPath = omega arith
past_files line.Forbidden = omega arith
past_files line.Maint = omega arith
past_files line.Gone = omega arith
past_files line.Method = omega arith
past_files (line.NoPart total) = omega arith
past_files line.TooLarge = omega arith
past_files line.Keeper = omega arith
past_files line.Origin = omega arith
past_files line.Early = omega arith
past_files line.Bad = omega arith
past_files line.Status = omega arith
past_files line.TlsRedirect = omega arith
past_files line.Redirects = omega arith
past_files line.Offline = omega arith
past_files line.Full = omega arith
past_files line.Worn = omega arith
past_files line.NoMemory = omega arith

module _ {Q : Type 0} (m : Manner) (note : Note Q) (io : Sent) (status : IsFileStatus note.status) where
  refused : (l : Line) → note.status ≡ line_status l → ⊥
  refused l is = let past = past_files l in elim status as (λ _. ⊥) [
    | inl ok ↦ omega (arith, past, is, ok)
    | inr part ↦ omega (arith, past, is, part)
  ]

  -- no line has the status of a file
  pub not_lined : (c : Cause Q) (label : Option Label) (entry : Option Entry) → Gives (lined m c label entry) note io → ⊥
  not_lined c label entry (inl gives) = refused (line_or (line_of c)) (ap (λ n. n.status) gives.0)
  not_lined c label entry (inr broke) = refused (line_or (line_of c)) broke.status

  module _ {S : Type 0} (s : SiteGhosts S) (tells : Bool) (conf : Settings) (r : Request) (now : Moment) where
    abbrev Names : Reading → Type 0
    Names t = ((path : List ℕ) × (origins : List (List ℕ)) × (t ≡ Ok (File path origins))) ⊎ ((query : List ℕ) × (t ≡ Ok (Page query)))

    by_reading : (t : Reading) → ByTarget s tells conf m r now note io t → Names t
    by_reading (Err fault) gives = absurd (not_lined (target_cause fault) None None gives)
    by_reading (Ok (Page query)) gives = inr (query, refl)
    by_reading (Ok (File path origins)) gives = inl (path, origins, refl)

    -- the target of a lawful note with such a status names a file, or the page
    pub names_file : IsLawfulNote s tells conf m r now note io
        → ((path : List ℕ) × (origins : List (List ℕ)) × (reading conf r.method r.target ≡ Ok (File path origins)))
        ⊎ ((query : List ℕ) × (reading conf r.method r.target ≡ Ok (Page query)))
    names_file (inl gives) = by_reading (reading conf r.method r.target) gives
    names_file (inr (inl slip)) = absurd (not_lined (cause.KeeperSlip slip.slip) None None slip.gives)
    names_file (inr (inr lacks)) = absurd (not_lined cause.NoMemory None None lacks)
