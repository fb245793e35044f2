-- What is promised of the body of each file's reply.
use Rattle.std.specs.Prelude.{◌≡◌, ◌⊎◌, ◌≤◌, ℕ, Bool, true, false, List, length, Some, Ok}
use Rattle.acng_site.specs.declared.site.Site.{Ghosts as SiteGhosts}
use Rattle.acng_site.specs.Honest.{IsFront}
use Rattle.acng_head.specs.declared.head.Label.{Label}
use Rattle.acng_conf.specs.Settings.{Settings}
use Rattle.acng_remap.specs.Readings.{reading}
use Rattle.acng_remap.specs.declared.target.Target.TheVariants.{File}
use Rattle.acng_request.specs.declared.got.Request.{Request}
use Rattle.acng_grow.specs.declared.facts.Facts.{Facts}
use Rattle.acng_grow.specs.Stands.{StandsWhole}
use Rattle.acng_reply.specs.declared.manner.Manner.{Manner}
use Rattle.acng_reply.specs.declared.pick.Pick.{Pick}
use Rattle.acng_reply.specs.Heads.{file_head}
use Rattle.acng_reply.specs.Picks.{pick, part_of}
use Rattle.acng_reply.specs.Replies.{Reply, Sent, WroteAll, WroteFront, through}
use Rattle.acng_serve.specs.declared.note.Note.{Note}

-- what went out behind the head is a front of the asked part of one file: of the instance that an attempt at a place of the
-- path found, or of an import; and all of it where the note says so
pub record SendsFile {S Q : Type 0} (s : SiteGhosts S) (path : List ℕ) (m : Manner) (r : Request) (note : Note Q) (io : Sent) : Type
    0 where
  pub label : Label
  pub labelled : note.label ≡ Some label
  pub file : List ℕ
  pub is_file : StandsWhole s path label file
  -- the asked part
  pub facts : Facts
  pub kept : Bool
  pub asked : Pick
  pub picked : asked ≡ pick r kept facts
  -- the reply, so much of its body, and whether that is all
  pub reply : Reply
  pub head : reply.head ≡ file_head m facts asked
  pub front : IsFront (part_of asked file) reply.body
  pub few : note.sent ≤ length reply.body
  pub whole : note.whole ≡ true → (note.sent ≡ length reply.body) × (reply.body ≡ part_of asked file)
  pub wrote : WroteAll (through note.sent note.whole reply) io ⊎ WroteFront reply note.sent io

-- each reply of 200 or 206 to a request for a file sends so much of it; one to HEAD has no body
abbrev pub SendsFiles : {S Q : Type 0} → SiteGhosts S → Settings → Manner → Request → Note Q → Sent → Type 0
SendsFiles s conf m r note io = (path : List ℕ) (origins : List (List ℕ)) → reading conf r.method r.target ≡ Ok (File path origins)
    → m.bare ≡ false → (note.status ≡ 200) ⊎ (note.status ≡ 206) → SendsFile s path m r note io
