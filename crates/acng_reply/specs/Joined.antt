-- What went out of a reply whose body was followed through its lock.
use Rattle.std.specs.Prelude.{◌≡◌, ◌≤◌, ℕ, Bool, true, false, List, length, Option, IfSome, ⊤}
use Rattle.acng_site.specs.declared.site.Site.{Ghosts as SiteGhosts}
use Rattle.acng_grow.specs.declared.asked.Asked.{Asked}
use Rattle.acng_grow.specs.declared.facts.Facts.{Facts}
use Rattle.acng_grow.specs.declared.owned.FollowStop.{FollowStop}
use Rattle.acng_grow.specs.declared.owned.FollowStop.TheVariants as stop
use Rattle.acng_grow.specs.declared.owned.Followed.{Followed}
use Rattle.acng_grow.specs.Looks.{CauseStands}
use Rattle.acng_reply.specs.declared.manner.Manner.{Manner}
use Rattle.acng_reply.specs.declared.pick.Pick.{Pick}
use Rattle.acng_reply.specs.declared.pick.Pick.TheVariants.{Unmodified, NoPart, Section, All}
use Rattle.acng_reply.specs.Picks.{range_of}
use Rattle.acng_reply.specs.Replies.{Reply, Sent, WroteAll, WroteFront, through, file_reply}

-- where the bytes that are followed begin, and where they stop, where that is known
abbrev pub range_in : Facts → Pick → ℕ × Option ℕ
range_in f Unmodified = range_of Unmodified
range_in f (NoPart from total) = range_of (NoPart from total)
range_in f (Section from stop total) = range_of (Section from stop total)
range_in f All = (0, f.total)

-- a known total is the file's length, where the file is told
abbrev pub IsKnown : Bool → Facts → List ℕ → Type 0
IsKnown told f file = told ≡ true → IfSome f.total (λ n. length file ≡ n)

-- what the link has of a reply, by how the sending ended
abbrev pub EndsAs : {Q : Type 0} → Reply → Sent → ℕ → FollowStop Q → Type 0
EndsAs r io sent stop.Whole = (sent ≡ length r.body) × WroteAll r io
EndsAs r io sent (stop.Cut c) = (sent ≤ length r.body) × WroteAll (through sent false r) io
EndsAs r io sent (stop.Slip q) = (sent ≤ length r.body) × WroteAll (through sent false r) io
EndsAs r io sent stop.ClientFault = WroteFront r sent io

abbrev pub OnWhole : {Q : Type 0} → FollowStop Q → Type 0 → Type 0
OnWhole stop.Whole A = A
OnWhole (stop.Cut c) A = ⊤
OnWhole (stop.Slip q) A = ⊤
OnWhole stop.ClientFault A = ⊤

-- A reply was sent of some text, which is the file where that is told. Where all of it went out, the text is as long as the
-- file is known to be.
pub record FollowsPart {Q : Type 0} (told : Bool) (m : Manner) (p : Pick) (f : Facts) (file : List ℕ) (io : Sent) (r : Followed Q) : Type
    0 where
  pub text : List ℕ
  pub is : told ≡ true → text ≡ file
  pub size : OnWhole r.stop (IfSome f.total (λ n. length text ≡ n))
  pub ends : EndsAs (file_reply m f text p) io r.sent r.stop

-- why the body broke off is what became of one of its attempts
abbrev pub CutStands : {S Q : Type 0} → SiteGhosts S → Asked → FollowStop Q → Type 0
CutStands s asked stop.Whole = ⊤
CutStands s asked (stop.Cut c) = CauseStands s asked c
CutStands s asked (stop.Slip q) = ⊤
CutStands s asked stop.ClientFault = ⊤
