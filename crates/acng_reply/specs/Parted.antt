-- What went out of a reply whose body a growing body gives.
use Rattle.std.specs.Prelude.{◌≡◌, ◌≤◌, ℕ, Bool, true, false, not, ◌||◌, List, length, Option, Some, Result, Ok, Err}
use Rattle.acng_grow.specs.declared.owned.FollowStop.{FollowStop}
use Rattle.acng_grow.specs.declared.owned.FollowStop.TheVariants as stop
use Rattle.acng_grow.specs.declared.owned.Followed.{Followed}
use Rattle.acng_grow.specs.declared.why.Shown.{Shown}
use Rattle.acng_grow.specs.Grown.{Grown, text_of}
use Rattle.acng_grow.specs.Follows.{is_there}
use Rattle.acng_reply.specs.declared.manner.Manner.{Manner}
use Rattle.acng_reply.specs.declared.pick.Pick.{Pick}
use Rattle.acng_reply.specs.declared.pick.Pick.TheVariants.{Unmodified, NoPart, Section, All}
use Rattle.acng_reply.specs.Picks.{range_of}
use Rattle.acng_reply.specs.Replies.{Reply, Sent, WroteAll, WroteFront, through, file_reply}

-- the link failed in the reply through so many bytes of its body, with an end only behind all that it promised
pub record BrokeIn (r : Reply) (there : Bool) (sent : ℕ) (io : Sent) : Type 0 where
  pub n : ℕ
  pub few : n ≤ length r.body
  pub whole : Bool
  pub all : whole ≡ true → (there ≡ true) × (n ≡ length r.body)
  pub front : WroteFront (through n whole r) sent io

-- what the link has of the reply, by whether all of its part is there, by the body's cause and by how the sending ended
abbrev pub Parted : {Q : Type 0} → Reply → Bool → Option Shown → Sent → ℕ → FollowStop Q → Type 0
Parted r there cause io sent stop.Whole = (there ≡ true) × (sent ≡ length r.body) × WroteAll r io
Parted r there cause io sent (stop.Cut c) =
    (there ≡ false) × (cause ≡ Some c) × (sent ≡ length r.body) × WroteAll (through sent false r) io
Parted r there cause io sent (stop.Slip q) = (sent ≤ length r.body) × WroteAll (through sent false r) io
Parted r there cause io sent stop.ClientFault = BrokeIn r there sent io

-- all that the reply sends is there
abbrev pub is_due : Manner → Pick → Grown → Bool
is_due m p g = m.bare || is_there g.seen.stage g.seen.size (range_of p).0 (range_of p).1

-- nothing follows the head
abbrev pub is_alone : Manner → Pick → Bool
is_alone m Unmodified = true
is_alone m (NoPart from total) = false
is_alone m (Section from stop total) = m.bare
is_alone m All = m.bare

-- a part of the body follows it
abbrev pub has_part : Manner → Pick → Bool
has_part m Unmodified = false
has_part m (NoPart from total) = false
has_part m (Section from stop total) = not m.bare
has_part m All = not m.bare

-- how the sending of a text at hand ended
abbrev pub stop_of : {T E Q : Type 0} → Result T E → FollowStop Q
stop_of (Ok x) = stop.Whole
stop_of (Err e) = stop.ClientFault

-- the reply was sent of a text as long as the body, which is the body's where its file tells
pub record SendsPart {Q : Type 0} (tells : Bool) (m : Manner) (p : Pick) (g : Grown) (io : Sent) (r : Followed Q) : Type 0 where
  pub text : List ℕ
  pub size : length text ≡ g.seen.size
  pub is : tells ≡ true → text ≡ text_of g
  pub ends : Parted (file_reply m g.seen.facts text p) (is_due m p g) g.seen.shown io r.sent r.stop
