-- The sending of a body's part to a client.
use Rattle.std.specs.Prelude.{◌≡◌, ◌⊎◌, ℕ, ◌-◌, ◌≤◌, Bool, true, false, ◌||◌, nat_le, min, List, [], length, take, drop, Option}
use Rattle.std.specs.Prelude.{None, Some, ⊤}
use Rattle.acng_base.specs.Causes.{Rose}
use Rattle.acng_grow.specs.declared.facts.Stage.{Stage}
use Rattle.acng_grow.specs.declared.sending.Sending.{Sending}
use Rattle.acng_grow.specs.declared.owned.FollowStop.{FollowStop}
use Rattle.acng_grow.specs.declared.owned.FollowStop.TheVariants as stop
use Rattle.acng_grow.specs.declared.owned.Followed.{Followed}
use Rattle.acng_grow.specs.declared.why.Shown.{Shown}
use Rattle.acng_grow.specs.Effects.{is_complete}
use Rattle.acng_grow.specs.Grown.{Grown, text_of}
use Rattle.acng_grow.specs.Sends.{Sends, BreaksIn, BreaksAfter, last_text}

-- ---- the part that was asked for

-- where it ends, as far as the body goes
abbrev pub end_at : ℕ → Option ℕ → ℕ
end_at size None = size
end_at size (Some to) = min to size

-- whether it is there whole
abbrev pub is_there : Stage → ℕ → ℕ → Option ℕ → Bool
is_there st size from None = is_complete st
is_there st size from (Some to) = nat_le to size || nat_le to from

-- its bytes, as far as they are there
abbrev pub part_of : List ℕ → ℕ → Option ℕ → List ℕ
part_of text from to = take (end_at (length text) to - from) (drop from text)

-- ---- how the sending ended

-- what the link has of the part, by whether it is there whole and by the body's cause
abbrev pub FollowsTo : {Q : Type 0} → Sending → List ℕ → Bool → Option Shown → Option (List ℕ) → Option (List ℕ) → ℕ → FollowStop Q
    → Type 0
FollowsTo sending part there cause old new sent stop.Whole =
    (there ≡ true) × (sent ≡ length part) × Sends sending part (last_text sending) old new
FollowsTo sending part there cause old new sent (stop.Cut c) =
    (there ≡ false) × (cause ≡ Some c) × (sent ≡ length part) × Sends sending part [] old new
FollowsTo sending part there cause old new sent (stop.Slip q) = (sent ≤ length part) × Sends sending (take sent part) [] old new
FollowsTo sending part there cause old new sent stop.ClientFault =
    BreaksIn sending part sent old new ⊎ ((there ≡ true) × BreaksAfter sending part sent old new)

-- some part of the counted length was sent, which is the body's where its file tells
pub record FollowsAs {Q : Type 0} (told : Type 0) (sending : Sending) (g : Grown) (from : ℕ) (to : Option ℕ)
    (old new : Option (List ℕ)) (r : Followed Q) : Type 0 where
  pub part : List ℕ
  pub count : length part ≡ end_at g.seen.size to - from
  pub is : told → part ≡ part_of (text_of g) from to
  pub goes : FollowsTo sending part (is_there g.seen.stage g.seen.size from to) g.seen.shown old new r.sent r.stop

abbrev pub OnFileSlip : {Q : Type 0} → FollowStop Q → Type 0 → Type 0
OnFileSlip stop.Whole A = ⊤
OnFileSlip (stop.Cut c) A = ⊤
OnFileSlip (stop.Slip q) A = A
OnFileSlip stop.ClientFault A = ⊤

-- the client's count of faults rose where the client failed, and only there
abbrev pub FaultRose : {Q : Type 0} → FollowStop Q → ℕ → ℕ → Type 0
FaultRose stop.Whole before now = now ≡ before
FaultRose (stop.Cut c) before now = now ≡ before
FaultRose (stop.Slip q) before now = now ≡ before
FaultRose stop.ClientFault before now = Rose before now
