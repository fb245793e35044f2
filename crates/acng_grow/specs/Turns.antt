-- What a follower through a lock finds of a file, and what it sends of it.
use Rattle.std.specs.Prelude.{◌≡◌, ◌⊎◌, ℕ, ◌+◌, ◌-◌, ◌<◌, ◌≤◌, true, List, [], length, take, drop, Option, Some, IfSome}
use Rattle.acng_site.specs.declared.site.Site.{Ghosts as SiteGhosts}
use Rattle.acng_head.specs.declared.head.Label.{Label}
use Rattle.acng_head.specs.declared.head.Label.TheVariants.{Fetched, Imported}
use Rattle.acng_grow.specs.declared.asked.Asked.{Asked}
use Rattle.acng_grow.specs.declared.sending.Sending.{Sending}
use Rattle.acng_grow.specs.declared.finding.Found.{Found}
use Rattle.acng_grow.specs.declared.finding.Found.TheVariants as found
use Rattle.acng_grow.specs.declared.owned.FollowStop.{FollowStop}
use Rattle.acng_grow.specs.declared.owned.FollowStop.TheVariants as stop
use Rattle.acng_grow.specs.declared.owned.Followed.{Followed}
use Rattle.acng_grow.specs.Agrees.{label_agrees}
use Rattle.acng_grow.specs.Follows.{end_at, part_of}
use Rattle.acng_grow.specs.Keeps.{most_bytes}
use Rattle.acng_grow.specs.Looks.{CauseStands}
use Rattle.acng_grow.specs.Sends.{Sends, BreaksIn, BreaksAfter, last_text}

-- ---- one look

-- the place is before the asked end
abbrev pub IsShort : ℕ → Option ℕ → Type 0
IsShort place to = IfSome to (λ t. place < t)

-- so many bytes of a frame are those of the file from the place on, and none is past the asked end
pub record BytesStand (told : Type 0) (file : List ℕ) (place : ℕ) (to : Option ℕ) (frame : List ℕ) (n : ℕ) : Type 0 where
  pub some : 0 < n
  pub room : 20 + n ≤ length frame
  pub small : place + n ≤ most_bytes
  pub within : IfSome to (λ t. place + n ≤ t)
  pub bytes : told → take n (drop 18 frame) ≡ take n (drop place file)

-- no byte is left before the asked end, or before the end of the file
pub record IsPast (told : Type 0) (file : List ℕ) (place : ℕ) (to : Option ℕ) : Type 0 where
  pub asked : IfSome to (λ t. t ≤ place)
  pub known : told → end_at (length file) to ≤ place

abbrev pub FoundStands : {S Q : Type 0} → SiteGhosts S → (told : Type 0) → Asked → List ℕ → ℕ → Option ℕ → List ℕ → Found Q → Type 0
FoundStands s told asked file place to frame (found.Bytes n) = BytesStand told file place to frame n
FoundStands s told asked file place to frame found.Whole = IsPast told file place to
FoundStands s told asked file place to frame (found.Cut c) = IsShort place to × CauseStands s asked c
FoundStands s told asked file place to frame (found.Slip q) = IsShort place to

-- ---- the sending

-- what the link has of a part, by how the sending ended
abbrev pub Reaches : {Q : Type 0} → Sending → List ℕ → Option (List ℕ) → Option (List ℕ) → ℕ → FollowStop Q → Type 0
Reaches sending part old new sent stop.Whole = (sent ≡ length part) × Sends sending part (last_text sending) old new
Reaches sending part old new sent (stop.Cut c) = (sent ≤ length part) × Sends sending (take sent part) [] old new
Reaches sending part old new sent (stop.Slip q) = (sent ≤ length part) × Sends sending (take sent part) [] old new
Reaches sending part old new sent stop.ClientFault = BreaksIn sending part sent old new ⊎ BreaksAfter sending part sent old new

-- some part was sent, which is the file's where that is told
pub record FollowsFile {Q : Type 0} (told : Type 0) (sending : Sending) (file : List ℕ) (from : ℕ) (to : Option ℕ)
    (old new : Option (List ℕ)) (r : Followed Q) : Type 0 where
  pub part : List ℕ
  pub is : told → part ≡ part_of file from to
  pub goes : Reaches sending part old new r.sent r.stop

-- how many bytes were sent, and why no more, whether the file is told or not
abbrev pub EndStands : {S Q : Type 0} → SiteGhosts S → Asked → ℕ → Option ℕ → ℕ → FollowStop Q → Type 0
EndStands s asked from to sent stop.Whole = IfSome to (λ t. sent ≡ t - from)
EndStands s asked from to sent (stop.Cut c) = IsShort (from + sent) to × CauseStands s asked c
EndStands s asked from to sent (stop.Slip q) = IsShort (from + sent) to
EndStands s asked from to sent stop.ClientFault = IfSome to (λ t. sent ≤ t - from)

-- both are fetched, beginning with the same attempt, so both are of one file
abbrev pub HaveOneFirst : Label → Label → Type 0
HaveOneFirst (Fetched first last) (Fetched n m) = n ≡ first
HaveOneFirst (Fetched first last) (Imported hash size) = ⊥
HaveOneFirst (Imported hash size) label = ⊥

-- a label of the asked body that differs from the given one by its last attempt at most
pub record IsLabelOf (asked : Asked) (given label : Label) : Type 0 where
  pub first : HaveOneFirst given label
  pub agrees : label_agrees asked.first_try asked.old (Some label) ≡ true
