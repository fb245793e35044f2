-- The replies of one connection, by the heads that its bytes read as.
--
-- What a request gets is a rule, so that a session over a desk of its own and one that shares a desk are told by one relation.
use Rattle.std.specs.Prelude.{◌≡◌, ◌⊎◌, ◌||◌, ◌==◌, ℕ, zero, suc, Bool, true, false, not, List, [], ◌∷◌, ◌++◌}
use Rattle.std.specs.Prelude.{Option, Some, None, IfSome, Result, Ok, Err}
use Rattle.std.specs.Io.KnownBytes.{Keeps}
use Rattle.acng_base.specs.Causes.{Rose}
use Rattle.acng_base.specs.declared.link.Link.{Ghosts as LinkGhosts}
use Rattle.acng_site.specs.declared.site.Site.{Ghosts as SiteGhosts}
use Rattle.acng_conf.specs.Settings.{Settings}
use Rattle.acng_request.specs.Nexts.{next, Asks, Refuses, Ends}
use Rattle.acng_request.specs.declared.got.Request.{Request}
use Rattle.acng_request.specs.declared.got.HeadFault.{HeadFault}
use Rattle.acng_desk.specs.House.{House}
use Rattle.acng_reply.specs.declared.manner.Manner.{Manner}
use Rattle.acng_reply.specs.Manners.{manner_of, unread}
use Rattle.acng_reply.specs.Replies.{Sent}
use Rattle.acng_serve.specs.declared.note.Cause.TheVariants as cause
use Rattle.acng_serve.specs.declared.note.Note.{Note}
use Rattle.acng_serve.specs.declared.notes.SessionStop.{SessionStop}
use Rattle.acng_serve.specs.declared.notes.SessionStop.TheVariants as stop
use Rattle.acng_serve.specs.Answers.{AnswersOne}
use Rattle.acng_serve.specs.Causes.{is_client_fault, is_page}
use Rattle.acng_serve.specs.Notes.{Gives, lined, LinkTold}

-- ---- the heads of a connection

-- a request, or why a head is none
abbrev pub Head : Type 0
Head = Result Request HeadFault

-- the bytes read as these heads, one behind another, and what follows; a head that is refused isn't passed over
abbrev pub ReadsAs : List ℕ → List Head → List ℕ → Type 0
ReadsAs bytes [] rest = rest ≡ bytes
ReadsAs bytes (Ok r ∷ hs) rest = (behind : List ℕ) × (next bytes ≡ Asks r behind) × ReadsAs behind hs rest
ReadsAs bytes (Err f ∷ hs) rest = (next bytes ≡ Refuses f) × ReadsAs bytes hs rest

-- the last read of a link that has this left was made where what was held of the rest decided nothing
abbrev pub WasUndecided : List ℕ → List ℕ → Type 0
WasUndecided rest left = (held : List ℕ) × (last : List ℕ) × (rest ≡ held ++ (last ++ left)) × (next held ≡ Ends)

-- nothing is read beyond what the next head needs: before the last read so many heads were answered, and what was held behind
-- them decided nothing
pub record ReadLast (bytes : List ℕ) (heads : List Head) (left : List ℕ) : Type 0 where
  pub before : List Head
  pub after : List Head
  pub all : heads ≡ before ++ after
  pub rest : List ℕ
  pub read : ReadsAs bytes before rest
  pub undecided : WasUndecided rest left

abbrev pub ReadsFew : List ℕ → List Head → List ℕ → Type 0
ReadsFew bytes heads left = (left ≡ bytes) ⊎ ReadLast bytes heads left

-- what a session read of the bytes of its link, of which this is left
pub record Read (heads : List Head) (s : SessionStop) (bytes left : List ℕ) : Type 0 where
  pub rest : List ℕ
  pub reads : ReadsAs bytes heads rest
  pub few : ReadsFew bytes heads left
  pub ended : s ≡ stop.ClientEnded → (next rest ≡ Ends) × (left ≡ [])

-- where the link tells them
abbrev pub ReadOf : List Head → SessionStop → Option (List ℕ) → Option (List ℕ) → Type 0
ReadOf heads s old new = IfSome old (λ bytes. (left : List ℕ) × (new ≡ Some left) × Read heads s bytes left)

-- ---- replies

-- what was written to a link, and how often it had failed
pub record Side : Type 0 where
  pub written : Option (List ℕ)
  pub faults : ℕ

abbrev pub side : {L : Type 0} → LinkGhosts L → L → Side
side l x = record { written = l.written x; faults = l.faults x }

abbrev pub between : Side → Side → Sent
between old new = record { old = old.written; now = new.written; before = old.faults; after = new.faults }

-- what a request gets in a manner: the standing before and after, the note, and what was written
abbrev pub Rule : Type 0 → Type 0 → Type 1
Rule X Q = Manner → Request → X → X → Note Q → Sent → Type 0

abbrev pub Replies : {X Q : Type 0} → Rule X Q → Bool → X → X → Note Q → Sent → Head → Type 0
Replies rule last x y note io (Ok r) = rule (manner_of last r) r x y note io
Replies rule last x y note io (Err f) = (y ≡ x) × Gives (lined unread (cause.Head f) None None) note io

-- reading a head writes nothing, and the link doesn't fail
pub record Passed (old new : Side) : Type 0 where
  pub written : Keeps old.written new.written
  pub faults : new.faults ≡ old.faults

-- the reply to a head that was read; `last` is the last that the connection may have
pub record RepliesTo {X Q : Type 0} (rule : Rule X Q) (last : Bool) (h : Head) (x y : X) (note : Note Q) (old new : Side) : Type 0 where
  pub read : Side
  pub passed : Passed old read
  pub replies : Replies rule last x y note (between read new) h
  pub told : LinkTold note read.faults new.faults

-- ---- how the connection ends

-- a connection goes on behind a whole reply whose head doesn't close it; that of a page does
abbrev pub shuts : {Q : Type 0} → Bool → Note Q → Head → Bool
shuts last note (Ok r) = (manner_of last r).close || is_page note.cause || not note.whole
shuts last note (Err f) = true

-- a failed link goes before the limit, and the limit before a reply that closes
abbrev pub stop_after : Bool → Bool → SessionStop
stop_after true last = stop.ClientFault
stop_after false true = stop.Limit
stop_after false false = stop.Closed

abbrev pub when : Bool → SessionStop → Option SessionStop
when true s = Some s
when false s = None

abbrev pub stops : {Q : Type 0} → Bool → Head → Note Q → Option SessionStop
stops last h note = when (shuts last note h) (stop_after (is_client_fault note.cause) last)

-- no reply is under way: the link ended or failed, or memory is wanting
abbrev pub EndsUnread : SessionStop → Side → Side → Type 0
EndsUnread stop.ClientFault old new = Keeps old.written new.written × Rose old.faults new.faults
EndsUnread stop.ClientEnded old new = Keeps old.written new.written × (new.faults ≡ old.faults)
EndsUnread stop.NoMemory old new = Keeps old.written new.written × (new.faults ≡ old.faults)
EndsUnread stop.Limit old new = ⊥
EndsUnread stop.Closed old new = ⊥

-- it is over, or goes on
abbrev pub OverOr : (SessionStop → Type 0) → Type 0 → Option SessionStop → Type 0
OverOr Over On None = On
OverOr Over On (Some s) = Over s

-- ---- a connection

-- of at most so many requests: each head gets its reply, in order, and each reply its note
abbrev pub Serves : {X Q : Type 0} → Rule X Q → ℕ → List Head → X → X → List (Note Q) → SessionStop → Side → Side → Type 0
Serves rule zero heads x y notes s old new = (heads ≡ []) × (notes ≡ []) × (s ≡ stop.Limit) × (y ≡ x) × (new ≡ old)
Serves rule (suc k) [] x y [] s old new = (y ≡ x) × EndsUnread s old new
Serves rule (suc k) [] x y (note ∷ notes) s old new = ⊥
Serves rule (suc k) (h ∷ hs) x y [] s old new = ⊥
Serves {X} rule (suc k) (h ∷ hs) x y (note ∷ notes) s old new = (z : X) × (mid : Side) × RepliesTo rule (k == 0) h x z note old mid
    × OverOr (λ stop. (hs ≡ []) × (notes ≡ []) × (s ≡ stop) × (y ≡ z) × (new ≡ mid)) (Serves rule k hs z y notes s mid new)
    (stops (k == 0) h note)

-- the most requests of a connection
abbrev pub most_requests : ℕ
most_requests = 1000

-- what a session did over a link
pub record IsSession {L X Q : Type 0} (rule : Rule X Q) (l : LinkGhosts L) (from to : L) (x y : X) (notes : List (Note Q))
    (s : SessionStop) : Type 0 where
  pub heads : List Head
  pub serves : Serves rule most_requests heads x y notes s (side l from) (side l to)
  pub read : ReadOf heads s (l.left from) (l.left to)

-- ---- a desk that a session has to itself

-- what it has, and the moments to come
pub record Standing : Type 0 where
  pub house : House
  pub coming : Option (List ℕ)

abbrev pub standing : House → Option (List ℕ) → Standing
standing house coming = record { house = house; coming = coming }

-- each request is answered at a moment of its own
abbrev pub by_desk : {S Q : Type 0} → SiteGhosts S → Bool → Settings → Rule Standing Q
by_desk s tells conf m r x y note io = AnswersOne s tells conf m r x.coming y.coming x.house y.house note io
