-- The laws of a desk over lists of calls and of events.
use Rattle.std.specs.Prelude.{◌≡◌, ◌⊎◌, ℕ, zero, suc, true, List, [], ◌∷◌, ◌++◌, Option, None, Some, ⊤}
use Rattle.acng_base.specs.declared.clock.Moment.{Moment}
use Rattle.acng_class.specs.declared.class.Class.{Class}
use Rattle.acng_site.specs.declared.site.Site.{Ghosts as SiteGhosts}
use Rattle.acng_site.specs.Honest.{IsFront}
use Rattle.acng_keeper.specs.Kept.{Kept, stored}
use Rattle.acng_keeper.specs.Images.{IsImage}
use Rattle.acng_grow.specs.Events.{Body, Event, stepped, MayHappen, IsKept}
use Rattle.acng_grow.specs.Faithful.{IsFaithful}
use Rattle.acng_rows.specs.Rows.{Rows, Load, out_at}
use Rattle.acng_rows.specs.Goods.{Holds, StandsFor}
use Rattle.acng_desk.specs.declared.case.Case.TheVariants as case
use Rattle.acng_desk.specs.House.{House, Plain, spot_at}
use Rattle.acng_desk.specs.Begins.{begin_case, HasRested}
use Rattle.acng_desk.specs.Settles.{is_out}
use Rattle.acng_desk.specs.Commands.{Command, Begin, Settle, SetMark, Remove, NewBody, PutImport, Look, step, steps}
use Rattle.acng_desk.specs.Stops.{StopsAt, IsFound}

-- ---- calls, one after the other

-- a call that was answered and not refused: what `step` says, and what a start would find goes on
pub record Answered (c : Command) (old new : House) : Type 0 where
  pub plain : new.plain ≡ step c old.plain
  pub exact : IsFound old → IsFound new

-- calls from one house to another, each answered
abbrev pub Runs : House → List Command → House → Type 0
Runs h [] k = k ≡ h
Runs h (c ∷ cs) k = (mid : House) × Answered c h mid × Runs mid cs k

-- after any calls a desk knows what `steps` says, and a start would find exactly its rows
pub record HasRun (h : House) (cs : List Command) (k : House) : Type 0 where
  pub plain : k.plain ≡ steps cs h.plain
  pub found : IsFound h → IsFound k

abbrev pub RunsAreSteps : Type 0
RunsAreSteps = (h k : House) (cs : List Command) → Runs h cs k → HasRun h cs k

-- calls without an effect on heads and sealed bodies
abbrev pub IsQuiet : Command → Type 0
IsQuiet (Begin p class now) = ⊤
IsQuiet (Settle ticket body) = ⊥
IsQuiet (SetMark p mark) = ⊥
IsQuiet (Remove p) = ⊥
IsQuiet NewBody = ⊤
IsQuiet (PutImport p id hash size now) = ⊥
IsQuiet Look = ⊤

-- such a call is answered in this sense where it does what `step` says, and a stop in it leaves what was there
abbrev pub QuietCallsAnswer : {S : Type 0} → SiteGhosts S → Type 0
QuietCallsAnswer s = (c : Command) (old new : House) → IsQuiet c → new.plain ≡ step c old.plain → HasRested old.kept new.kept
    → Answered c old new × StopsAt s old.plain.rows old new

-- ---- one ticket a path

-- the command ends this ticket of the path
abbrev pub Spends : List ℕ → Load → Command → Type 0
Spends path o (Begin p class now) = ⊥
Spends path o (Settle ticket body) = (body.path ≡ path) × (is_out (Some o) ticket.info ≡ true)
Spends path o (SetMark p mark) = ⊥
Spends path o (Remove p) = ⊥
Spends path o NewBody = ⊥
Spends path o (PutImport p id hash size now) = ⊥
Spends path o Look = ⊥

abbrev pub NoneSpends : List ℕ → Load → List Command → Type 0
NoneSpends path o [] = ⊤
NoneSpends path o (c ∷ cs) = (Spends path o c → ⊥) × NoneSpends path o cs

-- the ticket is out, and whoever asks for the path joins it
pub record IsJoined (p : Plain) (path : List ℕ) (o : Load) : Type 0 where
  pub out : out_at p.rows path ≡ Some o
  pub joins : (class : Class) (now : Moment) → begin_case (spot_at p path) class now.0 ≡ case.Join

-- whatever is called, until the ticket is settled: no second one of its path is given out
abbrev pub TicketsStay : Type 0
TicketsStay = (cs : List Command) (p : Plain) (path : List ℕ) (o : Load) → out_at p.rows path ≡ Some o → NoneSpends path o cs
    → IsJoined (steps cs p) path o

-- ---- the bodies beside the rows

-- what a desk knows, and all bodies that were begun
pub record World : Type 0 where
  pub plain : Plain
  pub bodies : List Body

-- a call of the desk; a body is begun; something befalls the body at a place
pub data Happening : Type 0 where
  Call : (c : Command) → Happening
  Open : (b : Body) → Happening
  Befall : (i : ℕ) (e : Event) → Happening

abbrev pub body_at : List Body → ℕ → Option Body
body_at [] i = None
body_at (b ∷ bs) zero = Some b
body_at (b ∷ bs) (suc i) = body_at bs i

abbrev pub befallen : List Body → ℕ → Event → List Body
befallen [] i e = []
befallen (b ∷ bs) zero e = stepped b e ∷ bs
befallen (b ∷ bs) (suc i) e = b ∷ befallen bs i e

-- a call changes rows and no body
abbrev pub after_one : World → Happening → World
after_one w (Call c) = record { plain = step c w.plain; bodies = w.bodies }
after_one w (Open b) = record { plain = w.plain; bodies = w.bodies ++ b ∷ [] }
after_one w (Befall i e) = record { plain = w.plain; bodies = befallen w.bodies i e }

abbrev pub after_all : World → List Happening → World
after_all w [] = w
after_all w (x ∷ xs) = after_all (after_one w x) xs

abbrev pub calls_of : List Happening → List Command
calls_of [] = []
calls_of (Call c ∷ xs) = c ∷ calls_of xs
calls_of (Open b ∷ xs) = calls_of xs
calls_of (Befall i e ∷ xs) = calls_of xs

-- the event may befall that body, where there is one
abbrev pub MayBefall : {S : Type 0} → SiteGhosts S → List Body → ℕ → Event → Type 0
MayBefall s [] i e = ⊤
MayBefall s (b ∷ bs) zero e = MayHappen s b e
MayBefall s (b ∷ bs) (suc i) e = MayBefall s bs i e

abbrev pub May : {S : Type 0} → SiteGhosts S → World → Happening → Type 0
May s w (Call c) = ⊤
May s w (Open b) = IsKept s b
May s w (Befall i e) = MayBefall s w.bodies i e

abbrev pub MayAll : {S : Type 0} → SiteGhosts S → World → List Happening → Type 0
MayAll s w [] = ⊤
MayAll s w (x ∷ xs) = May s w x × MayAll s (after_one w x) xs

-- the body is there still: its path is the same, and its text only grew
pub record Stayed {S : Type 0} (s : SiteGhosts S) (b : Body) (bodies : List Body) (i : ℕ) : Type 0 where
  pub later : Body
  pub at : body_at bodies i ≡ Some later
  pub kept : IsKept s later
  pub path : later.path ≡ b.path
  pub grows : IsFront later.text b.text

-- however calls and events come, rows change by the calls alone, and each body stays
pub record Stays {S : Type 0} (s : SiteGhosts S) (w : World) (xs : List Happening) : Type 0 where
  pub rows : (after_all w xs).plain ≡ steps (calls_of xs) w.plain
  pub bodies : (i : ℕ) (b : Body) → body_at w.bodies i ≡ Some b → IsKept s b → Stayed s b (after_all w xs).bodies i

abbrev pub BodiesStay : {S : Type 0} → SiteGhosts S → Type 0
BodiesStay s = (w : World) (xs : List Happening) → MayAll s w xs → Stays s w xs

-- ---- a stop in a call

-- what a stop in a call leaves: a keeper over which a desk may be started, the files of the old rows or of the new ones, and
-- where a start would have found the old rows it finds these or the new ones
pub record Survives {S : Type 0} (s : SiteGhosts S) (old : House) (new : Rows) (image : Kept) : Type 0 where
  pub faithful : IsFaithful s image
  pub holds : Holds old.plain.rows (stored image) ⊎ Holds new (stored image)
  pub found : IsFound old → StandsFor old.plain.rows (stored image) ⊎ StandsFor new (stored image)

-- at any moment of a call that begins with this house
abbrev pub StopsSurvive : {S : Type 0} → SiteGhosts S → House → Type 0
StopsSurvive s old = (new : House) (rows : Rows) (image : Kept) → StopsAt s rows old new
    → IsImage old.kept new.kept old.plain.next_id new.plain.next_id image → Survives s old rows image
