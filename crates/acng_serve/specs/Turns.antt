-- What one turn of a connection does.
use Rattle.std.specs.Prelude.{◌≡◌, ◌⊎◌, ◌++◌, Bool, List, [], ◌∷◌, ℕ, Option, Some, None, IfSome}
use Rattle.std.specs.Io.KnownBytes.{IsAtEnd}
use Rattle.acng_base.specs.declared.link.Link.{Ghosts as LinkGhosts}
use Rattle.acng_request.specs.Nexts.{next, Ends}
use Rattle.acng_serve.specs.declared.note.Note.{Note}
use Rattle.acng_serve.specs.declared.notes.SessionStop.{SessionStop}
use Rattle.acng_serve.specs.declared.notes.SessionStop.TheVariants as stop
use Rattle.acng_serve.specs.declared.owned.Turn.{Turn}
use Rattle.acng_serve.specs.declared.owned.Turn.TheVariants as turn
use Rattle.acng_serve.specs.Sessions.{Head, ReadsAs, WasUndecided, RepliesTo, EndsUnread, Rule, side, stops}

-- what a turn takes of what is held and of what the link has left
pub record Takes (heads : List Head) (held kept bytes left : List ℕ) : Type 0 where
  pub reads : ReadsAs (held ++ bytes) heads (kept ++ left)
  pub few : (left ≡ bytes) ⊎ WasUndecided (held ++ bytes) left

abbrev pub TakesOf : List Head → List ℕ → List ℕ → Option (List ℕ) → Option (List ℕ) → Type 0
TakesOf heads held kept old new = IfSome old (λ bytes. (left : List ℕ) × (new ≡ Some left) × Takes heads held kept bytes left)

-- a head got its reply
pub record Replied {L X Q : Type 0} (rule : Rule X Q) (l : LinkGhosts L) (last : Bool) (from to : L) (held kept : List ℕ) (x y : X)
    (note : Note Q) (end : Option SessionStop) : Type 0 where
  pub head : Head
  pub replies : RepliesTo rule last head x y note (side l from) (side l to)
  pub ends : end ≡ stops last head note
  pub takes : TakesOf (head ∷ []) held kept (l.left from) (l.left to)

-- no head came
pub record NoneCame {L X : Type 0} (l : LinkGhosts L) (from to : L) (held kept : List ℕ) (x y : X) (s : SessionStop) : Type 0 where
  pub same : y ≡ x
  pub ends : EndsUnread s (side l from) (side l to)
  pub takes : TakesOf [] held kept (l.left from) (l.left to)
  pub ended : s ≡ stop.ClientEnded → IfSome (l.left from) (λ bytes. next (held ++ bytes) ≡ Ends) × IsAtEnd (l.left to)

-- the connection goes on behind a reply, or is over
abbrev pub turn_of : {Q : Type 0} → Note Q → Option SessionStop → Turn Q
turn_of note None = turn.Goes note
turn_of note (Some s) = turn.Closes note s

abbrev pub Turned : {L X Q : Type 0} → Rule X Q → LinkGhosts L → Bool → L → L → List ℕ → List ℕ → X → X → Turn Q → Type 0
Turned rule l last from to held kept x y (turn.Goes note) = Replied rule l last from to held kept x y note None
Turned rule l last from to held kept x y (turn.Closes note s) = Replied rule l last from to held kept x y note (Some s)
Turned rule l last from to held kept x y (turn.Over s) = NoneCame l from to held kept x y s
