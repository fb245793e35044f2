-- Runs of expiration as lists of a desk's calls.
use Rattle.std.specs.Prelude.{◌≡◌, ℕ, Bool, List, [], ◌∷◌, ⊤}
use Rattle.acng_desk.specs.House.{Plain, House}
use Rattle.acng_desk.specs.Commands.{Command, Begin, Settle, SetMark, Remove, NewBody, PutImport, Look, steps}
use Rattle.acng_expire.specs.Expirations.{IsDoneBy, IsAbortedBy, IsCut}

-- a mark is changed, or a whole body removed
abbrev pub IsOfRun : Command → Type 0
IsOfRun (Begin path class now) = ⊥
IsOfRun (Settle ticket body) = ⊥
IsOfRun (SetMark path mark) = ⊤
IsOfRun (Remove path) = ⊤
IsOfRun NewBody = ⊥
IsOfRun (PutImport path id hash size now) = ⊥
IsOfRun Look = ⊥

abbrev pub AreOfRun : List Command → Type 0
AreOfRun [] = ⊤
AreOfRun (c ∷ cs) = IsOfRun c × AreOfRun cs

-- such calls make the one of the other
pub record AreCalls (old new : Plain) : Type 0 where
  pub calls : List Command
  pub each : AreOfRun calls
  pub is : new ≡ steps calls old

pub record RunsAreCalls : Type 0 where
  pub done : (tells : Bool) (failed : List (List ℕ)) (now : ℕ) (old new : House) (removed marked : ℕ)
      → IsDoneBy tells failed now old new removed marked → AreCalls old.plain new.plain
  pub aborted : (tells : Bool) (failed : List (List ℕ)) (old new : House) (problems : ℕ)
      → IsAbortedBy tells failed old new problems → new.plain ≡ old.plain
  pub cut : (tells : Bool) (failed : List (List ℕ)) (now : ℕ) (old new : House) (removed : ℕ)
      → IsCut tells failed now old new removed → AreCalls old.plain new.plain
