-- What an import may do, whatever it answers: it makes bodies, and it puts files at paths that may have them.
use Rattle.std.specs.Prelude.{◌≡◌, ℕ, Bool, true, List, [], ◌∷◌, ⊤}
use Rattle.acng_desk.specs.House.{Plain}
use Rattle.acng_desk.specs.Commands.{Command, Begin, Settle, SetMark, Remove, NewBody, PutImport, Look, steps}
use Rattle.acng_reach.specs.Reaches.{is_named}
use Rattle.acng_reach.specs.Sets.{among}
use Rattle.acng_reach.specs.declared.index.Index.{Index}

-- whether a path may have the file with a hash and a size
abbrev pub May : Type 0
May = List ℕ → List ℕ → ℕ → Bool

-- any path may have it
abbrev pub anywhere : May
anywhere path hash size = true

-- the indexes name it there
abbrev pub named_in : List Index → May
named_in xs path hash size = is_named xs hash size path

abbrev pub IsEntering : May → Command → Type 0
IsEntering may (Begin path class now) = ⊥
IsEntering may (Settle ticket body) = ⊥
IsEntering may (SetMark path mark) = ⊥
IsEntering may (Remove path) = ⊥
IsEntering may NewBody = ⊤
IsEntering may (PutImport path id hash size now) = may path hash.0 size ≡ true
IsEntering may Look = ⊥

abbrev pub AreEntering : May → List Command → Type 0
AreEntering may [] = ⊤
AreEntering may (c ∷ cs) = IsEntering may c × AreEntering may cs

-- nothing else came of it
pub record OnlyEnters (may : May) (old new : Plain) : Type 0 where
  pub calls : List Command
  pub each : AreEntering may calls
  pub made : new ≡ steps calls old

-- each of these paths may have the file
pub record MayHave (may : May) (hash : List ℕ) (size : ℕ) (paths : List (List ℕ)) : Type 0 where
  pub each : (path : List ℕ) → among path paths ≡ true → may path hash size ≡ true
