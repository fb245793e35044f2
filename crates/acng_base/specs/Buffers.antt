-- What a read adds to the bytes that were read and aren't used.
use Rattle.std.specs.Prelude.{◌≡◌, ◌<◌, ◌≤◌, ℕ, ◌+◌, List, ◌++◌, length, take, Result, MatchResult}
use Rattle.std.specs.declared.option.Option.{Option}
use Rattle.std.specs.Io.KnownBytes.{Consumes, IsAtEnd, Keeps, ReadConsumes}
use Rattle.acng_base.specs.Causes.{HasCause}

-- a read into some room did so much, and the bytes that it gave were added; a failed one adds none
pub record IsFilled {E : Type 0} (did : Result ℕ E → List ℕ → Type 0) (old new : List ℕ) (result : Result ℕ E) : Type 0 where
  pub room : List ℕ
  pub some : 0 < length room
  pub read : did result room
  pub held : MatchResult result (λ n. (n ≤ length room) × (new ≡ old ++ take n room)) (λ _. new ≡ old)

-- what a link's read did
pub record LinkRead {E : Type 0} (left rest written kept : Option (List ℕ)) (before now : ℕ) (result : Result ℕ E) (room : List ℕ)
    : Type 0 where
  pub bytes : ReadConsumes left rest result room
  pub others : Keeps written kept
  pub cause : HasCause before now result

-- bytes that a link had left were added, in order
pub record Moves (old new : List ℕ) (left rest : Option (List ℕ)) : Type 0 where
  pub bytes : List ℕ
  pub added : new ≡ old ++ bytes
  pub taken : Consumes left rest bytes

-- a read adds what the link gave, and none only at its end; a failed one changes nothing
abbrev pub Fills : {E : Type 0} → List ℕ → List ℕ → Option (List ℕ) → Option (List ℕ) → Result ℕ E → Type 0
Fills old new left rest result =
    MatchResult result
    (λ n. Moves old new left rest × (length new ≡ length old + n) × (n ≡ 0 → IsAtEnd rest))
    (λ _. (new ≡ old) × Keeps left rest)
