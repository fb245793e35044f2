-- What the calls on a reader do.
use Rattle.std.specs.Prelude.{◌≡◌, ◌≢◌, ℕ, List, [], ◌∷◌, ◌++◌, Option, Some, None, Result, Ok, Err}
use Rattle.acng_stanza.specs.Stanzas.{Field, refused, ahead}
use Rattle.acng_stanza.specs.Readers.{Lined, Reader, after, rest}
use Rattle.acng_stanza.specs.declared.fault.StanzaFault.{StanzaFault}
use Rattle.acng_stanza.specs.declared.fault.StanzaFault.TheVariants.{NoMemory}

-- a line was taken: what is made of lines that follow is what was made of this one and those
pub record TakesLine (line : List ℕ) (old new : Lined) : Type 0 where
  pub same : (ls : List (List ℕ)) → after new ls ≡ after old (line ∷ ls)

pub record RefusesLine (line : List ℕ) (fault : StanzaFault) (old new : Lined) : Type 0 where
  pub same : (ls : List (List ℕ)) → ahead new.waiting (refused fault) ≡ after old (line ∷ ls)

abbrev pub FeedsLine : List ℕ → Lined → Lined → Result (Unit {0}) StanzaFault → Type 0
FeedsLine line old new (Ok u) = TakesLine line old new
FeedsLine line old new (Err f) = f ≢ NoMemory → RefusesLine line f old new

-- a piece was taken
pub record TakesPiece (piece : List ℕ) (old new : Reader) : Type 0 where
  pub same : (more : List ℕ) → rest new more ≡ rest old (piece ++ more)

-- the piece has the first refused line
pub record RefusesPiece (piece : List ℕ) (fault : StanzaFault) (old new : Reader) : Type 0 where
  pub same : (more : List ℕ) → ahead new.lines.waiting (refused fault) ≡ rest old (piece ++ more)

abbrev pub Feeds : List ℕ → Reader → Reader → Result (Unit {0}) StanzaFault → Type 0
Feeds piece old new (Ok u) = TakesPiece piece old new
Feeds piece old new (Err f) = f ≢ NoMemory → RefusesPiece piece f old new

-- ---- the reader's calls

-- the refusal that a call tells
abbrev pub told : Result (Unit {0}) StanzaFault → Option StanzaFault
told (Ok u) = None
told (Err f) = Some f

-- a fact of each answer but want of memory
abbrev pub UnlessStarved : Result (Unit {0}) StanzaFault → Type 0 → Type 0
UnlessStarved (Ok u) P = P
UnlessStarved (Err f) P = f ≢ NoMemory → P

-- a call on a reader that was refused before: it tells that refusal, and nothing changes
abbrev pub TellsAgain : Reader → Reader → Result (Unit {0}) StanzaFault → Type 0
TellsAgain old new result = (f : StanzaFault) → old.fault ≡ Some f → (result ≡ Err f) × (new ≡ old)

-- the first stanza that waits is handed out, and nothing else changes
pub record HandsOut (s : List Field) (old new : Reader) : Type 0 where
  pub waiting : old.lines.waiting ≡ s ∷ new.lines.waiting
  pub last : new.lines.last ≡ old.lines.last
  pub held : new.held ≡ old.held
  pub fault : new.fault ≡ old.fault

abbrev pub Hands : Reader → Reader → Option (List Field) → Type 0
Hands old new None = (old.lines.waiting ≡ []) × (new ≡ old)
Hands old new (Some s) = HandsOut s old new

-- what waits after the last line is all that was left of the text
abbrev pub ClosesLast : Reader → Reader → Result (Unit {0}) StanzaFault → Type 0
ClosesLast old new (Ok u) = (new.fault ≡ None) × (record { stanzas = new.lines.waiting; fault = None } ≡ rest old [])
ClosesLast old new (Err f) = f ≢ NoMemory → record { stanzas = new.lines.waiting; fault = Some f } ≡ rest old []
