-- What a taker makes of a text that is read in pieces.
use Rattle.std.specs.Prelude.{◌≡◌, ◌≢◌, ℕ, List, [], ◌++◌, Some, None, Result, Ok, Err}
use Rattle.acng_stanza.specs.Stanzas.{Field}
use Rattle.acng_stanza.specs.Readers.{Reader, all_of}
use Rattle.acng_stanza.specs.declared.fault.StanzaFault.{StanzaFault}
use Rattle.acng_stanza.specs.declared.fault.StanzaFault.TheVariants.{NoMemory}
use Rattle.acng_index.specs.Makes.{Made}

abbrev pub Makes : Type 0
Makes = List (List Field) → Made

-- all that waited was taken, and nothing else of the reader changed
pub record Drains (old new : Makes) (r s : Reader) : Type 0 where
  pub taken : (ss : List (List Field)) → new ss ≡ old (r.lines.waiting ++ ss)
  pub waiting : s.lines.waiting ≡ []
  pub last : s.lines.last ≡ r.lines.last
  pub held : s.held ≡ r.held
  pub fault : s.fault ≡ r.fault

-- what is made of all that may follow is what was made of the piece and that
pub record TakesOn (piece : List ℕ) (old new : Makes) (r s : Reader) : Type 0 where
  pub made : (more : List ℕ) → new (all_of s more).stanzas ≡ old (all_of r (piece ++ more)).stanzas
  pub fault : (more : List ℕ) → (all_of s more).fault ≡ (all_of r (piece ++ more)).fault

abbrev pub DrivesPiece : List ℕ → Makes → Makes → Reader → Reader → Result (Unit {0}) StanzaFault → Type 0
DrivesPiece piece old new r s (Ok u) = TakesOn piece old new r s
DrivesPiece piece old new r s (Err f) = f ≢ NoMemory → (more : List ℕ) → (all_of r (piece ++ more)).fault ≡ Some f

abbrev pub DrivesRest : Makes → Makes → Reader → Result (Unit {0}) StanzaFault → Type 0
DrivesRest old new r (Ok u) = (new [] ≡ old (all_of r []).stanzas) × ((all_of r []).fault ≡ None)
DrivesRest old new r (Err f) = f ≢ NoMemory → (all_of r []).fault ≡ Some f
