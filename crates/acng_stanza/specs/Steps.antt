-- What the calls on a stanza that isn't over do.
use Rattle.std.specs.Prelude.{◌≡◌, ◌≢◌, ◌+◌, ◌++◌, [], List, Option, Some, None, Result, Ok, Err}
use Rattle.acng_stanza.specs.Stanzas.{Field, Step, Refused, Goes, Ends, some_stanza}
use Rattle.acng_stanza.specs.declared.fault.StanzaFault.{StanzaFault}
use Rattle.acng_stanza.specs.declared.fault.StanzaFault.TheVariants.{NoMemory, BadLine}
use Rattle.acng_stanza.specs.Readers.{Lined, Unfinished}
use Rattle.acng_stanza.specs.declared.open.Went.{Went}
use Rattle.acng_stanza.specs.declared.open.Went.TheVariants.{On, Over}

-- the fields are these, or the line is a bad one
abbrev pub Adds : Option (List Field) → Unfinished → Unfinished → Result (Unit {0}) StanzaFault → Type 0
Adds expected old new (Ok u) = (new.line ≡ old.line) × (new.size ≡ old.size) × (expected ≡ Some new.fields)
Adds expected old new (Err f) = f ≢ NoMemory → (expected ≡ None) × (f ≡ BadLine old.line)

abbrev pub Steps : Step → Unfinished → Unfinished → Result Went StanzaFault → Type 0
Steps expected old new (Ok On) = (expected ≡ Goes new.fields new.size) × (new.line ≡ old.line)
Steps expected old new (Ok Over) = (expected ≡ Ends) × (new ≡ old)
Steps expected old new (Err f) = f ≢ NoMemory → expected ≡ Refused f

-- what a line that was taken leaves
abbrev pub gone : Went → Lined → Lined
gone On l = record { waiting = l.waiting; last = record { fields = l.last.fields; size = l.last.size; line = l.last.line + 1 } }
gone Over l = record { waiting = l.waiting ++ some_stanza l.last.fields; last = record { fields = []; size = 0; line = l.last.line + 1 } }

abbrev pub IsGone : Went → Lined → Lined → Result (Unit {0}) StanzaFault → Type 0
IsGone went old new (Ok u) = new ≡ gone went old
IsGone went old new (Err f) = f ≡ NoMemory
