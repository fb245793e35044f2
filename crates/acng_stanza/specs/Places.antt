-- How the fields of a stanza stand in one buffer: names and values, one after another.
use Rattle.std.specs.Prelude.{ℕ, ◌+◌, ◌-◌, ◌≤◌, List, [], ◌∷◌, length, take, drop}
use Rattle.acng_stanza.specs.Stanzas.{Field}
use Rattle.acng_stanza.specs.declared.stanza.Place.{Place}

-- where the field before these ends
abbrev pub next_start : List Place → ℕ → ℕ
next_start [] len = len
next_start (p ∷ ps) len = p.start

-- the bytes from a place up to another one
abbrev pub part : List ℕ → ℕ → ℕ → List ℕ
part bytes start stop = take (stop - start) (drop start bytes)

abbrev pub field_at : List ℕ → Place → ℕ → Field
field_at bytes p stop = record { name = part bytes p.start p.value; value = part bytes p.value stop; line = p.line }

abbrev pub fields_in : List ℕ → List Place → List Field
fields_in bytes [] = []
fields_in bytes (p ∷ ps) = field_at bytes p (next_start ps (length bytes)) ∷ fields_in bytes ps

-- each name and each value ends where the next one begins, and all lie within the buffer
abbrev pub AreInOrder : ℕ → List Place → Type 0
AreInOrder len [] = Unit {0}
AreInOrder len (p ∷ ps) = (p.start ≤ p.value) × (p.value ≤ next_start ps len) × AreInOrder len ps

-- where the value of a field ends
abbrev pub stop_of : List Place → ℕ → ℕ → ℕ
stop_of places i len = next_start (drop (i + 1) places) len
