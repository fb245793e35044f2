-- The definition on literal texts.
use Rattle.std.proofs.Common.{◌≡◌, [], ◌∷◌, ◌++◌, Some, None, codes, refl}
use Rattle.acng_stanza.specs.Stanzas.{reading, reading_from, field}
use Rattle.acng_stanza.specs.declared.fault.StanzaFault.TheVariants.{BadLine}

-- two stanzas, a value that goes on, CR LF, no line feed at the end
row_two : reading (codes "A: 1" ++ 13 ∷ 10 ∷ codes "B:" ++ 10 ∷ codes "  x " ++ 10 ∷ 10 ∷ 32 ∷ 10 ∷ codes "A:2")
    ≡ record {
      stanzas =
          (record { name = codes "A"; value = codes "1"; line = 1 } ∷ record { name = codes "B"; value = 10 ∷ codes "x"; line = 2 } ∷ [])
          ∷ (record { name = codes "A"; value = codes "2"; line = 6 } ∷ []) ∷ [];
      fault = None;
    }
row_two = refl

-- a tab goes on too, and a line of blanks doesn't
row_tab : reading (codes "A: 1" ++ 10 ∷ 9 ∷ codes "b" ++ 10 ∷ 9 ∷ 10 ∷ codes "C:")
    ≡ record {
      stanzas = (record { name = codes "A"; value = codes "1" ++ 10 ∷ codes "b"; line = 1 } ∷ []) ∷
          (record { name = codes "C"; value = []; line = 4 } ∷ []) ∷ [];
      fault = None;
    }
row_tab = refl

-- a line without a colon; the stanza before it stays, and the one it stands in doesn't
row_bad : reading (codes "A: 1" ++ 10 ∷ 10 ∷ codes "C: 2" ++ 10 ∷ codes "B")
    ≡ record { stanzas = (record { name = codes "A"; value = codes "1"; line = 1 } ∷ []) ∷ []; fault = Some (BadLine 4) }
row_bad = refl

row_from : (reading_from 7 (codes "A: 1" ++ 10 ∷ codes "B")).fault ≡ Some (BadLine 8)
row_from = refl

-- a name of no byte, names that begin with `-` or `#`, a blank in a name, a line that goes on with nothing
row_no_name : (reading (codes ":x")).fault ≡ Some (BadLine 1)
row_no_name = refl

row_dash : (reading (codes "-a: x")).fault ≡ Some (BadLine 1)
row_dash = refl

row_hash : (reading (codes "#a: x")).fault ≡ Some (BadLine 1)
row_hash = refl

row_blank : (reading (codes "a : x")).fault ≡ Some (BadLine 1)
row_blank = refl

row_first : (reading (codes " a: x")).fault ≡ Some (BadLine 1)
row_first = refl

row_after_empty : (reading (codes "A: 1" ++ 10 ∷ 10 ∷ codes " b")).fault ≡ Some (BadLine 3)
row_after_empty = refl

-- an empty text, and one of empty lines, have no stanza
row_none : reading [] ≡ record { stanzas = []; fault = None }
row_none = refl

row_empty : reading (10 ∷ 32 ∷ 13 ∷ 10 ∷ 10 ∷ []) ≡ record { stanzas = []; fault = None }
row_empty = refl

-- the first of two fields, whatever the case of the letters
row_field : field (codes "sIZE")
    (record { name = codes "Size"; value = codes "1"; line = 1 } ∷ record { name = codes "SIZE"; value = codes "2"; line = 2 } ∷ [])
    ≡ Some (record { name = codes "Size"; value = codes "1"; line = 1 })
row_field = refl
