-- The stanzas of a text, or its first refusal (Debian Policy, section 5.1; the limits are this project's own).
use Rattle.std.specs.Prelude.{bytes_eq, slice_index_or, ℕ, ◌+◌, Bool, false, ◌&&◌, not, List, [], ◌∷◌, ◌++◌, length, take, drop, nat_le, nat_lt, Option, Some, None, option_map, ◌==◌, cond}
use Rattle.std.specs.Str.{str_to_ascii_lowercase}
use Rattle.std.specs.List.{list_all, position}
use Rattle.acng_base.specs.Cuts.{is_blank, is_blank_or_cr, is_empty, drop_front, drop_end, pieces, line_feed, is_colon}
use Rattle.acng_stanza.specs.declared.fault.StanzaFault.{StanzaFault}
use Rattle.acng_stanza.specs.declared.fault.StanzaFault.TheVariants.{BadLine, LineTooLong, TooLarge}

-- a field, and the number of its first line
pub record Field : Type 0 where
  pub name : List ℕ
  pub value : List ℕ
  pub line : ℕ

-- the stanzas before the first refused line, and its refusal
pub record Reading : Type 0 where
  pub stanzas : List (List Field)
  pub fault : Option StanzaFault

-- ---- a line

-- without blanks and carriage returns at the end
abbrev pub trimmed : List ℕ → List ℕ
trimmed line = drop_end is_blank_or_cr line

abbrev pub is_name_byte : ℕ → Bool
is_name_byte b = nat_le 0x21 b && nat_le b 0x7E && not (is_colon b)

abbrev dash : ℕ
dash = 45

abbrev hash : ℕ
hash = 35

-- printed characters but the colon, of which the first is neither `-` nor `#`
abbrev pub is_name : List ℕ → Bool
is_name [] = false
is_name (b ∷ bs) = not (b == dash) && not (b == hash) && list_all is_name_byte (b ∷ bs)

-- the value goes on
abbrev pub longer : Field → List ℕ → Field
longer f text = record { name = f.name; value = f.value ++ line_feed ∷ text; line = f.line }

-- the value of the last field goes on; None where there is no field
abbrev pub go_on : List ℕ → List Field → Option (List Field)
go_on text [] = None
go_on text (f ∷ []) = Some (longer f text ∷ [])
go_on text (f ∷ g ∷ fs) = option_map (λ gs. f ∷ gs) (go_on text (g ∷ fs))

-- the field of a line whose name has k bytes
abbrev pub field_of : ℕ → List ℕ → ℕ → Field
field_of n text k = record { name = take k text; value = drop_front is_blank (drop (k + 1) text); line = n }

-- one more field, by the place of the line's first colon
abbrev pub new_field : ℕ → List Field → List ℕ → Option ℕ → Option (List Field)
new_field n fs text None = None
new_field n fs text (Some k) = cond (is_name (take k text)) (Some (fs ++ field_of n text k ∷ [])) None

abbrev pub begins_blank : List ℕ → Bool
begins_blank [] = false
begins_blank (b ∷ bs) = is_blank b

-- the fields with a line that isn't empty once its end is dropped; None where it is a bad line
abbrev pub with_line : ℕ → List Field → List ℕ → Option (List Field)
with_line n fs text = cond (begins_blank text) (go_on (drop_front is_blank text) fs) (new_field n fs text (position is_colon text))

-- ---- the reading

-- bytes of a line before its line feed
abbrev pub line_limit : ℕ
line_limit = 1048576

-- bytes of a stanza's lines, their line feeds not counted
abbrev pub stanza_limit : ℕ
stanza_limit = 16777216

-- what a line makes of the stanza so far
pub data Step : Type 0 where
  Refused : (fault : StanzaFault) → Step
  Goes : (fields : List Field) (size : ℕ) → Step
  Ends : Step

abbrev pub field_step : ℕ → ℕ → Option (List Field) → Step
field_step n size None = Refused (BadLine n)
field_step n size (Some fs) = Goes fs size

-- the line without its end; an empty line is none of the stanza's
abbrev pub text_step : ℕ → List Field → ℕ → List ℕ → Step
text_step n fs size text =
    cond (is_empty text) Ends
    (cond (nat_lt stanza_limit size) (Refused (TooLarge n)) (field_step n size (with_line n fs text)))

-- line n, where the stanza has these fields and this size so far
abbrev pub step : ℕ → List Field → ℕ → List ℕ → Step
step n fs size line =
    cond (nat_lt line_limit (length line)) (Refused (LineTooLong n)) (text_step n fs (size + length line) (trimmed line))

abbrev pub refused : StanzaFault → Reading
refused f = record { stanzas = []; fault = Some f }

-- stanzas before those of a reading
abbrev pub ahead : List (List Field) → Reading → Reading
ahead ws r = record { stanzas = ws ++ r.stanzas; fault = r.fault }

-- without a field it is no stanza
abbrev pub some_stanza : List Field → List (List Field)
some_stanza fs = cond (length fs == 0) [] (fs ∷ [])

abbrev pub with_stanza : List Field → Reading → Reading
with_stanza fs r = ahead (some_stanza fs) r

abbrev pub after_step : (List Field → ℕ → Reading) → List Field → Step → Reading
after_step next fs (Refused f) = refused f
after_step next fs (Goes gs size) = next gs size
after_step next fs Ends = with_stanza fs (next [] 0)

-- the lines from the one numbered n on, where the stanza has these fields and this size so far
abbrev pub from_lines : List Field → ℕ → ℕ → List (List ℕ) → Reading
from_lines fs size n [] = with_stanza fs (record { stanzas = []; fault = None })
from_lines fs size n (line ∷ ls) = after_step (λ gs s. from_lines gs s (n + 1) ls) fs (step n fs size line)

-- a text whose first line has this number; a piece behind the last line feed ends a stanza as the text's end does
abbrev pub reading_from : ℕ → List ℕ → Reading
reading_from n text = from_lines [] 0 n (pieces text)

abbrev pub reading : List ℕ → Reading
reading text = reading_from 1 text

-- ---- look-ups

-- the field at a place
abbrev pub nth : List Field → ℕ → Field
nth fs i = slice_index_or fs i (record { name = []; value = []; line = 0 })

abbrev pub value_of : Field → List ℕ
value_of f = f.value

-- letters' case aside
abbrev pub is_named : List ℕ → List ℕ → Bool
is_named name text = bytes_eq (str_to_ascii_lowercase text) (str_to_ascii_lowercase name)

-- the first field of this name
abbrev pub field : List ℕ → List Field → Option Field
field name [] = None
field name (f ∷ fs) = cond (is_named name f.name) (Some f) (field name fs)
