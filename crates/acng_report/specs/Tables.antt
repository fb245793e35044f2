-- The table of a report: a line for each held path, and a last one with their number and the sum of their sizes.
use Rattle.std.specs.Prelude.{ℕ, List, [], ◌∷◌, ◌++◌, codes, decimal, length, Option, None, Some}
use Rattle.std.specs.List.{flat_map, sum_by}
use Rattle.acng_base.specs.Cuts.{space, line_feed}
use Rattle.acng_base.specs.declared.clock.Moment.{Moment}
use Rattle.acng_class.specs.declared.class.Class.{Class}
use Rattle.acng_class.specs.declared.class.Class.TheVariants.{Solid, Volatile, Forbidden}
use Rattle.acng_report.specs.declared.line.Line.{Line}

abbrev pub class_word : Class → List ℕ
class_word Solid = codes "solid"
class_word Volatile = codes "volatile"
class_word Forbidden = codes "forbidden"

-- its seconds, or `-` where there is none
abbrev pub mark_word : Option Moment → List ℕ
mark_word None = codes "-"
mark_word (Some moment) = decimal moment.0

-- `PATH SIZE CLASS MARK`
abbrev pub line_text : Line → List ℕ
line_text l =
    l.path ++ space ∷ decimal l.size ++ space ∷ class_word l.class ++ space ∷ mark_word l.mark ++ line_feed ∷ []

-- `rows N bytes B`
abbrev pub last_line : List Line → List ℕ
last_line ls = codes "rows " ++ decimal (length ls) ++ codes " bytes " ++ decimal (sum_by (λ l. l.size) ls) ++ line_feed ∷ []

abbrev pub table : List Line → List ℕ
table ls = flat_map line_text ls ++ last_line ls
