-- The printed lines of an import: this project's own texts.
use Rattle.std.specs.Prelude.{ℕ, List, [], ◌∷◌, ◌++◌, map, length, cond, codes, decimal}
use Rattle.acng_base.specs.Paths.{is_path_byte}
use Rattle.acng_import.specs.declared.ending.FileEnd.{FileEnd}
use Rattle.acng_import.specs.declared.ending.FileEnd.TheVariants.{FindFault, TooLong, Unknown, Held, Full, Kept}
use Rattle.acng_import.specs.declared.ending.Imported.{Imported}
use Rattle.acng_import.specs.declared.ending.Imported.TheVariants as imported

-- a byte of a name that isn't a printed character, or is a blank, is a question mark
abbrev pub shown_byte : ℕ → ℕ
shown_byte b = cond (is_path_byte b) b 63

abbrev pub shown : List ℕ → List ℕ
shown name = map shown_byte name

-- what became of a file, with the number of paths that have it now
abbrev pub end_text : FileEnd → List ℕ
end_text FindFault = codes "fault "
end_text TooLong = codes "toolong "
end_text (Unknown hash) = codes "unknown "
end_text Held = codes "held "
end_text Full = codes "full "
end_text (Kept paths) = codes "kept " ++ (decimal (length paths) ++ codes " ")

abbrev pub line : FileEnd → List ℕ → List ℕ
line e name = end_text e ++ (shown name ++ 10 ∷ [])

-- a line for each file that came to its end
abbrev pub lines : List FileEnd → List (List ℕ) → List ℕ
lines [] names = []
lines (e ∷ es) [] = []
lines (e ∷ es) (name ∷ names) = line e name ++ lines es names

-- and one more where the import was stopped
abbrev pub import_text : {P : Type 0} → List (List ℕ) → Imported P → List ℕ
import_text names (imported.Done es) = lines es names
import_text names (imported.Stopped slip es) = lines es names ++ codes "stopped\n"
import_text names (imported.Worn es) = lines es names ++ codes "worn\n"
import_text names imported.NoMemory = []
