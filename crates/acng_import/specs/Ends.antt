-- What a caller asks of the ends of found files.
use Rattle.std.specs.Prelude.{Bool, true, false, List, []}
use Rattle.std.specs.List.{list_any}
use Rattle.acng_import.specs.declared.ending.FileEnd.{FileEnd}
use Rattle.acng_import.specs.declared.ending.FileEnd.TheVariants.{FindFault, TooLong, Unknown, Held, Full, Kept}
use Rattle.acng_import.specs.declared.ending.Imported.{Imported}
use Rattle.acng_import.specs.declared.ending.Imported.TheVariants as imported

-- a read of the file failed
abbrev pub is_fault : FileEnd → Bool
is_fault FindFault = true
is_fault TooLong = false
is_fault (Unknown hash) = false
is_fault Held = false
is_fault Full = false
is_fault (Kept paths) = false

-- the file is too long, or there was room for no further path
abbrev pub is_left_out : FileEnd → Bool
is_left_out FindFault = false
is_left_out TooLong = true
is_left_out (Unknown hash) = false
is_left_out Held = false
is_left_out Full = true
is_left_out (Kept paths) = false

abbrev pub has_fault : List FileEnd → Bool
has_fault es = list_any is_fault es

abbrev pub has_left_out : List FileEnd → Bool
has_left_out es = list_any is_left_out es

-- the ends of an import; none where memory was refused
abbrev pub ends_in : {P : Type 0} → Imported P → List FileEnd
ends_in (imported.Done es) = es
ends_in (imported.Stopped slip es) = es
ends_in (imported.Worn es) = es
ends_in imported.NoMemory = []
