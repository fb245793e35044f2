-- The found files.
use Rattle.std.specs.Prelude.{ℕ, List, [], slice_index_or}

-- the bytes of the file at a place
abbrev pub file_at : List (List ℕ) → ℕ → List ℕ
file_at bodies i = slice_index_or bodies i []
