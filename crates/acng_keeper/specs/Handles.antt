-- A body's handle, as contracts see it.
use Rattle.std.specs.Prelude.{◌≡◌, ℕ, ◌+◌, Bool, true, false, List, [], ◌++◌, length}
use Rattle.acng_keeper.specs.declared.folder_file.Data.{Data}
use Rattle.acng_keeper.specs.declared.folder_file.Data.TheVariants.{Written, Synced, Lost}

pub record Handle : Type 0 where
  -- the id with which the keeper gave it
  pub number : ℕ
  pub size : ℕ
  -- known only where the body tells
  pub bytes : List ℕ
  -- the body isn't sealed, and no seal of it was refused
  pub writable : Bool

-- the piece was put at the end
pub record Appended (tells : Bool) (piece : List ℕ) (old new : Handle) : Type 0 where
  pub number : new.number ≡ old.number
  pub size : new.size ≡ old.size + length piece
  pub bytes : tells ≡ true → new.bytes ≡ old.bytes ++ piece
  pub writable : new.writable ≡ true

-- a new body
abbrev pub fresh : ℕ → Handle
fresh id = record { number = id; size = 0; bytes = []; writable = true }

-- the same body, not to be written again
abbrev pub closed : Handle → Handle
closed h = record { number = h.number; size = h.size; bytes = h.bytes; writable = false }

-- the system refused to put the data on the disk
abbrev pub is_lost : Data → Bool
is_lost Written = false
is_lost Synced = false
is_lost Lost = true
