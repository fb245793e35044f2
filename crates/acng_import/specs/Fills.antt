-- How a found file is copied into a new body and hashed.
use Rattle.std.specs.Prelude.{◌≡◌, ℕ, ◌<◌, ◌≤◌, ◌^◌, Bool, true, List, length}
use Rattle.sha2.specs.Sha256.{sha256}
use Rattle.acng_base.specs.Causes.{Rose}
use Rattle.acng_base.specs.declared.hash.Hash.{Hash}
use Rattle.acng_keeper.specs.Handles.{Handle}
use Rattle.acng_import.specs.declared.fill.Filled.{Filled}
use Rattle.acng_import.specs.declared.fill.Filled.TheVariants as filled

-- the body is this text, with this hash
pub record IsCopy (tells : Bool) (text : List ℕ) (hash : Hash) (h : Handle) : Type 0 where
  pub size : h.size ≡ length text
  pub hashed : sha256 text ≡ hash.0
  pub bytes : tells ≡ true → h.bytes ≡ text

-- the body is all of some text of at most 2^41 bytes, which is the file's where that is told
pub record IsFilled (told tells : Bool) (file : List ℕ) (hash : Hash) (h : Handle) : Type 0 where
  pub text : List ℕ
  pub copy : IsCopy tells text hash h
  pub small : length text ≤ 2 ^ 41
  pub whole : told ≡ true → text ≡ file

-- what came of it: the file was copied whole, or it is longer than 2^41 bytes, or its reading failed
abbrev pub FilledAs : Bool → Bool → List ℕ → Handle → ℕ → ℕ → Filled → Type 0
FilledAs told tells file h old new (filled.Whole hash) = IsFilled told tells file hash h × (new ≡ old)
FilledAs told tells file h old new filled.TooLong = (told ≡ true → 2 ^ 41 < length file) × (new ≡ old)
FilledAs told tells file h old new filled.Fault = Rose old new
