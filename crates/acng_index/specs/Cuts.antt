-- A text's first line, and what follows it.
use Rattle.std.specs.Prelude.{◌≡◌, ◌≢◌, ◌≤◌, ◌<◌, ℕ, ◌+◌, Bool, false, List, [], ◌∷◌, length, take, drop, codes, Result, Ok, Err}
use Rattle.acng_index.specs.Packages.{begins_as}
use Rattle.acng_index.specs.Frames.{lines_of, hashes, Framed}
use Rattle.acng_index.specs.declared.frame.Inside.{Inside}
use Rattle.acng_index.specs.declared.fault.IndexFault.{IndexFault}
use Rattle.acng_index.specs.declared.fault.IndexFault.TheVariants.{NoMemory}

-- the first line has so many bytes
pub record HasLine (text : List ℕ) (len : ℕ) : Type 0 where
  pub within : len ≤ length text
  pub parts : lines_of text ≡ take len text ∷ lines_of (drop (len + 1) text)

-- the first line begins with `Hash:`
abbrev pub begins_hash : List (List ℕ) → Bool
begins_hash [] = false
begins_hash (l ∷ ls) = begins_as (codes "Hash:") l

-- the first line has so many bytes, and begins with `Hash:`
pub record HasHashLine (text : List ℕ) (len : ℕ) : Type 0 where
  pub some : 0 < length text
  pub within : len ≤ length text
  pub skips : (n : ℕ) → hashes n (lines_of text) ≡ hashes (n + 1) (lines_of (drop (len + 1) text))

abbrev pub GivesFramed : Result Framed IndexFault → Result Inside IndexFault → Type 0
GivesFramed expected (Ok f) = expected ≡ Ok (record { first = f.first; text = f.text.items })
GivesFramed expected (Err f) = f ≢ NoMemory → expected ≡ Err f
