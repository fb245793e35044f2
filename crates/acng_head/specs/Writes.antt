-- A text written into a buffer.
use Rattle.std.specs.Prelude.{◌≡◌, ℕ, ◌+◌, List, ◌++◌, length, take, drop}

-- the text was put at one place, and the next place is its end; what stands before and after is as it was
pub record Puts (old new : List ℕ) (at end : ℕ) (text : List ℕ) : Type 0 where
  pub end_is : end ≡ at + length text
  pub front : take end new ≡ take at old ++ text
  pub after : drop end new ≡ drop end old
  pub len : length new ≡ length old
