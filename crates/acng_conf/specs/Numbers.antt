-- Numbers within bounds, with leading zeros among their digits.
use Rattle.std.specs.Prelude.{ℕ, ◌&&◌, nat_le, List, cond, Option, Some, None, option_and_then}
use Rattle.acng_base.specs.Numbers.{number_of}

-- the number, where it is from `low` to `high`
abbrev pub if_within : ℕ → ℕ → ℕ → Option ℕ
if_within low high n = cond (nat_le low n && nat_le n high) (Some n) None

-- the number from `low` to `high` that 1 to `most` digits write
abbrev pub number_within : ℕ → ℕ → ℕ → List ℕ → Option ℕ
number_within most low high text = option_and_then (if_within low high) (number_of most text)
