-- Numbers in decimal digits, leading zeros among them.
use Rattle.std.specs.Prelude.{ℕ, Bool, ◌&&◌, nat_lt, nat_le, List, length, cond, Option, Some, None}
use Rattle.std.specs.List.{list_all}
use Rattle.std.specs.Char.{is_ascii_digit}
use Rattle.std.specs.Str.Parse.{digits_value}

-- there is a digit, there are no more than so many, and nothing else
abbrev pub are_digits : ℕ → List ℕ → Bool
are_digits most text = nat_lt 0 (length text) && nat_le (length text) most && list_all is_ascii_digit text

-- the number that 1 to `most` digits write
abbrev pub number_of : ℕ → List ℕ → Option ℕ
number_of most text = cond (are_digits most text) (Some (digits_value 10 text)) None
