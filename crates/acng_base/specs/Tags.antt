-- Which texts are strong entity tags (RFC 9110, section 8.8.3), as far as the proxy takes them.
use Rattle.std.specs.Prelude.{ℕ, ◌-◌, Bool, ◌&&◌, ◌||◌, ◌==◌, nat_le, List, length, slice_index, slice_range}
use Rattle.std.specs.List.{list_all}

-- a byte between the quotes: a printed ASCII character other than the quote
abbrev pub is_tag_byte : ℕ → Bool
is_tag_byte b = b == 0x21 || (nat_le 0x23 b && nat_le b 0x7E)

-- a quote, such bytes, and a quote; at most 256 bytes. A weak tag, which begins with `W/`, is none.
abbrev pub is_tag : List ℕ → Bool
is_tag text =
    nat_le 2 (length text) && nat_le (length text) 256 && slice_index text 0 == 34 && slice_index text (length text - 1) == 34
    && list_all is_tag_byte (slice_range text 1 (length text - 1))
