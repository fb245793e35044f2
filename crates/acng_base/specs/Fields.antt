-- What the fields of an answer's head say, each as a function of the head (RFC 9110).
use Rattle.std.specs.Prelude.{ℕ, ◌^◌, Bool, false, ◌&&◌, ◌==◌, List, [], ◌∷◌, length, take, drop, slice_index, cond, codes, nat_le, nat_lt, bytes_eq, Option, Some, None, option_map, option_and_then}
use Rattle.std.specs.List.{list_all}
use Rattle.std.specs.Char.{is_ascii_digit}
use Rattle.std.specs.Str.Parse.{digits_value}
use Rattle.httpdate.specs.Date.{parse_secs}
use Rattle.acng_base.specs.declared.clock.Moment.{Moment}
use Rattle.acng_base.specs.Heads.{Head, at_byte, values}
use Rattle.acng_base.specs.Tags.{is_tag}

-- the one element of a list
abbrev pub only : List (List ℕ) → Option (List ℕ)
only [] = None
only (v ∷ []) = Some v
only (v ∷ w ∷ vs) = None

-- the value of the field of this name, where it stands once; else it is as if the field weren't there
abbrev pub field : List ℕ → Head → Option (List ℕ)
field name h = only (values name h.fields)

-- ---- numbers

-- a length: 1 to 13 digits, up to 2^41 (section 8.6; the limits are this project's)
abbrev pub length_of : List ℕ → Option ℕ
length_of text =
    cond (nat_lt 0 (length text) && nat_le (length text) 13 && list_all is_ascii_digit text && nat_le (digits_value 10 text) (2 ^ 41))
    (Some (digits_value 10 text))
    None

-- whether a value gives this length
abbrev pub gives : ℕ → Option ℕ → Bool
gives n None = false
gives n (Some m) = n == m

-- the length that each of the values gives
abbrev pub agreed : List (List ℕ) → Option ℕ
agreed [] = None
agreed (v ∷ vs) = option_and_then (λ n. cond (list_all (λ w. gives n (length_of w)) vs) (Some n) None) (length_of v)

-- a zero before another digit
abbrev pub leads_with_zero : List ℕ → Bool
leads_with_zero text = nat_lt 1 (length text) && slice_index text 0 == 48

-- the same without leading zeros
abbrev pub plain_number : List ℕ → Option ℕ
plain_number text = cond (leads_with_zero text) None (length_of text)

-- ---- ranges (section 14.4)

-- first place, last place and total, where A <= B < T <= 2^41
abbrev pub range_by : Option ℕ → Option ℕ → Option ℕ → Option (ℕ × ℕ × ℕ)
range_by None b t = None
range_by (Some a) None t = None
range_by (Some a) (Some b) None = None
range_by (Some a) (Some b) (Some t) = cond (nat_le a b && nat_lt b t) (Some (a, b, t)) None

-- the range that `A-B/T` writes
abbrev pub range_at : List ℕ → Option (ℕ × ℕ × ℕ)
range_at text =
    let first = at_byte 45 text in
    let second = at_byte 47 first.1 in
    range_by (plain_number first.0) (plain_number second.0) (plain_number second.1)

-- the range that `bytes A-B/T` writes
abbrev pub range_of : List ℕ → Option (ℕ × ℕ × ℕ)
range_of text = cond (bytes_eq (take 6 text) (codes "bytes ")) (range_at (drop 6 text)) None

-- `Content-Range`
abbrev pub content_range : Head → Option (ℕ × ℕ × ℕ)
content_range h = option_and_then range_of (field (codes "content-range") h)

-- ---- tag, date and Location

-- `ETag`, where it is strong (section 8.8.3)
abbrev pub tag_of : Head → Option (List ℕ)
tag_of h = option_and_then (λ v. cond (is_tag v) (Some v) None) (field (codes "etag") h)

-- `Last-Modified`, as a moment (section 8.8.2)
abbrev pub modified_of : Head → Option Moment
modified_of h = option_map (λ s. record { 0 = s }) (option_and_then parse_secs (field (codes "last-modified") h))

-- `Location`, as it stands (section 10.2.2)
abbrev pub location_of : Head → Option (List ℕ)
location_of h = field (codes "location") h
