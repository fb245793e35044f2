-- What the fields of a request say. A field is read only where it stands once; one that doesn't read is as if it weren't
-- there.
use Rattle.std.specs.Prelude.{ℕ, ◌+◌, Bool, true, false, ◌&&◌, ◌||◌, not, ◌==◌, List, [], ◌∷◌, take, drop, nat_le, Option, Some}
use Rattle.std.specs.Prelude.{None, option_map, option_and_then, cond, codes, bytes_eq, position}
use Rattle.std.specs.List.{list_any, slice_split}
use Rattle.std.specs.Str.{str_to_ascii_lowercase}
use Rattle.httpdate.specs.Date.{parse_secs}
use Rattle.acng_base.specs.Cuts.{trim, comma}
use Rattle.acng_base.specs.Fields.{length_of}
use Rattle.acng_base.specs.Heads.{values}
use Rattle.acng_base.specs.Numbers.{number_of}
use Rattle.acng_base.specs.declared.clock.Moment.{Moment}
use Rattle.acng_request.specs.declared.got.Part.{Part}

abbrev pub lone : List (List ℕ) → Option (List ℕ)
lone [] = None
lone (v ∷ []) = Some v
lone (v ∷ w ∷ vs) = None

-- the value of the field of this name, where it stands once
abbrev pub value_of : List ℕ → List (List ℕ × List ℕ) → Option (List ℕ)
value_of name fields = lone (values name fields)

-- ---- `Range` (RFC 9110, section 14.1.2)

-- a place in a file: 1 to 19 digits, which are below 2^64
abbrev pub place_of : List ℕ → Option ℕ
place_of text = number_of 19 text

abbrev pub ordered : ℕ → ℕ → Option Part
ordered first last = cond (nat_le first last) (Some (record { from = first; to = Some last })) None

-- from a place on, or up to the last place, not before it
abbrev pub part_from : Option ℕ → List ℕ → Option Part
part_from None last = None
part_from (Some first) [] = Some (record { from = first; to = None })
part_from (Some first) (b ∷ bs) = option_and_then (ordered first) (place_of (b ∷ bs))

abbrev pub hyphen : ℕ
hyphen = 45

-- `K-` or `K-M`
abbrev pub places_of : List ℕ → Option Part
places_of text = option_and_then (λ at. part_from (place_of (take at text)) (drop (at + 1) text)) (position (λ b. b == hyphen) text)

-- `bytes=K-` or `bytes=K-M`
abbrev pub part_of : List ℕ → Option Part
part_of text = cond (bytes_eq (take 6 text) (codes "bytes=")) (places_of (drop 6 text)) None

-- ---- `If-Modified-Since` (RFC 9110, section 13.1.3)

abbrev pub moment_of : List ℕ → Option Moment
moment_of text = option_map (λ secs. record { 0 = secs }) (parse_secs text)

abbrev pub since_unless : List (List ℕ) → Option (List ℕ) → Option Moment
since_unless [] value = option_and_then moment_of value
since_unless (t ∷ ts) value = None

-- the date isn't read where there is an `If-None-Match`
abbrev pub since : List (List ℕ × List ℕ) → Option Moment
since fields = since_unless (values (codes "if-none-match") fields) (value_of (codes "if-modified-since") fields)

-- ---- `Connection` (RFC 9112, section 9.6)

abbrev pub is_close : List ℕ → Bool
is_close word = bytes_eq (str_to_ascii_lowercase (trim word)) (codes "close")

-- one of the words between commas is `close`
abbrev pub says_close : List ℕ → Bool
says_close value = list_any is_close (slice_split (λ b. b == comma) value)

abbrev pub closes : Option (List ℕ) → Bool
closes None = false
closes (Some value) = says_close value

-- ---- what announces a body (RFC 9112, section 6)

abbrev pub is_there : List (List ℕ) → Bool
is_there [] = false
is_there (v ∷ vs) = true

-- a length other than nothing, and no length at all
abbrev pub announces : Option ℕ → Bool
announces None = true
announces (Some n) = not (n == 0)

-- a `Content-Length` whose value isn't nothing: leading zeros count as nothing
abbrev pub is_length : List ℕ × List ℕ → Bool
is_length field = bytes_eq (str_to_ascii_lowercase field.0) (codes "content-length") && announces (length_of field.1)

-- there is a `Transfer-Encoding`, or a `Content-Length` whose value isn't nothing
abbrev pub has_body : List (List ℕ × List ℕ) → Bool
has_body fields = is_there (values (codes "transfer-encoding") fields) || list_any is_length fields
