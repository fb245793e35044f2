-- What the fields of a head say is bounded: places of a range by 2^41, dates by the year 10000.
use Rattle.std.proofs.Common.{◌≡◌, ◌≤◌, ◌<◌, ◌^◌, ◌&&◌, ℕ, Bool, true, false, List, Option, Some, None, IfSome, cond, nat_le, nat_lt}
use Rattle.std.proofs.Common.{length, option_map, option_and_then, if◌then◌else◌, bytes_eq, take, drop, codes, refl, arith}
use Rattle.std.specs.List.{list_all}
use Rattle.std.specs.Char.{is_ascii_digit}
use Rattle.std.specs.Str.Parse.{digits_value}
use Rattle.std.proofs.lemmas.Bool.{leb-true}
use Rattle.httpdate.specs.declared.parts.Parts.{Parts}
use Rattle.httpdate.specs.Valid.{is_valid, parts_secs}
use Rattle.httpdate.specs.Date.{parse_secs, valid_secs}
use Rattle.httpdate.specs.Reader.{parse}
use Rattle.httpdate.proofs.ValidLemmas.{is_valid_sound}
use Rattle.httpdate.proofs.CalendarLemmas.{days_from_civil_bound}
use Rattle.acng_base.specs.declared.clock.Moment.{Moment}
use Rattle.acng_base.specs.Heads.{Head, at_byte}
use Rattle.acng_base.specs.Moments.{moment_limit}
use Rattle.acng_base.specs.Fields.{field, length_of, leads_with_zero, plain_number, range_by, range_at, range_of, content_range}
use Rattle.acng_grow.specs.Keeps.{IsDated, most_bytes}
use Rattle.acng_grow.specs.Download.{facts_of}

-- ---- ranges

abbrev Small : Option ℕ → Type 0
Small o = IfSome o (λ n. n ≤ most_bytes)

length_small : (text : List ℕ) → Small (length_of text)
length_small text =
    cases (nat_lt 0 (length text) && nat_le (length text) 13 && list_all is_ascii_digit text) (nat_le (digits_value 10 text) (2 ^ 41)) refl
  where
    cases : (a b : Bool) → nat_le (digits_value 10 text) (2 ^ 41) ≡ b → Small (cond (a && b) (Some (digits_value 10 text)) None)
    cases true true e = leb-true (digits_value 10 text) (2 ^ 41) e
    cases true false e = tt
    cases false b e = tt

plain_small : (text : List ℕ) → Small (plain_number text)
plain_small text = cases (leads_with_zero text)
  where
    cases : (b : Bool) → Small (cond b None (length_of text))
    cases true = tt
    cases false = length_small text

abbrev SmallTotal : Option (ℕ × ℕ × ℕ) → Type 0
SmallTotal o = IfSome o (λ r. r.2 ≤ most_bytes)

by_small : (a b t : Option ℕ) → Small t → SmallTotal (range_by a b t)
by_small None b t s = tt
by_small (Some a) None t s = tt
by_small (Some a) (Some b) None s = tt
by_small (Some a) (Some b) (Some t) s = cases (nat_le a b && nat_lt b t)
  where
    cases : (x : Bool) → SmallTotal (cond x (Some (a, b, t)) None)
    cases true = s
    cases false = tt

at_small : (text : List ℕ) → SmallTotal (range_at text)
at_small text =
    let first = at_byte 45 text in
    let second = at_byte 47 first.1 in
    by_small (plain_number first.0) (plain_number second.0) (plain_number second.1) (plain_small second.1)

text_small : (text : List ℕ) → SmallTotal (range_of text)
text_small text = cases (bytes_eq (take 6 text) (codes "bytes "))
  where
    cases : (b : Bool) → SmallTotal (cond b (range_at (drop 6 text)) None)
    cases true = at_small (drop 6 text)
    cases false = tt

pub range_small : (h : Head) → SmallTotal (content_range h)
range_small h = cases (field (codes "content-range") h)
  where
    cases : (o : Option (List ℕ)) → SmallTotal (option_and_then range_of o)
    cases None = tt
    cases (Some text) = text_small text

-- ---- dates

abbrev Dated : Option ℕ → Type 0
Dated o = IfSome o (λ n. n < moment_limit)

valid_dated : (p : Parts) → Dated (valid_secs p)
valid_dated p = cases (is_valid p) refl
  where
    cases : (b : Bool) → is_valid p ≡ b → Dated (if b then Some (parts_secs p) else None)
    cases true e =
        let v = is_valid_sound p e in
        let d = days_from_civil_bound p.year p.mon p.day v.0 in
        omega (arith, d, v.1.0, v.1.1, v.1.2)
    cases false e = tt

secs_dated : (text : List ℕ) → Dated (parse_secs text)
secs_dated text = cases (parse text)
  where
    cases : (o : Option Parts) → Dated (option_and_then valid_secs o)
    cases None = tt
    cases (Some p) = valid_dated p

pub facts_dated : (h : Head) → IsDated (facts_of h)
facts_dated h = cases (field (codes "last-modified") h)
  where
    moments : (o : Option ℕ) → Dated o → IfSome {T = Moment} (option_map (λ s. record { 0 = s }) o) (λ m. m.0 < moment_limit)
    moments None d = tt
    moments (Some s) d = d

    cases : (o : Option (List ℕ))
        → IfSome {T = Moment} (option_map (λ s. record { 0 = s }) (option_and_then parse_secs o)) (λ m. m.0 < moment_limit)
    cases None = tt
    cases (Some text) = moments (parse_secs text) (secs_dated text)
