-- The value of a few digits.
use Rattle.std.proofs.Common.{◌≡◌, ℕ, suc, ◌+◌, ◌*◌, ◌-◌, ◌<◌, ◌≤◌, true, false, ◌&&◌, List, [], ◌∷◌, length, take, nat_lt, refl, ap, ◌∙◌, arith, get_or}
use Rattle.std.specs.List.{list_all}
use Rattle.std.specs.Char.{digit_value, is_ascii_digit}
use Rattle.std.specs.Str.{all_ascii_digits}
use Rattle.std.specs.Str.Parse.{digits_value}
use Rattle.std.proofs.lemmas.Bool.{le-leb}
use Rattle.std.proofs.lemmas.Int.Digits.{digits_value_more}
use Rattle.std.proofs.lemmas.Str.Parse.{IsNumeralModel, numerals_by_value, tells_all_ascii_digits, digits_value_short, digits_value-take-le, digit_at}
use borrow.Author.Tests.{lt-leb}

numerals : IsNumeralModel (λ ds. all_ascii_digits ds ≡ true) (digits_value 10)
numerals = numerals_by_value (λ ds. all_ascii_digits ds ≡ true) tells_all_ascii_digits

all_digits : (ds : List ℕ) → list_all is_ascii_digit ds ≡ true → all_ascii_digits ds ≡ true
all_digits ds h = same ds ∙ h
  where
    same : (ds : List ℕ) → all_ascii_digits ds ≡ list_all is_ascii_digit ds
    same [] = refl
    same (d ∷ ds) = ap (λ b. is_ascii_digit d && b) (same ds)

-- a front of at most 19 digits is small
pub front_small : (ds : List ℕ) (i : ℕ) → length ds ≤ 19 → list_all is_ascii_digit ds ≡ true → digits_value 10 (take i ds) < 10000000000000000000
front_small ds i few h =
    let all = digits_value_short numerals ds 19 (all_digits ds h) few in
    let front = digits_value-take-le 10 ds i (omega arith) in
    omega arith

-- one more digit
pub front_more : (ds : List ℕ) (i : ℕ) → i < length ds → list_all is_ascii_digit ds ≡ true
    → (digits_value 10 (take (i + 1) ds) ≡ digits_value 10 (take i ds) * 10 + (get_or ds i 0 - 48)) × (48 ≤ get_or ds i 0) × (get_or ds i 0 ≤ 57)
front_more ds i lt h =
    let d = get_or ds i 0 in
    let range = digit_at ds i (numerals.to ds (all_digits ds h)) lt in
    let low : nat_lt d 48 ≡ false = lt-leb (suc d) 48 (omega arith) in
    let high : nat_lt d 58 ≡ true = le-leb (suc d) 58 (omega arith) in
    let value : digit_value d ≡ d - 48 = rw (low, high) refl in
    (digits_value_more 10 ds i lt ∙ ap (λ v. digits_value 10 (take i ds) * 10 + v) value, omega arith, omega arith)
