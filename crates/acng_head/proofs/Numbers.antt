-- The digits of a number: which bytes they lack, and what reads them.
use Rattle.std.proofs.Common.{◌≡◌, ℕ, ◌^◌, ◌<◌, List, [], ◌∷◌, decimal, Result, Ok, sym, ◌∙◌, subst, arith, rules}
use Rattle.std.specs.Int.{IsInRange}
use Rattle.std.specs.Str.{IsUtf8}
use Rattle.std.specs.Str.Parse.{ParsesUnsigned}
use Rattle.std.proofs.lemmas.Str.{IsUtf8-from_ascii}
use Rattle.std.proofs.lemmas.Str.Parse.{IsNumeralModel, numerals_by_value}
use Rattle.std.specs.Str.Parse.{digits_value}
use Rattle.std.proofs.lemmas.Fmt.{IsAscii-decimal, digits_decimal, parse-decimal}
use Rattle.acng_head.specs.Records.{Lacks}

abbrev AreDigits : List ℕ → Type 0
AreDigits [] = Unit {0}
AreDigits (c ∷ cs) = IsInRange 48 57 c × AreDigits cs

own : IsNumeralModel AreDigits (digits_value 10)
own = numerals_by_value AreDigits (search rules)

lacks_low : (byte : ℕ) (ds : List ℕ) → byte < 48 → AreDigits ds → Lacks byte ds
lacks_low byte [] low h = tt
lacks_low byte (c ∷ cs) low h = (λ e. omega (arith, e, h.0.0), lacks_low byte cs low h.1)

-- no control character and no blank stands in a number
pub Lacks-decimal : (byte n : ℕ) → byte < 48 → n < 2 ^ 64 → Lacks byte (decimal n)
Lacks-decimal byte n low small = lacks_low byte (decimal n) low (digits_decimal own n small)

pub IsUtf8-decimal : (n : ℕ) (text : List ℕ) → n < 2 ^ 64 → text ≡ decimal n → IsUtf8 text
IsUtf8-decimal n text small e = subst IsUtf8 (sym e) (IsUtf8-from_ascii (decimal n) (IsAscii-decimal n small))

pub parse_digits : {E : Type 0} (n : ℕ) (text digits : List ℕ) (r : Result ℕ E) → n < 2 ^ 64 → text ≡ decimal n → digits ≡ text
    → ParsesUnsigned 64 10 digits r → r ≡ Ok n
parse_digits n text digits r small e same h = parse-decimal 64 n digits r small small (same ∙ e) h
