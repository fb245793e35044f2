-- A name is its prefix and its digits, and the digits of an id are read as that id.
use Rattle.std.proofs.Common.{◌≡◌, ℕ, zero, suc, ◌<◌, ◌^◌, true, List, ◌++◌, length, take, drop, Result, Ok, Err, ap, sym, refl, ◌∙◌, arith}
use Rattle.std.specs.Int.{w64, byte_at, bytes_high_first, to_be_bytes, from_be_bytes}
use Rattle.std.specs.Str.{bytes_eq}
use Rattle.std.proofs.lemmas.List.{take-append-drop}
use Rattle.std.proofs.lemmas.Nat.{from_be_bytes-to_be_bytes_8}
use Rattle.std.proofs.lemmas.Slice.Eq.{bytes_eq-Decides}
use Rattle.hex.specs.declared.error.FromHexError.{FromHexError}
use Rattle.hex.specs.Hex.{IsBytes, decode_sized}
use Rattle.hex.proofs.HexLemmas.{decode_sized-encode_lower}
use Rattle.acng_keeper.specs.Names.{digits_of}

pub spelled : (name front prefix digits text : List ℕ) → bytes_eq (take (length front) name) front ≡ true
    → digits ≡ drop (length front) name → front ≡ prefix → digits ≡ text → name ≡ prefix ++ text
spelled name front prefix digits text starts rest is same =
    sym (take-append-drop (length front) name)
    ∙ ap (λ t. t ++ drop (length front) name) ((bytes_eq-Decides (take (length front) name) front).0 starts ∙ is)
    ∙ ap (λ t. prefix ++ t) (sym rest ∙ same)

byte_small : (k n : ℕ) → byte_at k n < 256
byte_small zero n = omega arith
byte_small (suc k) n = omega arith

high_bytes : (k n : ℕ) → IsBytes (bytes_high_first k n)
high_bytes zero n i = omega arith
high_bytes (suc k) n zero = byte_small k n
high_bytes (suc k) n (suc i) = high_bytes k n i

-- what the digits of an id decode to
decoded : (i : ℕ) (digits : List ℕ) (r : Result (List ℕ) FromHexError) → r ≡ decode_sized digits 8 → digits ≡ digits_of i
    → r ≡ Ok (to_be_bytes w64 i)
decoded i digits r is same = is ∙ ap (λ d. decode_sized d 8) same ∙ decode_sized-encode_lower (to_be_bytes w64 i) 8 refl (high_bytes 8 i)

pub no_error : (i : ℕ) (digits : List ℕ) (r : Result (List ℕ) FromHexError) (e : FromHexError) → r ≡ decode_sized digits 8
    → digits ≡ digits_of i → r ≡ Err e → ⊥
no_error i digits r e is same failed = let d = decoded i digits r is same in cc

ok_same : (a b : List ℕ) (r : Result (List ℕ) FromHexError) → r ≡ Ok a → r ≡ Ok b → a ≡ b
ok_same a b r x y = cc

pub same_id : (i id : ℕ) (digits bytes : List ℕ) (r : Result (List ℕ) FromHexError) → i < 2 ^ 63 → r ≡ decode_sized digits 8
    → digits ≡ digits_of i → r ≡ Ok bytes → id ≡ from_be_bytes w64 bytes → id ≡ i
same_id i id digits bytes r small is same read value =
    let bytes_are : bytes ≡ to_be_bytes w64 i = ok_same bytes (to_be_bytes w64 i) r read (decoded i digits r is same) in
    value ∙ ap (from_be_bytes w64) bytes_are ∙ from_be_bytes-to_be_bytes_8 i (omega (arith, small))
