-- A path of the cache is ASCII, and so a text.
use Rattle.std.proofs.Common.{◌≡◌, ℕ, ◌+◌, ◌<◌, Bool, true, false, not, ◌&&◌, List, [], ◌∷◌, Option, Some, None, cond, refl, sym, ◌∙◌, All, nat_le, arith}
use Rattle.std.specs.List.{position_from}
use Rattle.std.specs.Option.{option_or, option_map}
use Rattle.std.specs.Str.{IsUtf8}
use Rattle.std.proofs.lemmas.Bool.{leb-true}
use Rattle.std.proofs.lemmas.Iterator.Adapters.{position_from-zero}
use Rattle.std.proofs.lemmas.List.Elements.{All-nil, All-cons}
use Rattle.std.proofs.lemmas.Str.{IsUtf8-from_ascii}
use Rattle.std.proofs.lemmas.Str.Ascii.{IsAscii-from_all}
use Rattle.acng_base.specs.Paths.{path_refusal, is_path_byte}
use Rattle.acng_base.specs.declared.path.PathFault.{PathFault}
use Rattle.acng_base.specs.declared.path.PathFault.TheVariants.{BadByte}

abbrev not_path_byte : ℕ → Bool
not_path_byte b = not (is_path_byte b)

small : (b : ℕ) → not_path_byte b ≡ false → b < 128
small b h = cases (nat_le 0x21 b) (nat_le b 0x7E) refl h
  where
    cases : (low high : Bool) → nat_le b 0x7E ≡ high → not (low && high) ≡ false → b < 128
    cases true true e h = omega (arith, leb-true b 0x7E e)
    cases true false e h = cc
    cases false high e h = cc

-- where no byte is found that a path doesn't have, each is ASCII
all_small : (text : List ℕ) (i : ℕ) → position_from not_path_byte i text ≡ None → All (λ b. b < 128) text
all_small [] i h = All-nil (λ b. b < 128)
all_small (b ∷ bs) i h = cases (not_path_byte b) refl h (all_small bs (i + 1))
  where
    cases : (t : Bool) → not_path_byte b ≡ t → cond t (Some i) (position_from not_path_byte (i + 1) bs) ≡ None
        → (position_from not_path_byte (i + 1) bs ≡ None → All (λ b. b < 128) bs) → All (λ b. b < 128) (b ∷ bs)
    cases true t e again = cc
    cases false t e again = All-cons (λ b. b < 128) b bs (small b t) (again e)

-- a list of refusals that gives none has none in its third place
third : (a b c d : Option PathFault) → option_or a (option_or b (option_or c d)) ≡ None → c ≡ None
third None None None d h = refl
third None None (Some x) d h = cc
third None (Some x) c d h = cc
third (Some x) b c d h = cc

unmapped : (o : Option ℕ) → option_map BadByte o ≡ None → o ≡ None
unmapped None h = refl
unmapped (Some x) h = cc

pub path_is_text : (path : List ℕ) → path_refusal path ≡ None → IsUtf8 path
path_is_text path h =
    let c = third _ _ _ _ h in
    IsUtf8-from_ascii path (IsAscii-from_all path (all_small path 0 (sym (position_from-zero not_path_byte path) ∙ unmapped _ c)))
