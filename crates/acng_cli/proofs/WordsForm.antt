-- What `clap`'s tests of the command line come to.
use Rattle.std.proofs.Common.{◌≡◌, inl, inr, ◌∙◌, ◌&&◌, ◌<◌, ℕ, pos, ◌≤ℤ◌, List, [], ◌∷◌, length, slice_index_or, Err, Bool, true, false, cond, Some, None, refl, ap, sym, FitsSigned, w64}
use mathlib.Core.Bool.{true≢false}
use Rattle.std.specs.List.{list_all}
use Rattle.std.specs.Str.{IsUtf8, is_utf8}
use Rattle.std.proofs.lemmas.Str.{IsUtf8-from_is_utf8}
use Rattle.std.proofs.lemmas.List.Folds.{list_all_at}
use Rattle.std.specs.Str.Parse.{IsNumeral, signed_digits_value, without_leading_sign}
use Rattle.std.proofs.lemmas.Bool.{false_from_ne_true}
use Rattle.clap.specs.Words.{is_simple, is_simple_and_free}
use Rattle.clap.specs.ValueTests.{accepts}
use Rattle.clap.proofs.ValueTestLemmas.{accepts-Accepts, Accepts-accepts}
use Rattle.clap.specs.Words.{Kinds, HasKind, kind_of}
use Rattle.clap.specs.declared.error.Error.{Error}
use Rattle.clap.specs.declared.error.kind.ErrorKind.TheVariants.{OutOfMemory}
use Rattle.acng_cli.specs.declared.words.WordsFault.TheVariants.{NotRead}
use Rattle.acng_cli.specs.Words.{words_app, words_fault, number_parser, number_of, is_none, is_taken, said_by, words_of}
use lib.IntN.{nat_abs}

pub simple : is_simple words_app ≡ true
simple = refl

pub simple_and_free : is_simple_and_free words_app ≡ true
simple_and_free = refl

-- a text that is no number of 64 bits is none
pub no_number : (text : List ℕ) → (IsNumeral 10 (without_leading_sign text) × FitsSigned w64 (signed_digits_value 10 text) → ⊥) → number_of text ≡ None
no_number text bad =
    ap (λ (t : Bool). cond t (Some (nat_abs (signed_digits_value 10 text))) None)
    (false_from_ne_true (accepts false number_parser text) (λ e. bad ((accepts-Accepts false number_parser text e).0, (accepts-Accepts false number_parser text e).1)))

-- one within is
pub number_within : (text : List ℕ) → IsNumeral 10 (without_leading_sign text) × FitsSigned w64 (signed_digits_value 10 text)
    → pos 1 ≤ℤ signed_digits_value 10 text → signed_digits_value 10 text ≤ℤ pos 20000 → number_of text ≡ Some (nat_abs (signed_digits_value 10 text))
number_within text good low high =
    ap (λ (t : Bool). cond t (Some (nat_abs (signed_digits_value 10 text))) None) (Accepts-accepts false number_parser text (good.0, good.1, low, high))

-- ---- words that aren't taken

untaken : (words : List (List ℕ)) → is_taken words ≡ false → words_of words ≡ Err NotRead
untaken words e = ap (λ (t : Bool). cond t (said_by words) (Err NotRead)) e

not_none : (kinds : Kinds) → (kinds ≡ [] → ⊥) → is_none kinds ≡ false
not_none [] e = absurd (e refl)
not_none (kind ∷ kinds) e = refl

and_false : (b : Bool) → (b && false) ≡ false
and_false true = refl
and_false false = refl

-- the form refuses them
pub out_of_form : (words : List (List ℕ)) → (words_fault words ≡ [] → ⊥) → words_of words ≡ Err NotRead
out_of_form words e =
    untaken words (ap (λ (t : Bool). list_all is_utf8 words && t) (not_none (words_fault words) e) ∙ and_false (list_all is_utf8 words))

-- a word isn't UTF-8
pub not_text : (words : List (List ℕ)) (i : ℕ) (d : List ℕ) → i < length words → (IsUtf8 (slice_index_or words i d) → ⊥) → words_of words ≡ Err NotRead
not_text words i d there e =
    untaken words (ap (λ (t : Bool). t && is_none (words_fault words))
    (list_all_at is_utf8 words i d there (false_from_ne_true (is_utf8 (slice_index_or words i d)) (λ t. e (IsUtf8-from_is_utf8 (slice_index_or words i d) t)))))

-- an error for another cause than memory has a kind
pub some_kind : (kinds : Kinds) (e : Error) → HasKind kinds e → (kind_of e ≡ OutOfMemory → ⊥) → kinds ≡ [] → ⊥
some_kind [] e (inl memory) other none = other memory
some_kind [] e (inr among) other none = among
some_kind (kind ∷ kinds) e has other none = absurd (true≢false (sym (ap is_none none)))
