-- What a reference reads as against the asked URL.
use Rattle.std.proofs.Common.{◌≡◌, List, ℕ, Bool, true, false, ◌&&◌, cond, Option, Some, None, Ok, Err, refl, sym, ◌∙◌, ap}
use Rattle.std.specs.Prelude.{IsUtf8}
use Rattle.std.specs.Str.{is_utf8}
use Rattle.std.proofs.lemmas.Str.{IsUtf8-from_is_utf8, is_utf8-from_IsUtf8}
use Rattle.url.specs.Parts.{Parts}
use Rattle.url.specs.Parser.{Parsed, parse_url, and_then}
use Rattle.acng_site.specs.Places.{read_of, resolved}

-- ---- where one of both isn't a text

first_no : (b c : Bool) (x : Option Parts) → (b ≡ true → ⊥) → cond (b && c) x None ≡ None
first_no true c x no_text = absurd (no_text refl)
first_no false c x no_text = refl

second_no : (b c : Bool) (x : Option Parts) → (c ≡ true → ⊥) → cond (b && c) x None ≡ None
second_no true true x no_text = absurd (no_text refl)
second_no true false x no_text = refl
second_no false c x no_text = refl

pub stray_url : (url reference : List ℕ) → (IsUtf8 url → ⊥) → None ≡ resolved url reference
stray_url url reference no_text = sym (first_no (is_utf8 url) (is_utf8 reference) _ (λ e. no_text (IsUtf8-from_is_utf8 url e)))

pub stray_reference : (url reference : List ℕ) → (IsUtf8 reference → ⊥) → None ≡ resolved url reference
stray_reference url reference no_text =
    sym (second_no (is_utf8 url) (is_utf8 reference) _ (λ e. no_text (IsUtf8-from_is_utf8 reference e)))

-- ---- where both are

both : (b c : Bool) (x : Option Parts) → b ≡ true → c ≡ true → cond (b && c) x None ≡ x
both true true x e f = refl
both true false x e f = absurd (cc)
both false c x e f = absurd (cc)

texts : (url reference : List ℕ) → IsUtf8 url → IsUtf8 reference
    → resolved url reference ≡ read_of (and_then (parse_url None url) (λ base. parse_url (Some base) reference))
texts url reference u r =
    both (is_utf8 url) (is_utf8 reference) _ (is_utf8-from_IsUtf8 url u) (is_utf8-from_IsUtf8 reference r)

against : (p : Parsed Parts) (base : Parts) (next : Parts → Parsed Parts) → Some base ≡ read_of p
    → read_of (and_then p next) ≡ read_of (next base)
against (Ok u) base next e = let same : base ≡ u = cc in ap (λ b. read_of (next b)) (sym same)
against (Err e) base next is = absurd (cc)

against_none : (p : Parsed Parts) (next : Parts → Parsed Parts) → None ≡ read_of p → read_of (and_then p next) ≡ None
against_none (Ok u) next is = absurd (cc)
against_none (Err e) next is = refl

-- the asked URL reads: the reference is read against it
pub follows : (url reference : List ℕ) (base : Parts) (found : Option Parts) → IsUtf8 url → IsUtf8 reference
    → Some base ≡ read_of (parse_url None url) → found ≡ read_of (parse_url (Some base) reference) → found ≡ resolved url reference
follows url reference base found u r is by =
    by ∙ sym (texts url reference u r ∙ against (parse_url None url) base (λ b. parse_url (Some b) reference) is)

-- it doesn't
pub no_base : (url reference : List ℕ) → IsUtf8 url → IsUtf8 reference → None ≡ read_of (parse_url None url) → None ≡ resolved url reference
no_base url reference u r is =
    sym (texts url reference u r ∙ against_none (parse_url None url) (λ b. parse_url (Some b) reference) is)
