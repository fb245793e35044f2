-- The values of a head lie inside their lines: none has a line feed.
use Rattle.std.proofs.Common.{◌≡◌, ◌≢◌, ℕ, zero, suc, ◌+◌, ◌-◌, ◌/◌, ◌%◌, ◌^◌, ◌<◌, ◌≤◌, ◌==◌, Bool, true, false, not}
use Rattle.std.proofs.Common.{List, [], ◌∷◌, ◌++◌, Option, Some, None, cond, decimal, codes, length, get_or, take, refl}
use Rattle.std.proofs.Common.{sym, ap, ◌∙◌, subst, arith}
use Rattle.std.specs.List.{list_all, position, position_from}
use Rattle.std.specs.Option.{IfSome, option_or, option_map}
use Rattle.std.proofs.lemmas.Bool.{and_parts, eqb-true, leb-true, false≢true}
use Rattle.std.proofs.lemmas.Iterator.Adapters.{position_from-zero}
use Rattle.hex.specs.Hex.{encode_with, encode_lower, lower_digits}
use Rattle.acng_base.specs.Paths.{path_refusal, is_path_byte}
use Rattle.acng_base.specs.Tags.{is_tag, is_tag_byte}
use Rattle.acng_base.specs.declared.clock.Moment.{Moment}
use Rattle.acng_head.specs.declared.head.Head.{Head}
use Rattle.acng_head.specs.declared.head.Label.{Label}
use Rattle.acng_head.specs.declared.head.Label.TheVariants.{Fetched, Imported}
use Rattle.acng_base.specs.Moments.{moment_limit}
use Rattle.acng_head.specs.Records.{Lacks, AreValues, values_of, origin_text, moment_text, IsBoundedLabel, IsHead}
use Rattle.acng_head.proofs.Numbers.{Lacks-decimal}

Lacks-append : (byte : ℕ) (xs ys : List ℕ) → Lacks byte xs → Lacks byte ys → Lacks byte (xs ++ ys)
Lacks-append byte [] ys hx hy = hy
Lacks-append byte (x ∷ xs) ys hx hy = (hx.0, Lacks-append byte xs ys hx.1 hy)

-- by a test that fails at the byte
lacks_by : (byte : ℕ) (p : ℕ → Bool) → p byte ≡ false → (xs : List ℕ) → list_all p xs ≡ true → Lacks byte xs
lacks_by byte p fails [] h = tt
lacks_by byte p fails (x ∷ xs) h =
    let parts = and_parts (p x) (list_all p xs) h in
    (λ e. false≢true (sym fails ∙ ap p (sym e) ∙ parts.0), lacks_by byte p fails xs parts.1)

-- ---- hashes

lacks_at : (xs : List ℕ) → Lacks 10 xs → (k : ℕ) → get_or xs k 0 ≢ 10
lacks_at [] h k = λ e. omega arith
lacks_at (x ∷ xs) h zero = h.0
lacks_at (x ∷ xs) h (suc k) = lacks_at xs h.1 k

lower : Lacks 10 lower_digits
lower = lacks_by 10 (λ b. not (b == 10)) refl lower_digits refl

pub Lacks-hex : (bytes : List ℕ) → Lacks 10 (encode_lower bytes)
unfolding encode_with
Lacks-hex [] = tt
Lacks-hex (b ∷ rest) = (lacks_at lower_digits lower (b / 16), (lacks_at lower_digits lower (b % 16), Lacks-hex rest))

-- ---- paths

or_none : {T : Type 0} (a b : Option T) → option_or a b ≡ None → (a ≡ None) × (b ≡ None)
or_none None b h = (refl, h)
or_none (Some x) b h = cc

map_none : {T U : Type 0} (f : T → U) (a : Option T) → option_map f a ≡ None → a ≡ None
map_none f None h = refl
map_none f (Some x) h = cc

path_bytes : (i : ℕ) (text : List ℕ) → position_from (λ b. not (is_path_byte b)) i text ≡ None → Lacks 10 text
path_bytes i [] h = tt
path_bytes i (b ∷ bs) h = cases (is_path_byte b) refl h (path_bytes (i + 1) bs)
  where
    cases : (t : Bool) → is_path_byte b ≡ t → cond (not t) (Some i) (position_from (λ b. not (is_path_byte b)) (i + 1) bs) ≡ None
        → (position_from (λ b. not (is_path_byte b)) (i + 1) bs ≡ None → Lacks 10 bs) → Lacks 10 (b ∷ bs)
    cases true t h again = (λ e. false≢true (ap is_path_byte (sym e) ∙ t), again h)
    cases false t h again = cc

pub Lacks-path : (text : List ℕ) → path_refusal text ≡ None → Lacks 10 text
Lacks-path text h =
    let a = or_none _ _ h in
    let b = or_none _ _ a.1 in
    let c = or_none _ _ b.1 in
    let p : position (λ b. not (is_path_byte b)) text ≡ None = map_none _ _ c.0 in
    path_bytes 0 text (sym (position_from-zero (λ b. not (is_path_byte b)) text) ∙ p)

-- ---- tags

lacks_last : (byte : ℕ) (xs : List ℕ) (n : ℕ) → suc n ≡ length xs → Lacks byte (take n xs) → get_or xs n 0 ≢ byte → Lacks byte xs
lacks_last byte [] n e h l = tt
lacks_last byte (x ∷ []) n e h l = let z : n ≡ 0 = omega arith in (subst (λ k. get_or (x ∷ []) k 0 ≢ byte) z l, tt)
lacks_last byte (x ∷ y ∷ xs) zero e h l = absurd (omega arith)
lacks_last byte (x ∷ y ∷ xs) (suc n) e h l = (h.0, lacks_last byte (y ∷ xs) n (omega arith) h.1 l)

pub Lacks-tag : (text : List ℕ) → is_tag text ≡ true → Lacks 10 text
Lacks-tag [] h = absurd (false≢true h)
Lacks-tag (b ∷ bs) h =
    let e = and_parts _ _ h in
    let d = and_parts _ _ e.0 in
    let c = and_parts _ _ d.0 in
    let a = and_parts _ _ c.0 in
    let two : 2 ≤ length (b ∷ bs) = leb-true _ _ a.0 in
    let first : b ≡ 34 = eqb-true _ _ c.1 in
    let n = length bs - 1 in
    let at : length (b ∷ bs) - 1 ≡ suc n = omega arith in
    let upto : (length (b ∷ bs) - 1) - 1 ≡ n = omega arith in
    let last : get_or bs n 0 ≡ 34 = sym (ap (λ k. get_or (b ∷ bs) k 0) at) ∙ eqb-true _ _ d.1 in
    let inner : list_all is_tag_byte (take n bs) ≡ true = sym (ap (λ k. list_all is_tag_byte (take k bs)) upto) ∙ e.1 in
    (λ z. omega arith, lacks_last 10 bs n (omega arith) (lacks_by 10 is_tag_byte refl (take n bs) inner) (λ z. omega arith))

-- ---- heads

Lacks-origin : (bytes : ℕ) (l : Label) → IsBoundedLabel bytes l → Lacks 10 (origin_text l)
Lacks-origin bytes (Fetched first last) h =
    Lacks-append 10 (codes "fetched ") _ (lacks_by 10 (λ b. not (b == 10)) refl (codes "fetched ") refl)
    (Lacks-append 10 (decimal first) _ (Lacks-decimal 10 first (omega arith) (omega arith))
    (λ e. omega arith, Lacks-decimal 10 last (omega arith) (omega arith)))
Lacks-origin bytes (Imported sha256 size) h =
    Lacks-append 10 (codes "imported ") _ (lacks_by 10 (λ b. not (b == 10)) refl (codes "imported ") refl) (Lacks-hex sha256.0)

Lacks-moment : (o : Option Moment) → IfSome o (λ m. m.0 < 2 ^ 64) → IfSome (moment_text o) (Lacks 10)
Lacks-moment None h = tt
Lacks-moment (Some m) h = Lacks-decimal 10 m.0 (omega arith) h

Lacks-some_tag : (o : Option (List ℕ)) → IfSome o (λ t. is_tag t ≡ true) → IfSome o (Lacks 10)
Lacks-some_tag None h = tt
Lacks-some_tag (Some t) h = Lacks-tag t h

pub below : (o : Option Moment) → IfSome o (λ m. m.0 < moment_limit) → IfSome o (λ m. m.0 < 2 ^ 64)
below None h = tt
below (Some m) h = omega arith

pub are_values : (h : Head) → IsHead h → AreValues (values_of h)
unfolding values_of
are_values h is = record {
  path = Lacks-path h.path is.typed.path;
  origin = Lacks-origin h.size h.label is.bounded.label;
  size = Lacks-decimal 10 h.size (omega arith) (omega (arith, is.bounded.size));
  tag = Lacks-some_tag h.tag is.typed.tag;
  modified = Lacks-moment h.modified (below h.modified is.bounded.modified);
  checked = Lacks-decimal 10 h.checked.0 (omega arith) is.typed.checked;
  mark = Lacks-moment h.mark is.typed.mark;
}
