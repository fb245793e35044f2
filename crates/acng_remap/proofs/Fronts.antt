-- What stands before the first slash of a path: a group's name, or a host.
use Rattle.std.proofs.Common.{◌≡◌, ℕ, zero, suc, ◌+◌, ◌<◌, ◌≤◌, Bool, true, false, ◌&&◌, ◌||◌, ◌==◌, List, [], ◌∷◌, ◌++◌, Option, Some, None, cond, map, length, take, drop, get_or, bytes_eq, nat_lt, nat_le, refl, ap, ◌∙◌, subst, arith}
use Rattle.std.specs.List.{list_any, list_all, position, position_from, concat}
use Rattle.std.specs.Option.{unwrap_or, option_and_then}
use Rattle.std.specs.Char.{is_ascii_digit, to_ascii_lowercase}
use Rattle.std.specs.Fmt.{decimal}
use Rattle.std.specs.Str.{all_ascii_digits}
use Rattle.std.specs.Str.Parse.{digits_value}
use Rattle.std.proofs.lemmas.Fmt.{digits_decimal}
use Rattle.std.proofs.lemmas.Str.Parse.{IsNumeralModel, numerals_by_value, tells_all_ascii_digits}
use Rattle.std.proofs.lemmas.List.{append-nil}
use Rattle.std.proofs.lemmas.List.Folds.{list_any-append}
use Rattle.std.proofs.lemmas.Iterator.Adapters.{position_from-zero}
use Rattle.std.proofs.lemmas.Slice.Eq.{bytes_eq-Decides}
use Rattle.std.proofs.lemmas.Grind.{common_steps}
use Rattle.acng_base.specs.Numbers.{are_digits}
use Rattle.acng_base.specs.Paths.{is_slash}
use Rattle.acng_conf.specs.Keys.{is_word_byte}
use Rattle.acng_conf.specs.Settings.{Mirrors}
use Rattle.acng_remap.specs.Forms.{has, before_slash, slash_at}
use Rattle.acng_remap.specs.Hosts.{name_len, is_name, port_of, port_after, host_port, host_name, host_text}

parts : (a b : Bool) → (a || b) ≡ false → (a ≡ false) × (b ≡ false)
parts true b h = cc
parts false b h = (refl, h)

-- ---- no slash stands in a host

numerals : IsNumeralModel (λ ds. all_ascii_digits ds ≡ true) (digits_value 10)
numerals = numerals_by_value (λ ds. all_ascii_digits ds ≡ true) tells_all_ascii_digits

other : (a : ℕ) → (a ≡ 47 → ⊥) → (a == 47) ≡ false
other a differ = grind (arith, common_steps, differ)

digits_plain : (ds : List ℕ) → all_ascii_digits ds ≡ true → has 47 ds ≡ false
digits_plain [] h = refl
digits_plain (d ∷ ds) h =
    let first : is_ascii_digit d ≡ true = grind (arith, common_steps) in
    let rest : all_ascii_digits ds ≡ true = grind (arith, common_steps) in
    let differs : (d == 47) ≡ false = grind (arith, common_steps) in
    rw differs (digits_plain ds rest)

lower_plain : (b : ℕ) → is_word_byte b ≡ true → (to_ascii_lowercase b == 47) ≡ false
lower_plain b h = cases (nat_lt b 65) refl (nat_lt b 91)
  where
    no_slash : b ≡ 47 → ⊥
    no_slash e = let at : is_word_byte 47 ≡ true = subst (λ x. is_word_byte x ≡ true) e h in cc

    cases : (t : Bool) → nat_lt b 65 ≡ t → (u : Bool) → (cond t b (cond u (b + 32) b) == 47) ≡ false
    cases true e u = other b no_slash
    cases false e true = other (b + 32) (λ s. let big : 65 ≤ b = grind (arith, common_steps) in omega arith)
    cases false e false = other b no_slash

words_plain : (bs : List ℕ) → list_all is_word_byte bs ≡ true → has 47 (map to_ascii_lowercase bs) ≡ false
words_plain [] h = refl
words_plain (b ∷ bs) h =
    let first : is_word_byte b ≡ true = grind (arith, common_steps) in
    let rest : list_all is_word_byte bs ≡ true = grind (arith, common_steps) in
    rw (lower_plain b first) (words_plain bs rest)

if_true : (b : Bool) (o : Option ℕ) (k : ℕ) → cond b o None ≡ Some k → (b ≡ true) × (o ≡ Some k)
if_true true o k h = (refl, h)
if_true false o k h = cc

small : (digits : List ℕ) (port : ℕ) → port_of digits ≡ Some port → port ≤ 65535
small digits port h = cases (are_digits 5 digits) h
  where
    v : ℕ
    v = digits_value 10 digits

    cases : (t : Bool) → option_and_then (λ n. cond (nat_le 1 n && nat_le n 65535) (Some n) None) (cond t (Some v) None) ≡ Some port → port ≤ 65535
    cases true h =
        let c = if_true (nat_le 1 v && nat_le v 65535) (Some v) port h in
        let is : v ≡ port = let e = c.1 in cc in
        grind (arith, common_steps)
    cases false h = cc

port_small : (host : List ℕ) (port : ℕ) → port_after host ≡ Some port → port ≤ 65535
port_small host port h = cases (nat_lt (name_len host) (length host)) h
  where
    cases : (t : Bool) → cond t (port_of (drop (name_len host + 1) host)) (Some 80) ≡ Some port → port ≤ 65535
    cases true h = small (drop (name_len host + 1) host) port h
    cases false h = let is : 80 ≡ port = cc in omega arith

pub host_plain : (text : List ℕ) (port : ℕ) → host_port text ≡ Some port → has 47 (host_text (host_name text) port) ≡ false
unfolding host_port host_name host_text
host_plain text port h =
    let name = take (name_len text) text in
    let a = if_true (is_name name) (port_after text) port h in
    let word : list_all is_word_byte name ≡ true = let n = a.0 in grind (arith, common_steps) in
    let few : port ≤ 65535 = port_small text port a.1 in
    let digits : all_ascii_digits (decimal port) ≡ true = digits_decimal numerals port (omega arith) in
    list_any-append (λ c. c == 47) (map to_ascii_lowercase name) (cond (port == 80) [] (58 ∷ decimal port))
    ∙ ap (λ b. b || has 47 (cond (port == 80) [] (58 ∷ decimal port))) (words_plain name word)
    ∙ behind (port == 80) (digits_plain (decimal port) digits)
  where
    behind : (t : Bool) → has 47 (decimal port) ≡ false → has 47 (cond t [] (58 ∷ decimal port)) ≡ false
    behind true d = refl
    behind false d = d

-- ---- up to the first slash

slash_from : (name rest : List ℕ) (i : ℕ) → has 47 name ≡ false → position_from is_slash i (name ++ 47 ∷ rest) ≡ Some (i + length name)
slash_from [] rest i h = let e : i ≡ i + 0 = omega arith in ap Some e
slash_from (b ∷ bs) rest i h =
    let p = parts (b == 47) (has 47 bs) h in
    let e : (i + 1) + length bs ≡ i + suc (length bs) = omega arith in
    rw p.0 (slash_from bs rest (i + 1) p.1 ∙ ap Some e)

none_from : (name : List ℕ) (i : ℕ) → has 47 name ≡ false → position_from is_slash i name ≡ None
none_from [] i h = refl
none_from (b ∷ bs) i h = let p = parts (b == 47) (has 47 bs) h in rw p.0 (none_from bs (i + 1) p.1)

all_of : (xs : List ℕ) → take (length xs) xs ≡ xs
all_of xs = grind (arith, common_steps)

front_of : (xs ys : List ℕ) → take (length xs) (xs ++ ys) ≡ xs
front_of xs ys = grind (arith, common_steps)

pub before_name : (name rest : List ℕ) → has 47 name ≡ false → before_slash (name ++ 47 ∷ rest) ≡ name
before_name name rest h =
    let text = name ++ 47 ∷ rest in
    let at : position is_slash text ≡ Some (0 + length name) = position_from-zero is_slash text ∙ slash_from name rest 0 h in
    let e : 0 + length name ≡ length name = omega arith in
    let place : slash_at text ≡ length name = ap (λ o. unwrap_or o (length text)) at ∙ e in
    ap (λ n. take n text) place ∙ front_of name (47 ∷ rest)

before_alone : (name : List ℕ) → has 47 name ≡ false → before_slash name ≡ name
before_alone name h =
    let at : position is_slash name ≡ None = position_from-zero is_slash name ∙ none_from name 0 h in
    let place : slash_at name ≡ length name = ap (λ o. unwrap_or o (length name)) at in
    ap (λ n. take n name) place ∙ all_of name

-- a host, and segments with a slash before each
pub before_segments : (host : List ℕ) (ss : List (List ℕ)) → has 47 host ≡ false → before_slash (host ++ concat (map (λ s. 47 ∷ s) ss)) ≡ host
before_segments host [] h = ap before_slash (append-nil host) ∙ before_alone host h
before_segments host (s ∷ ss) h = before_name host (s ++ concat (map (λ s. 47 ∷ s) ss)) h

-- ---- names of groups

pub none_at : {X : Type 0} (p : X → Bool) (xs : List X) (k : ℕ) (d : X) → list_any p xs ≡ false → k < length xs → p (get_or xs k d) ≡ false
none_at p [] k d h lt = absurd (omega arith)
none_at p (x ∷ xs) zero d h lt = (parts (p x) (list_any p xs) h).0
none_at p (x ∷ xs) (suc k) d h lt = none_at p xs k d (parts (p x) (list_any p xs) h).1 (omega arith)

is_one : (x e : List ℕ) → bytes_eq x e ≡ true → x ≡ e
is_one x e h = grind (arith, common_steps, bytes_eq-Decides)

-- a text with a colon is no group's name
pub no_name : (host : List ℕ) (groups : List Mirrors) (i : ℕ) → list_any (λ g. has 58 g.name) groups ≡ false → has 58 host ≡ true
    → position_from (λ g. bytes_eq g.name host) i groups ≡ None
no_name host [] i h c = refl
no_name host (g ∷ gs) i h c =
    let p = parts (has 58 g.name) (list_any (λ g. has 58 g.name) gs) h in
    cases (bytes_eq g.name host) refl p.0 (no_name host gs (i + 1) p.1 c)
  where
    cases : (t : Bool) → bytes_eq g.name host ≡ t → has 58 g.name ≡ false → position_from (λ g. bytes_eq g.name host) (i + 1) gs ≡ None
        → cond t (Some i) (position_from (λ g. bytes_eq g.name host) (i + 1) gs) ≡ None
    cases true e n again = let same = ap (has 58) (is_one g.name host e) in cc
    cases false e n again = again

pub has_colon : (name : List ℕ) (port : ℕ) → (port == 80) ≡ false → has 58 (host_text name port) ≡ true
unfolding host_text
has_colon name port h =
    list_any-append (λ c. c == 58) name (cond (port == 80) [] (58 ∷ decimal port))
    ∙ ap (λ t. has 58 name || has 58 (cond t [] (58 ∷ decimal port))) h ∙ last (has 58 name)
  where
    last : (b : Bool) → (b || true) ≡ true
    last true = refl
    last false = refl
