-- The head of a block, as a function, is what httparse's grammar says.
use Rattle.std.proofs.Common.{◌≡◌, ◌==◌, ℕ, zero, suc, ◌+◌, ◌-◌, ◌≤◌, Bool, true, false, ◌&&◌, List, [], ◌∷◌, ◌++◌, length, take, drop, Option, Some, None, cond, refl, ap, sym, ◌∙◌, arith, nat_le, nat_lt, append_assoc, append-nil, bytes_eq, map, subst, option_and_then}
use Rattle.std.specs.List.{list_all, flat_map, AllByRecursion}
use Rattle.std.proofs.lemmas.List.Elements.{recursion_from_All, All-from_recursion}
use Rattle.std.specs.Char.{is_ascii_digit}
use Rattle.std.proofs.lemmas.List.{take-append-drop}
use Rattle.std.proofs.lemmas.List.Sums.{list_all-from_AllPass, AllPass-from_list_all}
use Rattle.std.proofs.lemmas.Slice.Eq.{bytes_eq-Decides}
use Rattle.std.proofs.lemmas.Bool.{le-leb, leb-true, eqb-true, ne_eqb, eq-eqb}
use Rattle.std.proofs.Math.Seq.{take-append_seam}
use Rattle.httparse.specs.Grammar.{LineEnd, crlf, lf, print_end, print_blank, print_version, Field, print_field, IsField, ResponseHead, IsResponseHead, ReadsResponse, print_response, print_reason, print_section, reason_phrase, status_code, is_token, is_token_byte, is_value_byte}
use Rattle.httparse.specs.Spans.{name_and_value}
use Rattle.httparse.proofs.GrammarLemmas.{print_response-append}
use Rattle.acng_base.specs.Lines.{lines, with_byte}
use Rattle.acng_base.specs.Heads.{Head, head_of, response_of, guess, fields_of, at_byte, reason_of, is_field, is_response_head}

-- ---- lines

-- a byte that ends no line and begins no line's end
abbrev pub is_plain : ℕ → Bool
is_plain b = cond (b == 10) false (cond (b == 13) false true)

pub and_parts : (a b : Bool) → (a && b) ≡ true → (a ≡ true) × (b ≡ true)
and_parts true b h = (refl, h)
and_parts false b h = cc

pub plain_parts : (b : ℕ) → is_plain b ≡ true → ((b == 10) ≡ false) × ((b == 13) ≡ false)
plain_parts b h = cases (b == 10) (b == 13) h
  where
    cases : (x y : Bool) → cond x false (cond y false true) ≡ true → (x ≡ false) × (y ≡ false)
    cases true y h = cc
    cases false true h = cc
    cases false false h = (refl, refl)

-- a plain byte goes before the first line
pub with_plain : (b : ℕ) (l : List ℕ) (e : LineEnd) (ls : List (List ℕ × LineEnd)) → (b == 13) ≡ false → with_byte b ((l, e) ∷ ls) ≡ (b ∷ l, e) ∷ ls
with_plain b [] lf ls h = rw h refl
with_plain b [] crlf ls h = refl
with_plain b (c ∷ l) e ls h = refl

pub line_first : (l : List ℕ) (e : LineEnd) (rest : List ℕ) → list_all is_plain l ≡ true → lines (l ++ (print_end e ++ rest)) ≡ (l, e) ∷ lines rest
line_first [] crlf rest h = refl
line_first [] lf rest h = refl
line_first (b ∷ l) e rest h =
    let parts = and_parts (is_plain b) (list_all is_plain l) h in
    let plain = plain_parts b parts.0 in
    rw (plain.0, line_first l e rest parts.1) (with_plain b l e (lines rest) plain.1)

pub weaker : (p q : ℕ → Bool) → ((b : ℕ) → p b ≡ true → q b ≡ true) → (xs : List ℕ) → list_all p xs ≡ true → list_all q xs ≡ true
weaker p q f [] h = refl
weaker p q f (x ∷ xs) h = let parts = and_parts (p x) (list_all p xs) h in rw (f x parts.0, weaker p q f xs parts.1) refl

pub all_append : (p : ℕ → Bool) (xs ys : List ℕ) → list_all p xs ≡ true → list_all p ys ≡ true → list_all p (xs ++ ys) ≡ true
all_append p [] ys h k = k
all_append p (x ∷ xs) ys h k = let parts = and_parts (p x) (list_all p xs) h in rw (parts.0, all_append p xs ys parts.1 k) refl

-- bytes of other classes
other_byte : (p : ℕ → Bool) (c b : ℕ) → p c ≡ false → p b ≡ true → (b == c) ≡ false
other_byte p c b out holds = ne_eqb b c (λ e. let z : p b ≡ p c = ap p e in let w : true ≡ false = cc in cc)

plain_from : (b : ℕ) → (b == 10) ≡ false → (b == 13) ≡ false → is_plain b ≡ true
plain_from b h k = rw (h, k) refl

pub value_plain : (b : ℕ) → is_value_byte b ≡ true → is_plain b ≡ true
value_plain b h = plain_from b (other_byte is_value_byte 10 b refl h) (other_byte is_value_byte 13 b refl h)

pub token_plain : (b : ℕ) → is_token_byte b ≡ true → is_plain b ≡ true
unfolding is_token_byte
token_plain b h = plain_from b (other_byte is_token_byte 10 b refl h) (other_byte is_token_byte 13 b refl h)

pub token_no_colon : (b : ℕ) → is_token_byte b ≡ true → (b == 58) ≡ false
unfolding is_token_byte
token_no_colon b h = other_byte is_token_byte 58 b refl h

pub digit_plain : (b : ℕ) → is_ascii_digit b ≡ true → is_plain b ≡ true
digit_plain b h = plain_from b (other_byte is_ascii_digit 10 b refl h) (other_byte is_ascii_digit 13 b refl h)

-- ---- fields

pub colon_parts : (name raw : List ℕ) → list_all is_token_byte name ≡ true → at_byte 58 (name ++ 58 ∷ raw) ≡ (name, raw)
colon_parts [] raw h = refl
colon_parts (b ∷ name) raw h =
    let parts = and_parts (is_token_byte b) (list_all is_token_byte name) h in
    rw (token_no_colon b parts.0, colon_parts name raw parts.1) refl

pub field_line_plain : (name raw : List ℕ) → list_all is_token_byte name ≡ true → list_all is_value_byte raw ≡ true → list_all is_plain (name ++ 58 ∷ raw) ≡ true
field_line_plain name raw h k = all_append is_plain name (58 ∷ raw) (weaker is_token_byte is_plain token_plain name h) (weaker is_value_byte is_plain value_plain raw k)

-- the fields as a recursion
abbrev pub AreFields : List Field → Type 0
AreFields [] = Unit {0}
AreFields (f ∷ fs) = (is_field f ≡ true) × AreFields fs

one_field : (name raw : List ℕ) (e : LineEnd) (ls : List (List ℕ × LineEnd)) → is_token name ≡ true → list_all is_value_byte raw ≡ true
    → fields_of ((name ++ 58 ∷ raw, e) ∷ ls) ≡ (record { name = name; raw = raw; end = e } ∷ (fields_of ls).0, (fields_of ls).1)
one_field [] raw e ls h k = let z = (and_parts (nat_lt 0 0) true h).0 in cc
one_field (b ∷ name) raw e ls h k =
    let parts = and_parts (nat_lt 0 (length (b ∷ name))) (list_all is_token_byte (b ∷ name)) h in
    rw (colon_parts (b ∷ name) raw parts.1) refl

pub fields_read : (fs : List Field) (last : LineEnd) (rest : List ℕ) → AreFields fs → fields_of (lines (flat_map print_field fs ++ (print_end last ++ rest))) ≡ (fs, last)
fields_read [] crlf rest h = refl
fields_read [] lf rest h = refl
fields_read (f ∷ fs) last rest h =
    let parts = and_parts (is_token f.name) (list_all is_value_byte f.raw) h.0 in
    let token = and_parts (nat_lt 0 (length f.name)) (list_all is_token_byte f.name) parts.0 in
    let again = fields_read fs last rest h.1 in
    let tail = flat_map print_field fs ++ (print_end last ++ rest) in
    let shape : flat_map print_field (f ∷ fs) ++ (print_end last ++ rest) ≡ (f.name ++ 58 ∷ f.raw) ++ (print_end f.end ++ tail) = simp append_assoc in
    ap (λ t. fields_of (lines t)) shape
    ∙ ap fields_of (line_first (f.name ++ 58 ∷ f.raw) f.end tail (field_line_plain f.name f.raw token.1 parts.1))
    ∙ one_field f.name f.raw f.end (lines tail) parts.0 parts.1
    ∙ rw again refl

-- ---- the status line

pub three : (xs : List ℕ) → length xs ≡ 3 → (a : ℕ) × (b : ℕ) × (c : ℕ) × (xs ≡ a ∷ b ∷ c ∷ [])
three [] h = absurd (omega arith)
three (a ∷ []) h = absurd (omega arith)
three (a ∷ b ∷ []) h = absurd (omega arith)
three (a ∷ b ∷ c ∷ []) h = (a, b, c, refl)
three (a ∷ b ∷ c ∷ d ∷ r) h = absurd (omega arith)

reason_read : (r : Option (List ℕ)) → reason_of (print_reason r) ≡ r
reason_read None = refl
reason_read (Some p) = refl

reason_plain : (r : Option (List ℕ)) → list_all is_value_byte (reason_phrase r) ≡ true → list_all is_plain (print_reason r) ≡ true
reason_plain None h = refl
reason_plain (Some p) h = weaker is_value_byte is_plain value_plain p h

version_plain : (minor : ℕ) → minor ≤ 1 → list_all is_plain (print_version minor) ≡ true
version_plain zero h = refl
version_plain (suc zero) h = refl
version_plain (suc (suc n)) h = absurd (omega arith)

abbrev status_line : ResponseHead → List ℕ
status_line h = print_version h.minor ++ 32 ∷ (h.digits ++ print_reason h.reason)

status_plain : (h : ResponseHead) → IsResponseHead h → list_all is_plain (status_line h) ≡ true
status_plain h k = all_append is_plain (print_version h.minor) (32 ∷ (h.digits ++ print_reason h.reason)) (version_plain h.minor k.minor)
    (all_append is_plain h.digits (print_reason h.reason)
    (weaker is_ascii_digit is_plain digit_plain h.digits (list_all-from_AllPass is_ascii_digit h.digits k.digits.1))
    (reason_plain h.reason (list_all-from_AllPass is_value_byte (reason_phrase h.reason) k.reason)))

abbrev without_blank : ResponseHead → ResponseHead
without_blank h = record { blank = []; minor = h.minor; digits = h.digits; reason = h.reason; line_end = h.line_end; fields = h.fields; last = h.last }

-- lines that begin with a status line
pub guess_status : (h : ResponseHead) (ls : List (List ℕ × LineEnd)) → IsResponseHead h → fields_of ls ≡ (h.fields, h.last)
    → guess ((status_line h, h.line_end) ∷ ls) ≡ without_blank h
guess_status h ls k f =
    let d = three h.digits k.digits.0 in
    let minor : (48 + h.minor) - 48 ≡ h.minor = omega arith in
    rw (d.3, f, minor, reason_read h.reason) refl

abbrev with_blank : List LineEnd → ResponseHead → ResponseHead
with_blank es h = record { blank = es ++ h.blank; minor = h.minor; digits = h.digits; reason = h.reason; line_end = h.line_end; fields = h.fields; last = h.last }

guess_blank : (es : List LineEnd) (text : List ℕ) → guess (lines (print_blank es ++ text)) ≡ with_blank es (guess (lines text))
guess_blank [] text = refl
guess_blank (crlf ∷ es) text = rw (guess_blank es text) refl
guess_blank (lf ∷ es) text = rw (guess_blank es text) refl

are_fields : (fs : List Field) → AllByRecursion IsField fs → AreFields fs
are_fields [] h = tt
are_fields (f ∷ fs) h = (rw (le-leb 1 (length f.name) h.0.name.0, list_all-from_AllPass is_token_byte f.name h.0.name.1, list_all-from_AllPass is_value_byte f.raw h.0.raw) refl, are_fields fs h.1)

pub guess_reads : (h : ResponseHead) (rest : List ℕ) → IsResponseHead h → guess (lines (print_response h ++ rest)) ≡ h
guess_reads h rest k =
    let tail = print_section h.fields h.last ++ rest in
    let fields : fields_of (lines tail) ≡ (h.fields, h.last) =
    ap (λ t. fields_of (lines t)) (append_assoc (flat_map print_field h.fields) (print_end h.last) rest)
    ∙ fields_read h.fields h.last rest (are_fields h.fields (recursion_from_All IsField h.fields k.fields)) in
    let line : lines (status_line h ++ (print_end h.line_end ++ tail)) ≡ (status_line h, h.line_end) ∷ lines tail = line_first (status_line h) h.line_end tail (status_plain h k) in
    let shape : print_version h.minor ++ 32 ∷ (h.digits ++ (print_reason h.reason ++ (print_end h.line_end ++ tail))) ≡ status_line h ++ (print_end h.line_end ++ tail) = simp append_assoc in
    ap (λ t. guess (lines t)) (print_response-append h rest ∙ ap (λ t. print_blank h.blank ++ t) shape)
    ∙ guess_blank h.blank (status_line h ++ (print_end h.line_end ++ tail))
    ∙ ap (λ ls. with_blank h.blank (guess ls)) line
    ∙ ap (with_blank h.blank) (guess_status h (lines tail) k fields)
    ∙ rw append-nil refl

-- ---- the function and the grammar

is_head : (h : ResponseHead) → IsResponseHead h → is_response_head h ≡ true
is_head h k =
    rw (
      le-leb h.minor 1 k.minor,
      eq-eqb (length h.digits) 3 k.digits.0,
      list_all-from_AllPass is_ascii_digit h.digits k.digits.1,
      list_all-from_AllPass is_value_byte (reason_phrase h.reason) k.reason,
    ) (each h.fields (are_fields h.fields (recursion_from_All IsField h.fields k.fields)))
  where
    each : (fs : List Field) → AreFields fs → list_all is_field fs ≡ true
    each [] a = refl
    each (f ∷ fs) a = rw (a.0, each fs a.1) refl

are_head : (h : ResponseHead) → is_response_head h ≡ true → IsResponseHead h
are_head h t =
    let d = and_parts _ (list_all is_field h.fields) t in
    let c = and_parts _ (list_all is_value_byte (reason_phrase h.reason)) d.0 in
    let b = and_parts _ (list_all is_ascii_digit h.digits) c.0 in
    let a = and_parts (nat_le h.minor 1) (length h.digits == 3) b.0 in
    record {
      minor = leb-true h.minor 1 a.0;
      digits = (eqb-true (length h.digits) 3 a.1, AllPass-from_list_all is_ascii_digit h.digits b.1);
      reason = AllPass-from_list_all is_value_byte (reason_phrase h.reason) c.1;
      fields = All-from_recursion IsField h.fields (each h.fields d.1);
    }
  where
    one : (f : Field) → is_field f ≡ true → IsField f
    one f a =
        let p = and_parts (is_token f.name) (list_all is_value_byte f.raw) a in
        let q = and_parts (nat_lt 0 (length f.name)) (list_all is_token_byte f.name) p.0 in
        record { name = (leb-true 1 (length f.name) q.0, AllPass-from_list_all is_token_byte f.name q.1); raw = AllPass-from_list_all is_value_byte f.raw p.1 }

    each : (fs : List Field) → list_all is_field fs ≡ true → AllByRecursion IsField fs
    each [] a = tt
    each (f ∷ fs) a = let p = and_parts (is_field f) (list_all is_field fs) a in (one f p.0, each fs p.1)

abbrev pub checked : List ℕ → ResponseHead → Bool
checked block h = is_response_head h && bytes_eq (take (length (print_response h)) block) (print_response h)

-- a head at the front of the block is what the function gives
pub response_reads : (block : List ℕ) (h : ResponseHead) (rest : List ℕ) → ReadsResponse block h rest → response_of block ≡ Some h
response_reads block h rest r =
    let g : guess (lines block) ≡ h = ap (λ b. guess (lines b)) r.1 ∙ guess_reads h rest r.0 in
    let front : take (length (print_response h)) block ≡ print_response h = ap (take (length (print_response h))) r.1 ∙ take-append_seam (print_response h) rest in
    let test : checked block h ≡ true = rw (is_head h r.0, (bytes_eq-Decides (take (length (print_response h)) block) (print_response h)).1 front) refl in
    ap (λ k. cond (checked block k) (Some k) None) g ∙ rw test refl

-- what the function gives is a head at the front of the block
pub response_only : (block : List ℕ) (h : ResponseHead) → response_of block ≡ Some h → ReadsResponse block h (drop (length (print_response h)) block)
response_only block h e = cases (checked block (guess (lines block))) refl e
  where
    cases : (b : Bool) → checked block (guess (lines block)) ≡ b → cond b (Some (guess (lines block))) None ≡ Some h → ReadsResponse block h (drop (length (print_response h)) block)
    cases false t e = cc
    cases true t e =
        let same : guess (lines block) ≡ h = cc in
        let parts = and_parts (is_response_head h) (bytes_eq (take (length (print_response h)) block) (print_response h)) (subst (λ k. checked block k ≡ true) same t) in (
          are_head h parts.0,
          sym (take-append-drop (length (print_response h)) block) ∙ ap (λ t. t ++ drop (length (print_response h)) block) ((bytes_eq-Decides _ _).0 parts.1),
        )

-- with at most 64 fields
pub head_reads : (block : List ℕ) (h : ResponseHead) (rest : List ℕ) → ReadsResponse block h rest → length h.fields ≤ 64
    → head_of block ≡ Some (record { status = status_code h; fields = map name_and_value h.fields })
head_reads block h rest r le = rw (response_reads block h rest r, le-leb (length h.fields) 64 le) refl

pub no_head : (block : List ℕ) → ((h : ResponseHead) (rest : List ℕ) → length h.fields ≤ 64 → ReadsResponse block h rest → ⊥) → head_of block ≡ None
no_head block none = cases (response_of block) refl
  where
    small : (h : ResponseHead) (b : Bool) → nat_le (length h.fields) 64 ≡ b → response_of block ≡ Some h
        → cond b (Some (let out : Head = record { status = status_code h; fields = map name_and_value h.fields } in out)) None ≡ None
    small h true t e = absurd (none h (drop (length (print_response h)) block) (leb-true (length h.fields) 64 t) (response_only block h e))
    small h false t e = refl

    cases : (o : Option ResponseHead) → response_of block ≡ o
        → option_and_then (λ h. cond (nat_le (length h.fields) 64) (Some (let out : Head = record { status = status_code h; fields = map name_and_value h.fields } in out)) None) o ≡ None
    cases None e = refl
    cases (Some h) e = small h (nat_le (length h.fields) 64) refl e
