-- The head of a request's block, as a function, is what httparse's grammar says.
use Rattle.std.proofs.Common.{◌≡◌, ◌==◌, ℕ, zero, suc, ◌+◌, ◌-◌, ◌<◌, ◌≤◌, Bool, true, false, List, [], ◌∷◌, ◌++◌, length, take, drop, Option, Some, None, cond, refl, ap, sym, ◌∙◌, arith, nat_le, nat_lt, append_assoc, append-nil, bytes_eq, subst, option_map}
use Rattle.std.specs.List.{list_all, flat_map, AllByRecursion}
use Rattle.std.specs.Str.{is_utf8}
use Rattle.std.proofs.lemmas.Str.{IsUtf8-from_is_utf8, is_utf8-from_IsUtf8}
use Rattle.std.proofs.lemmas.List.Elements.{recursion_from_All, All-from_recursion}
use Rattle.std.proofs.lemmas.List.{take-append-drop, length-take, length-map}
use Rattle.std.proofs.lemmas.List.Sums.{list_all-from_AllPass, AllPass-from_list_all}
use Rattle.std.proofs.lemmas.Slice.Eq.{bytes_eq-Decides}
use Rattle.std.proofs.lemmas.Bool.{le-leb, leb-true, ne_eqb}
use Rattle.std.proofs.Math.Seq.{take-append_seam}
use Rattle.httparse.specs.Grammar.{LineEnd, crlf, lf, print_end, print_blank, print_version, Field, print_field, IsField, RequestHead, IsRequestHead, ReadsRequest, print_request, print_section, is_token, is_token_byte, is_uri_byte, is_value_byte}
use Rattle.std.specs.Prelude.{IfSome, IfNone}
use Rattle.httparse.specs.Spans.{IsRequestAt, IsRequestOf, name_and_value, header_bytes}
use Rattle.httparse.specs.declared.spans.HeaderSpan.{HeaderSpan}
use Rattle.httparse.specs.declared.spans.RequestSpans.{RequestSpans}
use Rattle.httparse.proofs.GrammarLemmas.{print_request-append}
use Rattle.acng_base.specs.Lines.{lines}
use Rattle.acng_base.specs.Heads.{at_byte, fields_of, is_field}
use Rattle.acng_base.proofs.HeadLemmas.{is_plain, and_parts, weaker, all_append, token_plain, line_first, AreFields, fields_read}
use Rattle.acng_request.specs.RequestHeads.{head_of, request_of, parts_of, begins_with, guess, with_line, is_request_head, inner_lines, before_empty}
use Rattle.acng_request.specs.Spans.{head_at}

-- ---- the request line

-- bytes of other classes
other_byte : (p : ℕ → Bool) (c b : ℕ) → p c ≡ false → p b ≡ true → (b == c) ≡ false
other_byte p c b out holds = ne_eqb b c (λ e. let z : p b ≡ p c = ap p e in let w : true ≡ false = cc in cc)

token_no_space : (b : ℕ) → is_token_byte b ≡ true → (b == 32) ≡ false
unfolding is_token_byte
token_no_space b h = other_byte is_token_byte 32 b refl h

uri_no_space : (b : ℕ) → is_uri_byte b ≡ true → (b == 32) ≡ false
uri_no_space b h = other_byte is_uri_byte 32 b refl h

uri_plain : (b : ℕ) → is_uri_byte b ≡ true → is_plain b ≡ true
uri_plain b h =
    let lf : (b == 10) ≡ false = other_byte is_uri_byte 10 b refl h in
    let cr : (b == 13) ≡ false = other_byte is_uri_byte 13 b refl h in
    rw (lf, cr) refl

-- a text without a space, and a space
space_parts : (p : ℕ → Bool) → ((b : ℕ) → p b ≡ true → (b == 32) ≡ false) → (xs rest : List ℕ) → list_all p xs ≡ true → at_byte 32 (xs ++ 32 ∷ rest) ≡ (xs, rest)
space_parts p f [] rest h = refl
space_parts p f (b ∷ xs) rest h =
    let parts = and_parts (p b) (list_all p xs) h in
    rw (f b parts.0, space_parts p f xs rest parts.1) refl

version_plain : (minor : ℕ) → minor ≤ 1 → list_all is_plain (print_version minor) ≡ true
version_plain zero h = refl
version_plain (suc zero) h = refl
version_plain (suc (suc n)) h = absurd (omega arith)

abbrev after_method : RequestHead → List ℕ
after_method h = h.target ++ 32 ∷ print_version h.minor

abbrev pub request_line : RequestHead → List ℕ
request_line h = h.method ++ 32 ∷ after_method h

-- what is known of a head's parts, as tests
record Tested (h : RequestHead) : Type 0 where
  some : 0 < length h.method
  method : list_all is_token_byte h.method ≡ true
  target : list_all is_uri_byte h.target ≡ true

tested : (h : RequestHead) → IsRequestHead h → Tested h
tested h k = record {
  some = k.method.0;
  method = list_all-from_AllPass is_token_byte h.method k.method.1;
  target = list_all-from_AllPass is_uri_byte h.target k.target.1;
}

pub line_plain : (h : RequestHead) → IsRequestHead h → list_all is_plain (request_line h) ≡ true
line_plain h k =
    let t = tested h k in
    all_append is_plain h.method (32 ∷ after_method h) (weaker is_token_byte is_plain token_plain h.method t.method)
    (all_append is_plain h.target (32 ∷ print_version h.minor) (weaker is_uri_byte is_plain uri_plain h.target t.target) (version_plain h.minor k.minor))

-- ---- the guess

line_guess : (h : RequestHead) (ls : List (List ℕ × LineEnd)) → IsRequestHead h → fields_of ls ≡ (h.fields, h.last)
    → with_line (request_line h) h.line_end ls ≡ record { blank = []; method = h.method; target = h.target; minor = h.minor; line_end = h.line_end; fields = h.fields; last = h.last }
line_guess h ls k f =
    let t = tested h k in
    let minor : (48 + h.minor) - 48 ≡ h.minor = omega arith in
    rw (space_parts is_token_byte token_no_space h.method (after_method h) t.method, space_parts is_uri_byte uri_no_space h.target (print_version h.minor) t.target, f, minor) refl

-- a line that isn't empty begins a head
some_line : (line : List ℕ) (e : LineEnd) (ls : List (List ℕ × LineEnd)) → 0 < length line → guess ((line, e) ∷ ls) ≡ with_line line e ls
some_line [] e ls h = absurd (omega arith)
some_line (b ∷ line) e ls h = refl

pub some_method : (m rest : List ℕ) → 0 < length m → 0 < length (m ++ rest)
some_method [] rest h = absurd (omega arith)
some_method (b ∷ m) rest h = omega arith

abbrev with_blank : List LineEnd → RequestHead → RequestHead
with_blank es h = record { blank = es ++ h.blank; method = h.method; target = h.target; minor = h.minor; line_end = h.line_end; fields = h.fields; last = h.last }

guess_blank : (es : List LineEnd) (text : List ℕ) → guess (lines (print_blank es ++ text)) ≡ with_blank es (guess (lines text))
guess_blank [] text = refl
guess_blank (crlf ∷ es) text = rw (guess_blank es text) refl
guess_blank (lf ∷ es) text = rw (guess_blank es text) refl

pub are_fields : (fs : List Field) → AllByRecursion IsField fs → AreFields fs
are_fields [] h = tt
are_fields (f ∷ fs) h = (rw (le-leb 1 (length f.name) h.0.name.0, list_all-from_AllPass is_token_byte f.name h.0.name.1, list_all-from_AllPass is_value_byte f.raw h.0.raw) refl, are_fields fs h.1)

-- the bytes of a head and what follows, by their lines
pub request_shape : (h : RequestHead) (rest : List ℕ) → print_request h ++ rest ≡ print_blank h.blank ++ (request_line h ++ (print_end h.line_end ++ (print_section h.fields h.last ++ rest)))
request_shape h rest =
    let tail = print_section h.fields h.last ++ rest in
    let shape : h.method ++ 32 ∷ (h.target ++ 32 ∷ (print_version h.minor ++ (print_end h.line_end ++ tail))) ≡ request_line h ++ (print_end h.line_end ++ tail) = simp append_assoc in
    print_request-append h rest ∙ ap (λ t. print_blank h.blank ++ t) shape

guess_reads : (h : RequestHead) (rest : List ℕ) → IsRequestHead h → guess (lines (print_request h ++ rest)) ≡ h
guess_reads h rest k =
    let tail = print_section h.fields h.last ++ rest in
    let fields : fields_of (lines tail) ≡ (h.fields, h.last) =
    ap (λ t. fields_of (lines t)) (append_assoc (flat_map print_field h.fields) (print_end h.last) rest)
    ∙ fields_read h.fields h.last rest (are_fields h.fields (recursion_from_All IsField h.fields k.fields)) in
    let line : lines (request_line h ++ (print_end h.line_end ++ tail)) ≡ (request_line h, h.line_end) ∷ lines tail = line_first (request_line h) h.line_end tail (line_plain h k) in
    ap (λ t. guess (lines t)) (request_shape h rest)
    ∙ guess_blank h.blank (request_line h ++ (print_end h.line_end ++ tail))
    ∙ ap (λ ls. with_blank h.blank (guess ls)) line
    ∙ ap (with_blank h.blank) (some_line (request_line h) h.line_end (lines tail) (some_method h.method (32 ∷ after_method h) k.method.0) ∙ line_guess h (lines tail) k fields)
    ∙ rw append-nil refl

-- ---- the function and the grammar

is_head : (h : RequestHead) → IsRequestHead h → is_request_head h ≡ true
is_head h k =
    rw (
      le-leb 1 (length h.method) k.method.0,
      list_all-from_AllPass is_token_byte h.method k.method.1,
      le-leb 1 (length h.target) k.target.0,
      list_all-from_AllPass is_uri_byte h.target k.target.1,
      is_utf8-from_IsUtf8 h.target k.target_text,
      le-leb h.minor 1 k.minor,
    ) (each h.fields (are_fields h.fields (recursion_from_All IsField h.fields k.fields)))
  where
    each : (fs : List Field) → AreFields fs → list_all is_field fs ≡ true
    each [] a = refl
    each (f ∷ fs) a = rw (a.0, each fs a.1) refl

are_head : (h : RequestHead) → is_request_head h ≡ true → IsRequestHead h
are_head h t =
    let e = and_parts _ (list_all is_field h.fields) t in
    let d = and_parts _ (nat_le h.minor 1) e.0 in
    let c = and_parts _ (is_utf8 h.target) d.0 in
    let b = and_parts _ (list_all is_uri_byte h.target) c.0 in
    let a = and_parts (is_token h.method) (nat_lt 0 (length h.target)) b.0 in
    let m = and_parts (nat_lt 0 (length h.method)) (list_all is_token_byte h.method) a.0 in
    record {
      method = (leb-true 1 (length h.method) m.0, AllPass-from_list_all is_token_byte h.method m.1);
      target = (leb-true 1 (length h.target) a.1, AllPass-from_list_all is_uri_byte h.target b.1);
      target_text = IsUtf8-from_is_utf8 h.target c.1;
      minor = leb-true h.minor 1 d.1;
      fields = All-from_recursion IsField h.fields (each h.fields e.1);
    }
  where
    one : (f : Field) → is_field f ≡ true → IsField f
    one f a =
        let p = and_parts (is_token f.name) (list_all is_value_byte f.raw) a in
        let q = and_parts (nat_lt 0 (length f.name)) (list_all is_token_byte f.name) p.0 in
        record { name = (leb-true 1 (length f.name) q.0, AllPass-from_list_all is_token_byte f.name q.1); raw = AllPass-from_list_all is_value_byte f.raw p.1 }

    each : (fs : List Field) → list_all is_field fs ≡ true → AllByRecursion IsField fs
    each [] a = tt
    each (f ∷ fs) a = let p = and_parts (is_field f) (list_all is_field fs) a in (one f p.0, each fs p.1)

guess_of : (block : List ℕ) (h : RequestHead) (rest : List ℕ) → ReadsRequest block h rest → guess (lines block) ≡ h
guess_of block h rest r = ap (λ b. guess (lines b)) r.1 ∙ guess_reads h rest r.0

-- a head at the front of the block is what the function gives
pub request_reads : (block : List ℕ) (h : RequestHead) (rest : List ℕ) → ReadsRequest block h rest → request_of block ≡ Some h
request_reads block h rest r =
    let front : take (length (print_request h)) block ≡ print_request h = ap (take (length (print_request h))) r.1 ∙ take-append_seam (print_request h) rest in
    let test : begins_with block h ≡ true = rw (is_head h r.0, (bytes_eq-Decides (take (length (print_request h)) block) (print_request h)).1 front) refl in
    ap (λ k. cond (begins_with block k) (Some k) None) (guess_of block h rest r) ∙ rw test refl

-- what the function gives is a head at the front of the block
request_only : (block : List ℕ) (h : RequestHead) → request_of block ≡ Some h → ReadsRequest block h (drop (length (print_request h)) block)
request_only block h e = cases (begins_with block (guess (lines block))) refl e
  where
    cases : (b : Bool) → begins_with block (guess (lines block)) ≡ b → cond b (Some (guess (lines block))) None ≡ Some h → ReadsRequest block h (drop (length (print_request h)) block)
    cases false t e = cc
    cases true t e =
        let same : guess (lines block) ≡ h = cc in
        let parts = and_parts (is_request_head h) (bytes_eq (take (length (print_request h)) block) (print_request h)) (subst (λ k. begins_with block k ≡ true) same t) in (
          are_head h parts.0,
          sym (take-append-drop (length (print_request h)) block) ∙ ap (λ t. t ++ drop (length (print_request h)) block) ((bytes_eq-Decides _ _).0 parts.1),
        )

-- ---- a head has a field a line

before_fields : (ls : List (List ℕ × LineEnd)) → before_empty ls ≡ length (fields_of ls).0
before_fields [] = refl
before_fields (([], e) ∷ ls) = refl
before_fields ((b ∷ line, e) ∷ ls) = ap suc (before_fields ls)

inner_fields : (ls : List (List ℕ × LineEnd)) → inner_lines ls ≡ length (guess ls).fields
inner_fields [] = refl
inner_fields (([], e) ∷ ls) = inner_fields ls
inner_fields ((b ∷ line, e) ∷ ls) = before_fields ls

pub lines_are_fields : (block : List ℕ) (h : RequestHead) (rest : List ℕ) → ReadsRequest block h rest → inner_lines (lines block) ≡ length h.fields
lines_are_fields block h rest r = inner_fields (lines block) ∙ ap (λ k. length k.fields) (guess_of block h rest r)

-- ---- what the parser finds

-- the head that spans cover is what the function gives, and it has at most 64 lines
found_head : (block : List ℕ) (headers : List HeaderSpan) (r : RequestSpans) (h : RequestHead) → length headers ≡ 64 → IsRequestAt block headers r h
    → (head_of block ≡ Some (head_at block r (take r.headers headers))) × (inner_lines (lines block) ≤ 64)
found_head block headers r h room at =
    let count : length h.fields ≤ 64 = omega (arith, length-take r.headers headers, length-map (take r.headers headers) (header_bytes block), length-map h.fields name_and_value, ap length at.fields) in
    let same : parts_of h ≡ head_at block r (take r.headers headers) = rw (at.method, at.path, at.version, at.fields) refl in (
      ap (option_map parts_of) (request_reads block h (drop r.len block) at.reads) ∙ ap Some same,
      omega (arith, lines_are_fields block h (drop r.len block) at.reads),
    )

-- where no head of at most 64 fields is found, a block of at most 64 lines is none
found_none : (block : List ℕ) → ((h : RequestHead) (rest : List ℕ) → length h.fields ≤ 64 → ReadsRequest block h rest → ⊥) → inner_lines (lines block) ≤ 64 → head_of block ≡ None
found_none block none few = cases (request_of block) refl
  where
    cases : (o : Option RequestHead) → request_of block ≡ o → option_map parts_of o ≡ None
    cases None e = refl
    cases (Some h) e =
        let reads = request_only block h e in
        absurd (none h (drop (length (print_request h)) block) (omega (arith, lines_are_fields block h (drop (length (print_request h)) block) reads)) reads)

pub head_found : (block : List ℕ) (headers : List HeaderSpan) (o : Option RequestSpans) → length headers ≡ 64 → IfSome o (IsRequestOf block headers)
    → IfSome o (λ r. head_of block ≡ Some (head_at block r (take r.headers headers)))
head_found block headers None room h = tt
head_found block headers (Some r) room h = (found_head block headers r h.0 room h.1).0

pub head_few : (block : List ℕ) (headers : List HeaderSpan) (o : Option RequestSpans) → length headers ≡ 64 → IfSome o (IsRequestOf block headers)
    → IfSome o (λ _. inner_lines (lines block) ≤ 64)
head_few block headers None room h = tt
head_few block headers (Some r) room h = (found_head block headers r h.0 room h.1).1

pub head_none : (block : List ℕ) (room : ℕ) (o : Option RequestSpans) → 64 ≤ room → IfNone o ((h : RequestHead) (rest : List ℕ) → length h.fields ≤ room → ReadsRequest block h rest → ⊥)
    → IfNone o (inner_lines (lines block) ≤ 64 → head_of block ≡ None)
head_none block room None much h = found_none block (λ k rest few. h k rest (omega (arith, much, few)))
head_none block room (Some r) much h = tt
