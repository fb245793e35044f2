-- A head that the grammar finds at the front of bytes is the block at their front.
use Rattle.std.proofs.Common.{◌≡◌, ℕ, ◌+◌, ◌<◌, ◌≤◌, true, List, [], ◌∷◌, ◌++◌, length, take, drop, Some, cond, refl, ap, sym, ◌∙◌, arith, nat_le, append_assoc, append-nil, option_map}
use Rattle.std.specs.Prelude.{Option, IfSome}
use Rattle.std.specs.List.{list_all, flat_map}
use Rattle.std.proofs.lemmas.List.{length-append, length-take, length-map}
use Rattle.std.proofs.lemmas.List.Elements.{recursion_from_All}
use Rattle.std.proofs.lemmas.Bool.{le-leb}
use Rattle.std.proofs.Math.Seq.{take-append_seam}
use Rattle.httparse.specs.Grammar.{LineEnd, crlf, lf, print_end, print_blank, Field, print_field, IsField, RequestHead, IsRequestHead, ReadsRequest, print_request, print_section, is_token, is_token_byte, is_value_byte}
use Rattle.httparse.specs.Spans.{IsRequestAt, IsRequestOf, IsRequestWithin, name_and_value, header_bytes}
use Rattle.httparse.specs.declared.spans.HeaderSpan.{HeaderSpan}
use Rattle.httparse.specs.declared.spans.RequestSpans.{RequestSpans}
use Rattle.acng_base.specs.Lines.{lines, line_len, through_empty, through_head}
use Rattle.acng_base.proofs.HeadLemmas.{and_parts, line_first, field_line_plain, AreFields}
use Rattle.acng_request.specs.Blocks.{IsHeadBlock}
use Rattle.acng_request.specs.Nexts.{read_block, judged, by_head}
use Rattle.acng_request.specs.RequestHeads.{head_of, parts_of, inner_lines}
use Rattle.acng_request.specs.Spans.{head_at}
use Rattle.acng_request.proofs.HeadLemmas.{request_line, line_plain, request_shape, some_method, are_fields, request_reads, lines_are_fields}
use Rattle.acng_request.specs.declared.got.HeadFault.TheVariants.{TooLarge}
use Rattle.std.specs.Prelude.{Err}

-- ---- the length of a block that is a head

-- a line that isn't empty goes before the rest
some_empty : (line : List ℕ) (e : LineEnd) (ls : List (List ℕ × LineEnd)) (n : ℕ) → 0 < length line → through_empty ls ≡ Some n → through_empty ((line, e) ∷ ls) ≡ Some (line_len (line, e) + n)
some_empty [] e ls n h t = absurd (omega arith)
some_empty (b ∷ line) e ls n h t = rw t refl

some_head : (line : List ℕ) (e : LineEnd) (ls : List (List ℕ × LineEnd)) (n : ℕ) → 0 < length line → through_empty ls ≡ Some n → through_head ((line, e) ∷ ls) ≡ Some (line_len (line, e) + n)
some_head [] e ls n h t = absurd (omega arith)
some_head (b ∷ line) e ls n h t = rw t refl

section_ends : (fs : List Field) (last : LineEnd) (rest : List ℕ) → AreFields fs → through_empty (lines (flat_map print_field fs ++ (print_end last ++ rest))) ≡ Some (length (print_section fs last))
section_ends [] crlf rest h = refl
section_ends [] lf rest h = refl
section_ends (f ∷ fs) last rest h =
    let parts = and_parts (is_token f.name) (list_all is_value_byte f.raw) h.0 in
    let token = and_parts _ (list_all is_token_byte f.name) parts.0 in
    let line = f.name ++ 58 ∷ f.raw in
    let tail = flat_map print_field fs ++ (print_end last ++ rest) in
    let shape : flat_map print_field (f ∷ fs) ++ (print_end last ++ rest) ≡ line ++ (print_end f.end ++ tail) = simp append_assoc in
    let whole : print_section (f ∷ fs) last ≡ line ++ (print_end f.end ++ print_section fs last) = simp append_assoc in
    let size : line_len (line, f.end) + length (print_section fs last) ≡ length (print_section (f ∷ fs) last) =
    omega (arith, ap length whole, length-append line (print_end f.end ++ print_section fs last), length-append (print_end f.end) (print_section fs last)) in
    let some : 0 < length line = omega (arith, length-append f.name (58 ∷ f.raw)) in
    ap (λ t. through_empty (lines t)) shape
    ∙ ap through_empty (line_first line f.end tail (field_line_plain f.name f.raw token.1 parts.1))
    ∙ some_empty line f.end (lines tail) (length (print_section fs last)) some (section_ends fs last rest h.1)
    ∙ ap Some size

blank_ends : (es : List LineEnd) (text : List ℕ) (n : ℕ) → through_head (lines text) ≡ Some n → through_head (lines (print_blank es ++ text)) ≡ Some (length (print_blank es) + n)
blank_ends [] text n h = let e : n ≡ 0 + n = omega arith in h ∙ ap Some e
blank_ends (crlf ∷ es) text n h =
    let e : 2 + (length (print_blank es) + n) ≡ length (print_blank (crlf ∷ es)) + n = omega arith in
    rw (blank_ends es text n h) (ap Some e)
blank_ends (lf ∷ es) text n h =
    let e : 1 + (length (print_blank es) + n) ≡ length (print_blank (lf ∷ es)) + n = omega arith in
    rw (blank_ends es text n h) (ap Some e)

head_ends : (h : RequestHead) (rest : List ℕ) → IsRequestHead h → through_head (lines (print_request h ++ rest)) ≡ Some (length (print_request h))
head_ends h rest k =
    let section = print_section h.fields h.last in
    let tail = section ++ rest in
    let line = request_line h in
    let some : 0 < length line = some_method h.method _ k.method.0 in
    let empty : through_empty (lines tail) ≡ Some (length section) =
    ap (λ t. through_empty (lines t)) (append_assoc (flat_map print_field h.fields) (print_end h.last) rest)
    ∙ section_ends h.fields h.last rest (are_fields h.fields (recursion_from_All IsField h.fields k.fields)) in
    let text : print_request h ++ rest ≡ print_blank h.blank ++ (line ++ (print_end h.line_end ++ tail)) = request_shape h rest in
    let first : through_head (lines (line ++ (print_end h.line_end ++ tail))) ≡ Some (line_len (line, h.line_end) + length section) =
    ap through_head (line_first line h.line_end tail (line_plain h k)) ∙ some_head line h.line_end (lines tail) (length section) some empty in
    let size : length (print_blank h.blank) + (line_len (line, h.line_end) + length section) ≡ length (print_request h) =
    omega (
      arith,
      ap length text,
      length-append (print_request h) rest,
      length-append (print_blank h.blank) (line ++ (print_end h.line_end ++ tail)),
      length-append line (print_end h.line_end ++ tail),
      length-append (print_end h.line_end) tail,
      length-append section rest,
    ) in
    ap (λ t. through_head (lines t)) text ∙ blank_ends h.blank (line ++ (print_end h.line_end ++ tail)) _ first ∙ ap Some size

-- ---- what the parser finds

head_block : (bytes : List ℕ) (headers : List HeaderSpan) (r : RequestSpans) (h : RequestHead) → length bytes ≤ 16384 → length headers ≤ 64 → IsRequestWithin bytes headers r → IsRequestAt bytes headers r h → IsHeadBlock bytes headers r
head_block bytes headers r h few room within at =
    let text = at.reads.1 in
    let front : take r.len bytes ≡ print_request h ++ [] =
    ap (λ n. take n bytes) at.len ∙ ap (take (length (print_request h))) text ∙ take-append_seam (print_request h) (drop r.len bytes) ∙ sym (append-nil (print_request h)) in
    let reads : ReadsRequest (take r.len bytes) h [] = (at.reads.0, front) in
    let same : parts_of h ≡ head_at bytes r (take r.headers headers) = rw (at.method, at.path, at.version, at.fields) refl in
    let count : length h.fields ≤ 64 = omega (arith, length-take r.headers headers, length-map (take r.headers headers) (header_bytes bytes), length-map h.fields name_and_value, ap length at.fields) in
    record {
      block = record {
        is = ap (λ t. through_head (lines t)) text ∙ head_ends h (drop r.len bytes) at.reads.0 ∙ ap Some (sym at.len);
        within = within.section.len_fits;
        few = few;
      };
      within = within;
      few = omega (arith, lines_are_fields (take r.len bytes) h [] reads);
      head = ap (option_map parts_of) (request_reads (take r.len bytes) h [] reads) ∙ ap Some same;
    }

pub front_block : (bytes : List ℕ) (headers : List HeaderSpan) (o : Option RequestSpans) → length bytes ≤ 16384 → length headers ≤ 64 → IfSome o (IsRequestWithin bytes headers) → IfSome o (IsRequestOf bytes headers)
    → IfSome o (IsHeadBlock bytes headers)
front_block bytes headers (Option.None) few room within of = tt
front_block bytes headers (Some r) few room within of = head_block bytes headers r of.0 few room within of.1

-- what the block asks is what its parts say
pub head_judged : (bytes : List ℕ) (headers : List HeaderSpan) (r : RequestSpans) → IsHeadBlock bytes headers r → judged (head_at bytes r (take r.headers headers)) ≡ read_block (take r.len bytes)
head_judged bytes headers r b =
    let test : nat_le (inner_lines (lines (take r.len bytes))) 64 ≡ true = le-leb _ 64 b.few in
    sym (ap (λ t. cond t (by_head (head_of (take r.len bytes))) (Err TooLarge)) test ∙ ap by_head b.head)
