-- The size of a chunk line, as a function, is what httparse's grammar says.
use Rattle.std.proofs.Common.{◌≡◌, ◌==◌, ℕ, zero, suc, ◌<◌, ◌≤◌, Bool, true, false, ◌&&◌, ◌||◌, List, [], ◌∷◌, ◌++◌, length, take, drop, Option, Some, None, cond, refl, ap, sym, ◌∙◌, arith, nat_le, nat_lt, append_assoc, bytes_eq, subst, IfSome, IfNone}
use Rattle.std.specs.List.{list_all}
use Rattle.std.specs.Char.{is_ascii_hexdigit}
use Rattle.std.proofs.lemmas.List.{take-append-drop}
use Rattle.std.proofs.lemmas.List.Sums.{list_all-from_AllPass, AllPass-from_list_all}
use Rattle.std.proofs.lemmas.Slice.Eq.{bytes_eq-Decides}
use Rattle.std.proofs.lemmas.Bool.{le-leb, leb-true, eqb-true}
use Rattle.std.proofs.Math.Seq.{take-append_seam}
use Rattle.httparse.specs.Grammar.{ChunkLine, IsChunkLine, ReadsChunkLine, print_chunk_line, print_extension, print_end, crlf, chunk_size, is_ows, is_extension_byte, IsExtension}
use Rattle.acng_base.specs.SizeLines.{span, extension_of, guess_line, is_size_line, size_of}
use Rattle.acng_base.proofs.HeadLemmas.{and_parts}

-- the text doesn't begin with such a byte
abbrev pub Stops : (ℕ → Bool) → List ℕ → Type 0
Stops p [] = Unit {0}
Stops p (b ∷ bs) = p b ≡ false

pub span_stops : (p : ℕ → Bool) (xs ys : List ℕ) → list_all p xs ≡ true → Stops p ys → span p (xs ++ ys) ≡ (xs, ys)
span_stops p [] [] h s = refl
span_stops p [] (b ∷ ys) h s = rw s refl
span_stops p (x ∷ xs) ys h s = let a = and_parts (p x) (list_all p xs) h in rw (a.0, span_stops p xs ys a.1 s) refl

span_one : (p : ℕ → Bool) (x : ℕ) (xs : List ℕ) (rest : List ℕ × List ℕ) (b : Bool) → p x ≡ b → list_all p rest.0 ≡ true
    → list_all p (let out : List ℕ × List ℕ = cond b (x ∷ rest.0, rest.1) ([], x ∷ xs) in out).0 ≡ true
span_one p x xs rest true e again = rw (e, again) refl
span_one p x xs rest false e again = refl

pub span_all : (p : ℕ → Bool) (xs : List ℕ) → list_all p (span p xs).0 ≡ true
span_all p [] = refl
span_all p (x ∷ xs) = span_one p x xs (span p xs) (p x) refl (span_all p xs)

ows_no_digit : (b : ℕ) → is_ows b ≡ true → is_ascii_hexdigit b ≡ false
ows_no_digit b h = cases (b == 32) (b == 9) refl refl h
  where
    cases : (x y : Bool) → (b == 32) ≡ x → (b == 9) ≡ y → (x || y) ≡ true → is_ascii_hexdigit b ≡ false
    cases true y e f h = rw (eqb-true b 32 e) refl
    cases false true e f h = rw (eqb-true b 9 f) refl
    cases false false e f h = cc

after_pad : (e : Option (List ℕ)) (rest : List ℕ) → Stops is_ows (print_extension e ++ (print_end crlf ++ rest))
after_pad None rest = refl
after_pad (Some t) rest = refl

after_digits : (pad : List ℕ) (e : Option (List ℕ)) (rest : List ℕ) → list_all is_ows pad ≡ true → Stops is_ascii_hexdigit (pad ++ (print_extension e ++ (print_end crlf ++ rest)))
after_digits [] None rest h = refl
after_digits [] (Some t) rest h = refl
after_digits (b ∷ pad) e rest h = ows_no_digit b (and_parts (is_ows b) (list_all is_ows pad) h).0

extension_read : (e : Option (List ℕ)) (rest : List ℕ) → IsExtension e → extension_of (print_extension e ++ (print_end crlf ++ rest)) ≡ e
extension_read None rest h = refl
extension_read (Some t) rest h = rw (span_stops is_extension_byte t (print_end crlf ++ rest) (list_all-from_AllPass is_extension_byte t h) refl) refl

pub guessed : (l : ChunkLine) (rest : List ℕ) → IsChunkLine l → guess_line (print_chunk_line l ++ rest) ≡ l
unfolding print_chunk_line
guessed l rest k =
    let pad = list_all-from_AllPass is_ows l.pad k.pad in
    let tail = print_extension l.extension ++ (print_end crlf ++ rest) in
    let shape : print_chunk_line l ++ rest ≡ l.digits ++ (l.pad ++ tail) = simp append_assoc in
    let d = span_stops is_ascii_hexdigit l.digits (l.pad ++ tail) (list_all-from_AllPass is_ascii_hexdigit l.digits k.digits.2) (after_digits l.pad l.extension rest pad) in
    let p = span_stops is_ows l.pad tail pad (after_pad l.extension rest) in
    ap guess_line shape ∙ rw (d, p, extension_read l.extension rest k.extension) refl

pub size_reads : (line : List ℕ) (l : ChunkLine) (rest : List ℕ) → ReadsChunkLine line l rest → size_of line ≡ Some (chunk_size l)
size_reads line l rest r =
    let g : guess_line line ≡ l = ap guess_line r.1 ∙ guessed l rest r.0 in
    let front : take (length (print_chunk_line l)) line ≡ print_chunk_line l = ap (take (length (print_chunk_line l))) r.1 ∙ take-append_seam (print_chunk_line l) rest in
    let test : is_size_line line l ≡ true =
    rw (le-leb 1 (length l.digits) r.0.digits.0, le-leb (length l.digits) 16 r.0.digits.1, (bytes_eq-Decides (take (length (print_chunk_line l)) line) (print_chunk_line l)).1 front) refl in
    ap (λ k. cond (is_size_line line k) (Some (chunk_size k)) None) g ∙ rw test refl

extension_ok : (text : List ℕ) → IsExtension (extension_of text)
extension_ok [] = tt
extension_ok (b ∷ bs) = cases (b == 59)
  where
    cases : (t : Bool) → IsExtension (cond t (Some (span is_extension_byte bs).0) None)
    cases true = AllPass-from_list_all is_extension_byte (span is_extension_byte bs).0 (span_all is_extension_byte bs)
    cases false = tt

pub size_none : (line : List ℕ) → ((l : ChunkLine) (rest : List ℕ) → ReadsChunkLine line l rest → ⊥) → size_of line ≡ None
size_none line none = cases (is_size_line line (guess_line line)) refl
  where
    cases : (b : Bool) → is_size_line line (guess_line line) ≡ b → cond b (Some (chunk_size (guess_line line))) None ≡ None
    cases false e = refl
    cases true e =
        let l = guess_line line in
        let a = and_parts (nat_lt 0 (length l.digits) && nat_le (length l.digits) 16) (bytes_eq (take (length (print_chunk_line l)) line) (print_chunk_line l)) e in
        let d = and_parts (nat_lt 0 (length l.digits)) (nat_le (length l.digits) 16) a.0 in
        let valid : IsChunkLine l = record {
          digits = (leb-true 1 (length l.digits) d.0, leb-true (length l.digits) 16 d.1, AllPass-from_list_all is_ascii_hexdigit l.digits (span_all is_ascii_hexdigit line));
          pad = AllPass-from_list_all is_ows l.pad (span_all is_ows (span is_ascii_hexdigit line).1);
          extension = extension_ok (span is_ows (span is_ascii_hexdigit line).1).1;
        } in
        absurd (none l (drop (length (print_chunk_line l)) line)
        (valid, sym (take-append-drop (length (print_chunk_line l)) line) ∙ ap (λ t. t ++ drop (length (print_chunk_line l)) line) ((bytes_eq-Decides _ _).0 a.1)))

pub size_given : (line : List ℕ) (r : Option ℕ)
    → IfSome r (λ size. (l : ChunkLine) × (rest : List ℕ) × ReadsChunkLine line l rest × (size ≡ chunk_size l))
    → IfNone r ((l : ChunkLine) (rest : List ℕ) → ReadsChunkLine line l rest → ⊥) → r ≡ size_of line
size_given line None some none = sym (size_none line none)
size_given line (Some n) some none = ap Some some.3 ∙ sym (size_reads line some.0 some.1 some.2)
