-- The size line of a chunk (RFC 9112, section 7.1), as a function of its text, by the grammar of `httparse`.
use Rattle.std.specs.Prelude.{ℕ, ◌+◌, Bool, ◌&&◌, ◌==◌, List, [], ◌∷◌, length, take, cond, nat_le, nat_lt, bytes_eq, Option, Some, None, option_map}
use Rattle.std.specs.Char.{is_ascii_hexdigit}
use Rattle.httparse.specs.Grammar.{ChunkLine, print_chunk_line, chunk_size, is_ows, is_extension_byte}

-- the bytes of a class at the front, and the rest
abbrev pub span : (ℕ → Bool) → List ℕ → List ℕ × List ℕ
span p [] = ([], [])
span p (b ∷ bs) = let rest = span p bs in cond (p b) (b ∷ rest.0, rest.1) ([], b ∷ bs)

abbrev pub extension_of : List ℕ → Option (List ℕ)
extension_of [] = None
extension_of (b ∷ bs) = cond (b == 59) (Some (span is_extension_byte bs).0) None

-- a text as the parts of a size line, whether it is one or not
abbrev pub guess_line : List ℕ → ChunkLine
guess_line text =
    let digits = span is_ascii_hexdigit text in
    let pad = span is_ows digits.1 in
    record { digits = digits.0; pad = pad.0; extension = extension_of pad.1 }

-- 1 to 16 digits, and the text begins with the line
abbrev pub is_size_line : List ℕ → ChunkLine → Bool
is_size_line text l =
    nat_lt 0 (length l.digits) && nat_le (length l.digits) 16 && bytes_eq (take (length (print_chunk_line l)) text) (print_chunk_line l)

-- the size that a line gives
abbrev pub size_of : List ℕ → Option ℕ
size_of text = let l = guess_line text in cond (is_size_line text l) (Some (chunk_size l)) None

-- how many bytes the first line has, with its line feed
abbrev pub first_line_len : List ℕ → Option ℕ
first_line_len [] = None
first_line_len (b ∷ bs) = cond (b == 10) (Some 1) (option_map (λ k. 1 + k) (first_line_len bs))
