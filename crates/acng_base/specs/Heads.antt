-- The head of an answer (RFC 9112, section 4), as a function of its block, by the grammar of `httparse`.
use Rattle.std.specs.Prelude.{ℕ, ◌-◌, Bool, ◌&&◌, List, [], ◌∷◌, length, map, take, drop, slice_index, nat_le, Option, Some, None, option_and_then, ◌==◌, cond, bytes_eq, filter}
use Rattle.std.specs.List.{list_all}
use Rattle.std.specs.Str.{str_to_ascii_lowercase}
use Rattle.std.specs.Char.{is_ascii_digit}
use Rattle.httparse.specs.Grammar.{LineEnd, lf, Field, ResponseHead, print_response, status_code, is_token, is_value_byte, reason_phrase}
use Rattle.httparse.specs.Spans.{name_and_value}
use Rattle.acng_base.specs.Limits.{most_fields}
use Rattle.acng_base.specs.Lines.{lines}

-- status, and the names and values of the fields
pub record Head : Type 0 where
  pub status : ℕ
  pub fields : List (List ℕ × List ℕ)

-- what stands before the first such byte, and after it; all, where there is none
abbrev pub at_byte : ℕ → List ℕ → List ℕ × List ℕ
at_byte c [] = ([], [])
at_byte c (b ∷ bs) = let rest = at_byte c bs in cond (b == c) ([], bs) (b ∷ rest.0, rest.1)

abbrev pub field_of : List ℕ → LineEnd → Field
field_of line e = let parts = at_byte 58 line in record { name = parts.0; raw = parts.1; end = e }

-- the field lines before the first empty line, and its end
abbrev pub fields_of : List (List ℕ × LineEnd) → List Field × LineEnd
fields_of [] = ([], lf)
fields_of (([], e) ∷ ls) = ([], e)
fields_of ((b ∷ line, e) ∷ ls) = let rest = fields_of ls in (field_of (b ∷ line) e ∷ rest.0, rest.1)

-- the reason of a status line
abbrev pub reason_of : List ℕ → Option (List ℕ)
reason_of [] = None
reason_of (b ∷ bs) = Some bs

-- a block's lines as the parts of a response head, whether they are one or not
abbrev pub guess : List (List ℕ × LineEnd) → ResponseHead
guess [] = record { blank = []; minor = 0; digits = []; reason = None; line_end = lf; fields = []; last = lf }
guess (([], e) ∷ ls) =
    let h = guess ls in
    record {
      blank = e ∷ h.blank;
      minor = h.minor;
      digits = h.digits;
      reason = h.reason;
      line_end = h.line_end;
      fields = h.fields;
      last = h.last;
    }
guess ((b ∷ line, e) ∷ ls) =
    let after = fields_of ls in
    record {
      blank = [];
      minor = slice_index line 6 - 48;
      digits = take 3 (drop 8 line);
      reason = reason_of (drop 11 line);
      line_end = e;
      fields = after.0;
      last = after.1;
    }

abbrev pub is_field : Field → Bool
is_field f = is_token f.name && list_all is_value_byte f.raw

-- each part is of its class
abbrev pub is_response_head : ResponseHead → Bool
is_response_head h =
    nat_le h.minor 1 && length h.digits == 3 && list_all is_ascii_digit h.digits
    && list_all is_value_byte (reason_phrase h.reason) && list_all is_field h.fields

-- the response head at the front of a block
abbrev pub response_of : List ℕ → Option ResponseHead
response_of block =
    let h = guess (lines block) in
    cond (is_response_head h && bytes_eq (take (length (print_response h)) block) (print_response h)) (Some h) None

-- the same with at most 64 fields, as status and fields
abbrev pub head_of : List ℕ → Option Head
head_of block =
    option_and_then
    (λ h. cond (nat_le (length h.fields) most_fields) (Some (record { status = status_code h; fields = map name_and_value h.fields })) None)
    (response_of block)

-- the values of the fields of this name, letters' case aside
abbrev pub values : List ℕ → List (List ℕ × List ℕ) → List (List ℕ)
values name fields = map (λ f. f.1) (filter (λ f. bytes_eq (str_to_ascii_lowercase f.0) name) fields)
