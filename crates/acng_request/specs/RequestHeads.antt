-- The head of a request (RFC 9112, sections 2 to 5), as a function of its block, by the grammar of `httparse`.
use Rattle.std.specs.Prelude.{ℕ, suc, ◌-◌, Bool, ◌&&◌, List, [], ◌∷◌, length, map, take, slice_index, nat_le, nat_lt, Option}
use Rattle.std.specs.Prelude.{Some, None, option_map, cond, bytes_eq}
use Rattle.std.specs.List.{list_all}
use Rattle.std.specs.Str.{is_utf8}
use Rattle.httparse.specs.Grammar.{LineEnd, lf, RequestHead, print_request, is_token, is_uri_byte}
use Rattle.httparse.specs.Spans.{name_and_value}
use Rattle.acng_base.specs.Cuts.{space}
use Rattle.acng_base.specs.Lines.{lines}
use Rattle.acng_base.specs.Heads.{at_byte, fields_of, is_field}

-- method, target, the minor number of HTTP/1, and the names and values of the fields
pub record Head : Type 0 where
  pub method : List ℕ
  pub target : List ℕ
  pub minor : ℕ
  pub fields : List (List ℕ × List ℕ)

-- a request line and the lines behind it, as the parts of a head. The version's last byte is its eighth.
abbrev pub with_line : List ℕ → LineEnd → List (List ℕ × LineEnd) → RequestHead
with_line line e ls =
    let method = at_byte space line in
    let target = at_byte space method.1 in
    let after = fields_of ls in
    record {
      blank = [];
      method = method.0;
      target = target.0;
      minor = slice_index target.1 7 - 48;
      line_end = e;
      fields = after.0;
      last = after.1;
    }

abbrev pub after_blank : LineEnd → RequestHead → RequestHead
after_blank e h = record h { blank = e ∷ h.blank }

-- a block's lines as the parts of a request head, whether they are one or not
abbrev pub guess : List (List ℕ × LineEnd) → RequestHead
guess [] = record { blank = []; method = []; target = []; minor = 0; line_end = lf; fields = []; last = lf }
guess (([], e) ∷ ls) = after_blank e (guess ls)
guess ((b ∷ line, e) ∷ ls) = with_line (b ∷ line) e ls

-- each part is of its class
abbrev pub is_request_head : RequestHead → Bool
is_request_head h =
    is_token h.method && nat_lt 0 (length h.target) && list_all is_uri_byte h.target && is_utf8 h.target && nat_le h.minor 1
    && list_all is_field h.fields

-- it is a head, and the block begins with it
abbrev pub begins_with : List ℕ → RequestHead → Bool
begins_with block h = is_request_head h && bytes_eq (take (length (print_request h)) block) (print_request h)

-- the request head at the front of a block
abbrev pub request_of : List ℕ → Option RequestHead
request_of block = let h = guess (lines block) in cond (begins_with block h) (Some h) None

abbrev pub parts_of : RequestHead → Head
parts_of h = record { method = h.method; target = h.target; minor = h.minor; fields = map name_and_value h.fields }

-- the same as method, target, minor number and fields
abbrev pub head_of : List ℕ → Option Head
head_of block = option_map parts_of (request_of block)

-- how many lines stand before the first empty one
abbrev pub before_empty : List (List ℕ × LineEnd) → ℕ
before_empty [] = 0
before_empty (([], e) ∷ ls) = 0
before_empty ((b ∷ line, e) ∷ ls) = suc (before_empty ls)

-- how many lines stand between a block's first line that isn't empty and the empty one that ends it
abbrev pub inner_lines : List (List ℕ × LineEnd) → ℕ
inner_lines [] = 0
inner_lines (([], e) ∷ ls) = inner_lines ls
inner_lines ((b ∷ line, e) ∷ ls) = before_empty ls
