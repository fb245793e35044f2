-- What the bytes of a connection ask next: a function of them, from the end of the request before on.
use Rattle.std.specs.Prelude.{ℕ, Bool, ◌||◌, ◌==◌, List, take, drop, length, nat_le, Option, Some, None, option_and_then, cond}
use Rattle.std.specs.Prelude.{codes, bytes_eq, Result, Ok, Err}
use Rattle.acng_base.specs.Limits.{most_head, most_fields}
use Rattle.acng_base.specs.Lines.{lines, head_block_len}
use Rattle.acng_request.specs.RequestHeads.{Head, head_of, inner_lines}
use Rattle.acng_request.specs.RequestFields.{value_of, part_of, since, closes, has_body}
use Rattle.acng_request.specs.declared.got.Request.{Request}
use Rattle.acng_request.specs.declared.got.HeadFault.{HeadFault}
use Rattle.acng_request.specs.declared.got.HeadFault.TheVariants.{BadHead, TooLarge, Method, HasBody}

-- a request, and the bytes behind its head; why there is none; or the bytes end before a head does
pub data Next : Type 0 where
  Asks : (r : Request) (rest : List ℕ) → Next
  Refuses : (fault : HeadFault) → Next
  Ends : Next

-- the methods that are taken
abbrev pub is_served : List ℕ → Bool
is_served method = bytes_eq method (codes "GET") || bytes_eq method (codes "HEAD") || bytes_eq method (codes "CONNECT")

-- the request that a head makes
abbrev pub asked : Head → Request
asked h = record {
  method = h.method;
  target = h.target;
  part = option_and_then part_of (value_of (codes "range") h.fields);
  if_range = value_of (codes "if-range") h.fields;
  since = since h.fields;
  close = h.minor == 0 || closes (value_of (codes "connection") h.fields);
  minor = h.minor;
}

abbrev pub judged : Head → Result Request HeadFault
judged h = cond (is_served h.method) (cond (has_body h.fields) (Err HasBody) (Ok (asked h))) (Err Method)

abbrev pub by_head : Option Head → Result Request HeadFault
by_head None = Err BadHead
by_head (Some h) = judged h

-- the request of a whole block, or the first refusal; the limit of 64 lines is this project's
abbrev pub read_block : List ℕ → Result Request HeadFault
read_block block = cond (nat_le (inner_lines (lines block)) most_fields) (by_head (head_of block)) (Err TooLarge)

abbrev pub before_rest : List ℕ → Result Request HeadFault → Next
before_rest rest (Ok r) = Asks r rest
before_rest rest (Err fault) = Refuses fault

-- a head goes through the first empty line after one that isn't empty. It is judged once it is whole, or 16,384 bytes
-- are there, which is this project's limit.
abbrev pub by_block : List ℕ → Option ℕ → Next
by_block bytes None = cond (nat_le most_head (length bytes)) (Refuses TooLarge) Ends
by_block bytes (Some n) = before_rest (drop n bytes) (read_block (take n bytes))

abbrev pub next : List ℕ → Next
next bytes = by_block bytes (head_block_len (take most_head bytes))
