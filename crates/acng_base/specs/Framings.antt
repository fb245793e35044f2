-- How the head of an answer frames its body (RFC 9112, section 6.3), and how many bytes it says are due.
use Rattle.std.specs.Prelude.{ℕ, ◌+◌, ◌-◌, ◌||◌, ◌==◌, List, [], ◌∷◌, cond, codes, bytes_eq, Option, Some, None, option_map}
use Rattle.std.specs.Option.{option_or}
use Rattle.std.specs.Str.{str_to_ascii_lowercase}
use Rattle.acng_base.specs.Heads.{Head, values}
use Rattle.acng_base.specs.Fields.{agreed, content_range}

-- no body; chunks; to the connection's end; or so many bytes
pub data Framing : Type 0 where
  Empty Chunks ToEnd : Framing
  Counted : (n : ℕ) → Framing

-- how many bytes the body of a 206 with a range has (RFC 9110, section 15.3.7)
abbrev pub part_len : Head → Option ℕ
part_len h = cond (h.status == 206) (option_map (λ r. r.1 + 1 - r.0) (content_range h)) None

-- a length counts the body, but one that isn't the range's is refused
abbrev pub counted : Option ℕ → Option ℕ → Option Framing
counted None part = None
counted (Some n) None = Some (Counted n)
counted (Some n) (Some m) = cond (n == m) (Some (Counted n)) None

-- by the values of `Content-Length`
abbrev pub by_length : Head → List (List ℕ) → Option Framing
by_length h [] = Some ToEnd
by_length h (v ∷ vs) = counted (agreed (v ∷ vs)) (part_len h)

-- by the values of `Transfer-Encoding`, which goes before a length
abbrev pub by_encoding : Head → List (List ℕ) → Option Framing
by_encoding h [] = by_length h (values (codes "content-length") h.fields)
by_encoding h (v ∷ []) = cond (bytes_eq (str_to_ascii_lowercase v) (codes "chunked")) (Some Chunks) None
by_encoding h (v ∷ w ∷ vs) = None

-- how the body of a final head is framed; None where a field is refused
abbrev pub framing : Head → Option Framing
framing h = cond (h.status == 204 || h.status == 304) (Some Empty) (by_encoding h (values (codes "transfer-encoding") h.fields))

-- the count of a body that is counted
abbrev pub count_of : Framing → Option ℕ
count_of Empty = None
count_of Chunks = None
count_of ToEnd = None
count_of (Counted n) = Some n

abbrev pub count_by : Option Framing → Option ℕ
count_by None = None
count_by (Some f) = count_of f

-- the length by which the head frames its body
abbrev pub stated_length : Head → Option ℕ
stated_length h = count_by (framing h)

-- the total that a 200 states
abbrev pub total_of : Head → Option ℕ
total_of h = cond (h.status == 200) (stated_length h) None

-- how many bytes the body must have, where the head says it: those of a 206's range however they are framed, else the
-- counted ones
abbrev pub due_of : Head → Option ℕ
due_of h = option_or (part_len h) (stated_length h)
