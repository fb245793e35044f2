-- The reading of an answer (RFC 9112, section 6): a function of the whole text, of a mark whether the connection ended
-- after it, and of a limit of bytes.
use Rattle.std.specs.Prelude.{◌≡◌, ◌≤◌, ℕ, zero, suc, ◌+◌, ◌-◌, ◌^◌, Bool, true, false, ◌&&◌, ◌==◌, List, [], ◌∷◌, ◌++◌, length, take, drop, nat_le, nat_lt, Option, Some, None, option_map, cond}
use Rattle.acng_base.specs.Limits.{most_head, most_size_line}
use Rattle.acng_base.specs.Lines.{head_block_len, section_len}
use Rattle.acng_base.specs.Heads.{Head, head_of}
use Rattle.acng_base.specs.Framings.{Framing, Empty, Chunks, ToEnd, Counted, framing, part_len, due_of}
use Rattle.acng_base.specs.SizeLines.{first_line_len, size_of}

-- how the text of an answer ended: its last byte came; the connection ended before it; more may come; or a byte, or a
-- block of bytes that begins at the place, that no answer has
pub data Outcome : Type 0 where
  Whole Early Open : Outcome
  Bad : (at : ℕ) → Outcome

-- the heads of status 100 to 199, the final head, the body so far, and the outcome
pub record Reading : Type 0 where
  pub interim : List Head
  pub head : Option Head
  pub body : List ℕ
  pub outcome : Outcome

abbrev pub nothing : Outcome → Reading
nothing outcome = record { interim = []; head = None; body = []; outcome = outcome }

abbrev pub just : List ℕ → Outcome → Reading
just body outcome = record { interim = []; head = None; body = body; outcome = outcome }

abbrev pub after_interim : Head → Reading → Reading
after_interim h r = record { interim = h ∷ r.interim; head = r.head; body = r.body; outcome = r.outcome }

abbrev pub after_head : Head → Reading → Reading
after_head h r = record { interim = []; head = Some h; body = r.body; outcome = r.outcome }

abbrev pub after_body : List ℕ → Reading → Reading
after_body xs r = record { interim = r.interim; head = r.head; body = xs ++ r.body; outcome = r.outcome }

-- the text ends where more is due
abbrev pub wants_more : Bool → Outcome
wants_more ended = cond ended Early Open

-- so many bytes of a block have come without its end: it is bad at its first byte
abbrev pub unended : ℕ → ℕ → Bool → List ℕ → Reading
unended most at ended text = nothing (cond (nat_le most (length text)) (Bad at) (wants_more ended))

-- ---- bodies that aren't in chunks; `at` is the place of the text's first byte

-- so many bytes
abbrev pub counted_body : ℕ → Bool → List ℕ → Reading
counted_body n ended text = just (take n text) (cond (nat_le n (length text)) Whole (wants_more ended))

-- to the connection's end; where a part is due, so many bytes to the end
abbrev pub open_body : Option ℕ → ℕ → Bool → List ℕ → Reading
open_body None at ended text = just text (cond ended Whole Open)
open_body (Some n) at ended text =
    cond (nat_lt n (length text))
    (just (take n text) (Bad (at + n)))
    (just text (cond (length text == n) (cond ended Whole Open) (wants_more ended)))

-- ---- chunks (section 7.1); `part` is how many bytes of a part are left

-- what follows the chunk of size 0, at most so many bytes: field lines, which are skipped, and an empty one
abbrev pub on_trailer : ℕ → ℕ → Bool → List ℕ → Option ℕ → Reading
on_trailer most at ended text None = unended most at ended text
on_trailer most at ended text (Some n) = nothing Whole

abbrev pub trailer : ℕ → Bool → List ℕ → Reading
trailer at ended text = on_trailer most_head at ended text (section_len (take most_head text))

-- the CR LF after a chunk's bytes: what follows it, or the outcome
pub data Seam : Type 0 where
  Joined : (rest : List ℕ) → Seam
  Torn : Outcome → Seam

abbrev pub seam : ℕ → Bool → List ℕ → Seam
seam at ended [] = Torn (wants_more ended)
seam at ended (b ∷ []) = Torn (cond (b == 13) (wants_more ended) (Bad at))
seam at ended (b ∷ c ∷ rest) = cond (b == 13) (cond (c == 10) (Joined rest) (Torn (Bad (at + 1)))) (Torn (Bad at))

-- what is left of a part after n bytes
abbrev pub part_after : Option ℕ → ℕ → Option ℕ
part_after part n = option_map (λ m. m - n) part

-- what is left of a part, where that is less than n bytes
abbrev pub less_than : Option ℕ → ℕ → Option ℕ
less_than None n = None
less_than (Some m) n = cond (nat_lt m n) (Some m) None

-- whether bytes of a part are left
abbrev pub is_due : Option ℕ → Bool
is_due None = false
is_due (Some m) = nat_lt 0 m

-- the chunk of size 0; before the end of a part its size line is bad
abbrev pub on_last : ℕ → ℕ → Bool → List ℕ → Bool → Reading
on_last at line_at ended text true = nothing (Bad line_at)
on_last at line_at ended text false = trailer at ended text

abbrev pub last_chunk : Option ℕ → ℕ → ℕ → Bool → List ℕ → Reading
last_chunk part at line_at ended text = on_last at line_at ended text (is_due part)

-- a chunk of more bytes than the m that are left of the part
abbrev pub overfull : ℕ → ℕ → Bool → List ℕ → Reading
overfull m at ended text = just (take m text) (cond (nat_lt m (length text)) (Bad (at + m)) (wants_more ended))

-- after a chunk's bytes; `next` is what is read of a text at a place
abbrev pub on_seam : (ℕ → List ℕ → Reading) → ℕ → Seam → Reading
on_seam next at (Torn outcome) = nothing outcome
on_seam next at (Joined rest) = next (at + 2) rest

-- a chunk's n bytes, and what `next` reads of the text after the CR LF, by what is left of the part
abbrev pub on_bytes : (Option ℕ → ℕ → List ℕ → Reading) → ℕ → Option ℕ → ℕ → Bool → List ℕ → Bool → Reading
on_bytes next n part at ended text true = just text (wants_more ended)
on_bytes next n part at ended text false =
    after_body (take n text) (on_seam (next (part_after part n)) (at + n) (seam (at + n) ended (drop n text)))

abbrev pub on_room : (Option ℕ → ℕ → List ℕ → Reading) → ℕ → Option ℕ → ℕ → Bool → List ℕ → Option ℕ → Reading
on_room next n part at ended text (Some m) = overfull m at ended text
on_room next n part at ended text None = on_bytes next n part at ended text (nat_lt (length text) n)

abbrev pub chunk_bytes : (Option ℕ → ℕ → List ℕ → Reading) → ℕ → Option ℕ → ℕ → Bool → List ℕ → Reading
chunk_bytes next n part at ended text = on_room next n part at ended text (less_than part n)

abbrev pub on_size : (Option ℕ → ℕ → List ℕ → Reading) → Option ℕ → ℕ → ℕ → Bool → List ℕ → Option ℕ → Reading
on_size next part at line_at ended text None = nothing (Bad line_at)
on_size next part at line_at ended text (Some zero) = last_chunk part at line_at ended text
on_size next part at line_at ended text (Some (suc m)) = chunk_bytes next (suc m) part at ended text

-- a size line is judged when it is whole, or when 1,024 bytes of it have come without its end
abbrev pub on_line : (Option ℕ → ℕ → List ℕ → Reading) → Option ℕ → ℕ → Bool → List ℕ → Option ℕ → Reading
on_line next part at ended text None = unended most_size_line at ended text
on_line next part at ended text (Some n) = on_size next part (at + n) at ended (drop n text) (size_of (take n text))

-- chunks, and the lines after the last one; the fuel is more than the text's length
abbrev pub chunks : ℕ → Option ℕ → ℕ → Bool → List ℕ → Reading
chunks zero part at ended text = nothing (wants_more ended)
chunks (suc fuel) part at ended text =
    on_line (λ p a rest. chunks fuel p a ended rest) part at ended text (first_line_len (take most_size_line text))

abbrev pub from_chunk : Option ℕ → ℕ → Bool → List ℕ → Reading
from_chunk part at ended text = chunks (suc (length text)) part at ended text

abbrev pub body : Framing → Option ℕ → ℕ → Bool → List ℕ → Reading
body Empty part at ended text = nothing Whole
body (Counted n) part at ended text = counted_body n ended text
body ToEnd part at ended text = open_body part at ended text
body Chunks part at ended text = from_chunk part at ended text

-- ---- heads

-- a head that another one follows (RFC 9110, section 15.2)
abbrev pub is_interim : Head → Bool
is_interim h = nat_le 100 h.status && nat_lt h.status 200

-- the final head, and its body
abbrev pub framed : Head → ℕ → ℕ → Bool → List ℕ → Option Framing → Reading
framed h head_at at ended text None = nothing (Bad head_at)
framed h head_at at ended text (Some f) = after_head h (body f (part_len h) at ended text)

-- a head of n bytes; `next` is what is read of a text at a place
abbrev pub on_kind : (ℕ → List ℕ → Reading) → Head → ℕ → ℕ → Bool → List ℕ → Bool → Reading
on_kind next h at n ended text true = after_interim h (next (at + n) (drop n text))
on_kind next h at n ended text false = framed h at (at + n) ended (drop n text) (framing h)

abbrev pub on_head : (ℕ → List ℕ → Reading) → ℕ → ℕ → Bool → List ℕ → Option Head → Reading
on_head next at n ended text None = nothing (Bad at)
on_head next at n ended text (Some h) = on_kind next h at n ended text (is_interim h)

-- a block is judged when it is whole, or when 16,384 bytes of it have come without its end
abbrev pub on_block : (ℕ → List ℕ → Reading) → ℕ → Bool → List ℕ → Option ℕ → Reading
on_block next at ended text None = unended most_head at ended text
on_block next at ended text (Some n) = on_head next at n ended text (head_of (take n text))

-- heads, and the body of the final one; the fuel is more than the text's length
abbrev pub heads : ℕ → ℕ → Bool → List ℕ → Reading
heads zero at ended text = nothing (wants_more ended)
heads (suc fuel) at ended text = on_block (λ a rest. heads fuel a ended rest) at ended text (head_block_len (take most_head text))

-- from the first byte of a head, at this place
abbrev pub from_head : ℕ → Bool → List ℕ → Reading
from_head at ended text = heads (suc (length text)) at ended text

-- ---- the limit

-- a byte came at the limit of an answer that hadn't ended before it
abbrev pub cut_off : ℕ → Outcome → Outcome
cut_off limit Open = Bad limit
cut_off limit Whole = Whole
cut_off limit Early = Early
cut_off limit (Bad at) = Bad at

abbrev pub at_limit : ℕ → Reading → Reading
at_limit limit r = record { interim = r.interim; head = r.head; body = r.body; outcome = cut_off limit r.outcome }

abbrev pub on_limit : ℕ → ℕ → (Bool → List ℕ → Reading) → Bool → List ℕ → Bool → Reading
on_limit left limit read ended text true = read ended text
on_limit left limit read ended text false = at_limit limit (read false (take left text))

-- a reading of a text of which only so many bytes may come before the limit
abbrev pub within : ℕ → ℕ → (Bool → List ℕ → Reading) → Bool → List ℕ → Reading
within left limit read ended text = on_limit left limit read ended text (nat_le (length text) left)

-- what an answer's text reads as
abbrev pub reading : List ℕ → Bool → ℕ → Reading
reading text ended limit = within limit limit (from_head 0) ended text

-- the limit wherever none is named
abbrev pub answer_limit : ℕ
answer_limit = 2 ^ 41

-- ---- what is true of every reading (proofs/Readings)

-- Open only where the connection goes on, and Whole only behind a head
pub record EndsWell (ended : Bool) (r : Reading) : Type 0 where
  pub going : r.outcome ≡ Open → ended ≡ false
  pub headed : r.outcome ≡ Whole → r.head ≡ None → ⊥

-- a body of at most n bytes, and of all n where the answer is whole
pub record HasBytes (n : ℕ) (r : Reading) : Type 0 where
  pub most : length r.body ≤ n
  pub all : r.outcome ≡ Whole → length r.body ≡ n

-- where the head says how many bytes are due, the body has them
abbrev pub HasDue : Reading → Type 0
HasDue r = (h : Head) (n : ℕ) → r.head ≡ Some h → due_of h ≡ Some n → HasBytes n r

-- the head is a final one, and none of its fields is refused
abbrev pub IsTaken : Head → Type 0
IsTaken h = (is_interim h ≡ false) × (f : Framing) × (framing h ≡ Some f)
