-- Lines, and the blocks of lines that end at an empty one (RFC 9112, section 2.2).
use Rattle.std.specs.Prelude.{◌≡◌, ◌<◌, ◌≤◌, length, ℕ, ◌+◌, List, [], ◌∷◌, Option, Some, None, option_map, option_and_then, ◌==◌, cond}
use Rattle.httparse.specs.Grammar.{LineEnd, crlf, lf, print_end}
use Rattle.acng_base.specs.Cuts.{carriage_return, line_feed}
use Rattle.acng_base.specs.declared.block.Scan.{Scan}
use Rattle.acng_base.specs.declared.block.Scan.TheVariants.{End, Incomplete}
use Rattle.acng_base.specs.declared.block.LineState.{LineState}
use Rattle.acng_base.specs.declared.block.LineState.TheVariants.{Before, BeforeCr, Inside, Between, BetweenCr}

-- a byte before the lines that follow: a line feed ends a line, and a carriage return right before it belongs to the end
abbrev pub with_byte : ℕ → List (List ℕ × LineEnd) → List (List ℕ × LineEnd)
with_byte b [] = []
with_byte b (([], lf) ∷ ls) = cond (b == carriage_return) (([], crlf) ∷ ls) ((b ∷ [], lf) ∷ ls)
with_byte b (([], crlf) ∷ ls) = (b ∷ [], crlf) ∷ ls
with_byte b ((c ∷ line, e) ∷ ls) = (b ∷ c ∷ line, e) ∷ ls

-- the lines of a text, each with its end; bytes after the last line feed are no line
abbrev pub lines : List ℕ → List (List ℕ × LineEnd)
lines [] = []
lines (b ∷ bs) = cond (b == line_feed) (([], lf) ∷ lines bs) (with_byte b (lines bs))

-- the bytes of a line and of its end
abbrev pub line_len : List ℕ × LineEnd → ℕ
line_len l = length l.0 + length (print_end l.1)

-- the bytes through the first empty line; None where there is none
abbrev pub through_empty : List (List ℕ × LineEnd) → Option ℕ
through_empty [] = None
through_empty (([], e) ∷ ls) = Some (line_len ([], e))
through_empty ((b ∷ line, e) ∷ ls) = option_map (λ n. line_len (b ∷ line, e) + n) (through_empty ls)

-- the bytes through the first empty line after one that isn't empty; None where there is none
abbrev pub through_head : List (List ℕ × LineEnd) → Option ℕ
through_head [] = None
through_head (([], e) ∷ ls) = option_map (λ n. line_len ([], e) + n) (through_head ls)
through_head ((b ∷ line, e) ∷ ls) = option_map (λ n. line_len (b ∷ line, e) + n) (through_empty ls)

-- how many bytes of the text belong to its head; None where the head doesn't end in the text
abbrev pub head_block_len : List ℕ → Option ℕ
head_block_len text = through_head (lines text)

-- how many bytes of the text belong to its section of lines, as the trailers of a chunked body
abbrev pub section_len : List ℕ → Option ℕ
section_len text = through_empty (lines text)

-- an end was found where the text has one
abbrev pub FindsEnd : Option ℕ → Scan → Type 0
FindsEnd len (End n) = len ≡ Some n
FindsEnd len (Incomplete state) = len ≡ None

-- ---- the same a byte at a time, as proofs use it

-- after one more byte; None where that byte ends the block
abbrev pub after_byte : LineState → ℕ → Option LineState
after_byte Before b = cond (b == 10) (Some Before) (cond (b == 13) (Some BeforeCr) (Some Inside))
after_byte BeforeCr b = cond (b == 10) (Some Before) (Some Inside)
after_byte Inside b = cond (b == 10) (Some Between) (Some Inside)
after_byte Between b = cond (b == 10) None (cond (b == 13) (Some BetweenCr) (Some Inside))
after_byte BetweenCr b = cond (b == 10) None (Some Inside)

-- a block that ends with this byte has it alone; else it has it and what follows
abbrev pub one_more : (LineState → Option ℕ) → Option LineState → Option ℕ
one_more rest None = Some 1
one_more rest (Some n) = option_map (λ k. 1 + k) (rest n)

-- how many bytes of the text belong to the block; None where it doesn't end in the text
abbrev pub block_len : LineState → List ℕ → Option ℕ
block_len m [] = None
block_len m (b ∷ bs) = one_more (λ n. block_len n bs) (after_byte m b)

-- where the text stands after these bytes, if they don't end the block
abbrev pub state_after : LineState → List ℕ → Option LineState
state_after m [] = Some m
state_after m (b ∷ bs) = option_and_then (λ n. state_after n bs) (after_byte m b)

-- what a scan says
abbrev pub Scans : LineState → List ℕ → Scan → Type 0
Scans m text (End n) = (block_len m text ≡ Some n) × (0 < n) × (n ≤ length text)
Scans m text (Incomplete n) = state_after m text ≡ Some n
