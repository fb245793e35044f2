-- The limits of heads and chunks, all of them this project's own.
use Rattle.std.specs.Prelude.{ℕ}

-- the bytes of a head, and of the lines after a chunked body
abbrev pub most_head : ℕ
most_head = 16384

-- the fields of a head
abbrev pub most_fields : ℕ
most_fields = 64

-- the bytes of a chunk's size line
abbrev pub most_size_line : ℕ
most_size_line = 1024
