-- The sending of a text to a client, in pieces of any length that isn't 0 (RFC 9112, sections 6 and 7.1).
use Rattle.std.specs.Prelude.{◌≡◌, ℕ, ◌+◌, ◌-◌, ◌<◌, ◌≤◌, not, ◌==◌, min, List, [], ◌∷◌, ◌++◌, length, take, drop, Option}
use Rattle.std.specs.Prelude.{unwrap_or, ⊤, codes}
use Rattle.std.specs.List.{concat, position}
use Rattle.std.specs.Int.{w64, to_be_bytes}
use Rattle.std.specs.Io.KnownBytes.{Appends}
use Rattle.hex.specs.Hex.{encode_lower}
use Rattle.acng_grow.specs.declared.sending.Sending.{Sending}
use Rattle.acng_grow.specs.declared.sending.Sending.TheVariants.{Length, Chunked, ToEnd}

-- how many digits are zeros before another one; the last digit stays
abbrev pub zeros : List ℕ → ℕ
zeros digits = unwrap_or (position (λ d. not (d == 48)) (take 15 digits)) 15

-- sixteen digits, and CR LF
abbrev pub long_line : ℕ → List ℕ
long_line n = encode_lower (to_be_bytes w64 n) ++ 13 ∷ 10 ∷ []

-- the size in lower-case hexadecimal without leading zeros, and CR LF
abbrev pub size_line : ℕ → List ℕ
size_line n = drop (zeros (long_line n)) (long_line n)

abbrev pub chunk : List ℕ → List ℕ
chunk piece = size_line (length piece) ++ (piece ++ 13 ∷ 10 ∷ [])

-- a piece as it is sent
abbrev pub piece_text : Sending → List ℕ → List ℕ
piece_text Length piece = piece
piece_text Chunked piece = chunk piece
piece_text ToEnd piece = piece

abbrev pub framed : Sending → List (List ℕ) → List ℕ
framed sending [] = []
framed sending (p ∷ ps) = piece_text sending p ++ framed sending ps

-- what follows a whole body
abbrev pub last_text : Sending → List ℕ
last_text Length = []
last_text Chunked = codes "0\r\n\r\n"
last_text ToEnd = []

-- no piece is empty
abbrev pub AreSome : List (List ℕ) → Type 0
AreSome [] = ⊤
AreSome (p ∷ ps) = (0 < length p) × AreSome ps

-- the text was sent in pieces that aren't empty, and then this end
pub record Sends (sending : Sending) (text end : List ℕ) (old new : Option (List ℕ)) : Type 0 where
  pub pieces : List (List ℕ)
  pub some : AreSome pieces
  pub cut : concat pieces ≡ text
  pub bytes : Appends old new (framed sending pieces ++ end)

-- how many of a piece's bytes are among the first k of what is sent for it
abbrev pub counted_in : Sending → List ℕ → ℕ → ℕ
counted_in Length piece k = min k (length piece)
counted_in Chunked piece k = min (k - length (size_line (length piece))) (length piece)
counted_in ToEnd piece k = min k (length piece)

-- the link failed in a piece, of which it took so many bytes
pub record Breaks (sending : Sending) (piece : List ℕ) (taken : ℕ) (old new : Option (List ℕ)) : Type 0 where
  pub k : ℕ
  pub bytes : Appends old new (take k (piece_text sending piece))
  pub count : taken ≡ counted_in sending piece k

-- the link failed after pieces, in one more, which stand in the part in order
pub record BreaksIn (sending : Sending) (part : List ℕ) (sent : ℕ) (old new : Option (List ℕ)) : Type 0 where
  pub mid : Option (List ℕ)
  pub piece : List ℕ
  pub before : ℕ
  pub taken : ℕ
  pub some : 0 < length piece
  pub few : before + length piece ≤ length part
  pub stands : take (length piece) (drop before part) ≡ piece
  pub sends : Sends sending (take before part) [] old mid
  pub breaks : Breaks sending piece taken mid new
  pub count : sent ≡ before + taken

-- the link failed in what follows the whole part
pub record BreaksAfter (sending : Sending) (part : List ℕ) (sent : ℕ) (old new : Option (List ℕ)) : Type 0 where
  pub k : ℕ
  pub sends : Sends sending part (take k (last_text sending)) old new
  pub count : sent ≡ length part

-- so many bytes went out in pieces; where they are told, they are the first of the part
pub record HasGone (sending : Sending) (told : Type 0) (part : List ℕ) (sent : ℕ) (old new : Option (List ℕ)) : Type 0 where
  pub bytes : List ℕ
  pub count : length bytes ≡ sent
  pub front : told → bytes ≡ take sent part
  pub sends : Sends sending bytes [] old new
