-- A release file within its signature (RFC 9580, section 7).
use Rattle.std.specs.Prelude.{ℕ, ◌+◌, Bool, List, [], ◌∷◌, ◌++◌, drop, cond, codes, bytes_eq, Result, Ok, Err}
use Rattle.acng_base.specs.Cuts.{is_empty, pieces, line_feed}
use Rattle.acng_stanza.specs.Stanzas.{trimmed}
use Rattle.acng_index.specs.Texts.{and_then}
use Rattle.acng_index.specs.Packages.{begins_as}
use Rattle.acng_index.specs.Releases.{Listed, release_from}
use Rattle.acng_index.specs.declared.fault.IndexFault.{IndexFault}
use Rattle.acng_index.specs.declared.fault.IndexFault.TheVariants.{NoFrame}

-- the line is this one, but for blanks and carriage returns at its end
abbrev pub is_line : List ℕ → List ℕ → Bool
is_line wanted line = bytes_eq (trimmed line) wanted

abbrev pub begin_line : List ℕ
begin_line = codes "-----BEGIN PGP SIGNED MESSAGE-----"

abbrev pub signature_line : List ℕ
signature_line = codes "-----BEGIN PGP SIGNATURE-----"

-- a leading dash and blank are dropped
abbrev pub plain_line : List ℕ → List ℕ
plain_line line = cond (begins_as (codes "- ") line) (drop 2 line) line

-- the text inside a frame, and the number of its first line
pub record Framed : Type 0 where
  pub first : ℕ
  pub text : List ℕ

-- the text lines from line n on, each with its line feed
abbrev pub inside : ℕ → List (List ℕ) → Result (List ℕ) IndexFault
inside n [] = Err (NoFrame n)
inside n (l ∷ ls) =
    cond (is_line signature_line l) (Ok []) (and_then (inside (n + 1) ls) (λ rest. Ok (plain_line l ++ line_feed ∷ rest)))

-- lines that begin with `Hash:`, and an empty one
abbrev pub hashes : ℕ → List (List ℕ) → Result Framed IndexFault
hashes n [] = Err (NoFrame n)
hashes n (l ∷ ls) =
    cond (begins_as (codes "Hash:") l) (hashes (n + 1) ls)
    (cond (is_line [] l) (and_then (inside (n + 1) ls) (λ text. Ok (record { first = n + 1; text = text }))) (Err (NoFrame n)))

abbrev pub framed : List (List ℕ) → Result Framed IndexFault
framed [] = Err (NoFrame 1)
framed (l ∷ ls) = cond (is_line begin_line l) (hashes 2 ls) (Err (NoFrame 1))

-- without an empty piece behind the last line feed, which is no line
abbrev pub without_end : List (List ℕ) → List (List ℕ)
without_end [] = []
without_end (l ∷ []) = cond (is_empty l) [] (l ∷ [])
without_end (l ∷ m ∷ ls) = l ∷ without_end (m ∷ ls)

abbrev pub lines_of : List ℕ → List (List ℕ)
lines_of text = without_end (pieces text)

-- lines are counted in the whole file
abbrev pub inrelease : List ℕ → Result Listed IndexFault
inrelease text = and_then (framed (lines_of text)) (λ f. release_from f.first f.text)
