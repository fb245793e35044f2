-- What a reader makes of all that may follow.
use Rattle.std.specs.Prelude.{◌≡◌, ◌≤◌, ℕ, false, List, [], ◌∷◌, ◌++◌, length, Option, Some, None}
use Rattle.acng_base.specs.Cuts.{is_lf, pieces}
use Rattle.acng_stanza.specs.Stanzas.{Field, Reading, line_limit, from_lines, refused, ahead}
use Rattle.acng_stanza.specs.declared.fault.StanzaFault.{StanzaFault}

-- no line feed stands in the text
abbrev pub Unbroken : List ℕ → Type 0
Unbroken [] = Unit {0}
Unbroken (b ∷ bs) = (is_lf b ≡ false) × Unbroken bs

-- the stanza that isn't over, and the number of the line that comes next
pub record Unfinished : Type 0 where
  pub fields : List Field
  pub size : ℕ
  pub line : ℕ

-- the stanzas that wait, and the one that isn't over
pub record Lined : Type 0 where
  pub waiting : List (List Field)
  pub last : Unfinished

-- the bytes of a line that isn't over, and the refusal
pub record Reader : Type 0 where
  pub lines : Lined
  pub held : List ℕ
  pub fault : Option StanzaFault

pub record IsHeld (held : List ℕ) : Type 0 where
  pub unbroken : Unbroken held
  pub short : length held ≤ line_limit

-- the stanzas that wait, and those of the lines that may follow
abbrev pub after : Lined → List (List ℕ) → Reading
after l ls = ahead l.waiting (from_lines l.last.fields l.last.size l.last.line ls)

abbrev pub rest : Reader → List ℕ → Reading
rest r more = after r.lines (pieces (r.held ++ more))

-- the same; nothing more after a refusal
abbrev pub over : Option StanzaFault → Lined → Reading → Reading
over None l all = all
over (Some f) l all = ahead l.waiting (refused f)

-- what a reader makes of a text that follows: the stanzas that wait and those to come, and the refusal
abbrev pub all_of : Reader → List ℕ → Reading
all_of r more = over r.fault r.lines (rest r more)

-- nothing was read yet, and the next line has this number
abbrev pub new_lines : ℕ → Lined
new_lines n = record { waiting = []; last = record { fields = []; size = 0; line = n } }
