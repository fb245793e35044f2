-- How a text is cut into lines and words, and what its ends lose. A test says which bytes are of a kind.
use Rattle.std.specs.Prelude.{ℕ, ◌-◌, nat_lt, slice_index, Bool, not, ◌&&◌, ◌||◌, ◌==◌, List, [], ◌∷◌, length, cond, filter}
use Rattle.std.specs.List.{slice_split}

-- ---- bytes by name

abbrev pub tab : ℕ
tab = 9

abbrev pub line_feed : ℕ
line_feed = 10

abbrev pub carriage_return : ℕ
carriage_return = 13

abbrev pub space : ℕ
space = 32

abbrev pub comma : ℕ
comma = 44

abbrev pub slash : ℕ
slash = 47

abbrev pub colon : ℕ
colon = 58

-- a space or a tab
abbrev pub is_colon : ℕ → Bool
is_colon b = b == colon

abbrev pub is_blank : ℕ → Bool
is_blank b = b == space || b == tab

abbrev pub is_blank_or_cr : ℕ → Bool
is_blank_or_cr b = is_blank b || b == carriage_return

abbrev pub is_lf : ℕ → Bool
is_lf b = b == line_feed

abbrev pub is_cr : ℕ → Bool
is_cr b = b == carriage_return

-- ---- ends

abbrev pub is_empty : List ℕ → Bool
is_empty text = length text == 0

-- without the bytes of a kind at the front
abbrev pub drop_front : (ℕ → Bool) → List ℕ → List ℕ
drop_front p [] = []
drop_front p (b ∷ bs) = cond (p b) (drop_front p bs) (b ∷ bs)

-- a byte before a text; one of the kind before nothing is nothing
abbrev pub before_end : (ℕ → Bool) → ℕ → List ℕ → List ℕ
before_end p b [] = cond (p b) [] (b ∷ [])
before_end p b (c ∷ cs) = b ∷ c ∷ cs

-- and at the end
abbrev pub drop_end : (ℕ → Bool) → List ℕ → List ℕ
drop_end p [] = []
drop_end p (b ∷ bs) = before_end p b (drop_end p bs)

-- and at both ends
abbrev pub trim_by : (ℕ → Bool) → List ℕ → List ℕ
trim_by p text = drop_end p (drop_front p text)

-- without the blanks at both ends
abbrev pub trim : List ℕ → List ℕ
trim text = trim_by is_blank text

-- the last byte before an offset is of a kind
abbrev pub is_before : (ℕ → Bool) → List ℕ → ℕ → Bool
is_before p text end = nat_lt 0 end && p (slice_index text (end - 1))

-- without a carriage return at the end
abbrev pub without_cr : List ℕ → List ℕ
without_cr [] = []
without_cr (b ∷ []) = cond (is_cr b) [] (b ∷ [])
without_cr (b ∷ c ∷ bs) = b ∷ without_cr (c ∷ bs)

-- ---- pieces

-- the pieces between line feeds
abbrev pub pieces : List ℕ → List (List ℕ)
pieces text = slice_split is_lf text

-- the words between bytes of a kind
abbrev pub words_by : (ℕ → Bool) → List ℕ → List (List ℕ)
words_by p text = filter (λ w. not (is_empty w)) (slice_split p text)

-- the words between blanks
abbrev pub words : List ℕ → List (List ℕ)
words text = words_by is_blank text

-- a word, unless it is empty
abbrev pub some_word : List ℕ → List (List ℕ)
some_word word = cond (is_empty word) [] (word ∷ [])
