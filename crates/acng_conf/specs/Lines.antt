-- Lines of a configuration and of list files: what on them is a comment, and what says nothing.
use Rattle.std.specs.Prelude.{ℕ, Bool, false, ◌&&◌, ◌||◌, ◌==◌, List, [], ◌∷◌, cond}
use Rattle.acng_base.specs.Cuts.{is_blank, is_empty}

-- ---- bytes by name

abbrev pub number_sign : ℕ
number_sign = 35

abbrev pub star : ℕ
star = 42

abbrev pub full_stop : ℕ
full_stop = 46

-- this byte stands first
abbrev pub first_is : ℕ → List ℕ → Bool
first_is b [] = false
first_is b (c ∷ cs) = c == b

-- ---- comments

-- up to the first `#` right after a blank, which begins a comment
abbrev pub without_comment : List ℕ → List ℕ
without_comment [] = []
without_comment (b ∷ bs) = cond (is_blank b && first_is number_sign bs) [] (b ∷ without_comment bs)

-- a blank and a `#` stand first
abbrev pub starts_comment : List ℕ → Bool
starts_comment [] = false
starts_comment (b ∷ bs) = is_blank b && first_is number_sign bs

-- nothing is left, or a comment begins
abbrev pub is_text_end : List ℕ → Bool
is_text_end rest = is_empty rest || starts_comment rest

-- nothing stands on the line
abbrev pub is_skipped : List ℕ → Bool
is_skipped line = is_empty line || first_is number_sign line
