-- Which names fit a pattern, in which `*` stands for any bytes.
use Rattle.std.specs.Prelude.{ℕ, Bool, false, ◌&&◌, ◌||◌, ◌==◌, List, [], ◌∷◌, cond}
use Rattle.acng_base.specs.Cuts.{is_empty}
use Rattle.acng_conf.specs.Lines.{star}

-- the rest fits some end of the name
abbrev pub some_end : (List ℕ → Bool) → List ℕ → Bool
some_end rest [] = rest []
some_end rest (c ∷ cs) = rest (c ∷ cs) || some_end rest cs

-- the name begins with this byte, and the rest fits what follows
abbrev pub one_byte : (List ℕ → Bool) → ℕ → List ℕ → Bool
one_byte rest b [] = false
one_byte rest b (c ∷ cs) = (c == b) && rest cs

abbrev pub fits : List ℕ → List ℕ → Bool
fits [] name = is_empty name
fits (b ∷ bs) name = cond (b == star) (some_end (λ n. fits bs n) name) (one_byte (λ n. fits bs n) b name)
