-- What a clock says, where the moments to come are known.
use Rattle.std.specs.Prelude.{◌≡◌, ℕ, List, [], ◌∷◌, ⊤, None, Some}
use Rattle.std.specs.declared.option.Option.{Option}

-- the first moment of the year 10000, which no HTTP date names
abbrev pub moment_limit : ℕ
moment_limit = 253402300800

-- the list that follows: the first moment goes where others follow, so the last one repeats
abbrev pub after_tick : List ℕ → List ℕ
after_tick [] = []
after_tick (m ∷ []) = m ∷ []
after_tick (m ∷ k ∷ ms) = k ∷ ms

-- the moment is the first of those to come, of which there is always one
abbrev pub Ticks : Option (List ℕ) → Option (List ℕ) → ℕ → Type 0
Ticks None new moment = ⊤
Ticks (Some moments) new moment = (rest : List ℕ) × (moments ≡ moment ∷ rest) × (new ≡ Some (after_tick moments))
