-- The ends of a name, and what a pattern says of them.
use Rattle.std.proofs.Common.{◌≡◌, ◌≢◌, ℕ, ◌+◌, ◌<◌, Bool, true, false, ◌||◌, ◌&&◌, ◌==◌, List, [], ◌∷◌, length, drop, get_or, cond, refl, sym, ap, ◌∙◌}
use Rattle.std.proofs.lemmas.Bool.{eqb-true, eq-eqb, ne_eqb}
use Rattle.std.proofs.lemmas.List.{drop-drop}
use Rattle.acng_conf.specs.Lines.{first_is}
use Rattle.acng_conf.specs.Globs.{some_end, one_byte, fits}
use Rattle.acng_conf.proofs.Walks.{row}

or_from : (a b : Bool) → (b ≡ true → a ≡ true) → (a || b) ≡ a
or_from true b h = refl
or_from false true h = sym (h refl)
or_from false false h = refl

-- an end of a name is one of a longer name
longer : (f : List ℕ → Bool) (c : ℕ) (cs : List ℕ) → some_end f cs ≡ true → some_end f (c ∷ cs) ≡ true
longer f c cs h = cases (f (c ∷ cs)) (some_end f cs) h
  where
    cases : (a b : Bool) → b ≡ true → (a || b) ≡ true
    cases true b e = refl
    cases false b e = e

whole : (f : List ℕ → Bool) (name : List ℕ) → f name ≡ true → some_end f name ≡ true
whole f [] h = h
whole f (c ∷ cs) h = rw h refl

-- where a later end adds nothing, the whole name decides
first_enough : (f : List ℕ → Bool) (name : List ℕ) (r : Bool) → f name ≡ r → (some_end f (drop 1 name) ≡ true → r ≡ true) → some_end f name ≡ r
first_enough f [] r h later = h
first_enough f (c ∷ cs) r h later = ap (λ t. t || some_end f cs) h ∙ or_from r (some_end f cs) later

-- an end of a name without its first byte is one of the name
shorter : (f : List ℕ → Bool) (name : List ℕ) → some_end f (drop 1 name) ≡ true → some_end f name ≡ true
shorter f [] h = h
shorter f (c ∷ cs) h = longer f c cs h

-- two stars are one
star_twice : (f : List ℕ → Bool) (name : List ℕ) → some_end (some_end f) name ≡ true → some_end f name ≡ true
star_twice f [] h = h
star_twice f (c ∷ cs) h = cases (some_end f (c ∷ cs)) refl h (star_twice f cs)
  where
    cases : (b : Bool) → some_end f (c ∷ cs) ≡ b → (b || some_end (some_end f) cs) ≡ true → (some_end (some_end f) cs ≡ true → some_end f cs ≡ true) → some_end f (c ∷ cs) ≡ true
    cases true e k again = e
    cases false e k again = longer f c cs (again k)

-- what fits behind a byte stands one byte later
behind_byte : (f : List ℕ → Bool) (b : ℕ) (name : List ℕ) → some_end (one_byte f b) name ≡ true → some_end f (drop 1 name) ≡ true
behind_byte f b [] h = cc
behind_byte f b (c ∷ cs) h = cases (c == b) (f cs) refl h (behind_byte f b cs)
  where
    cases : (s t : Bool) → f cs ≡ t → ((s && t) || some_end (one_byte f b) cs) ≡ true → (some_end (one_byte f b) cs ≡ true → some_end f (drop 1 cs) ≡ true) → some_end f cs ≡ true
    cases true true e k again = whole f cs e
    cases true false e k again = shorter f cs (again k)
    cases false t e k again = shorter f cs (again k)

-- a byte that is no star, and stands in the name
pub same_byte : (pattern name : List ℕ) (i : ℕ) → i < length pattern → i < length name → get_or pattern i 0 ≢ 42 → get_or pattern i 0 ≡ get_or name i 0
    → fits (drop i pattern) (drop i name) ≡ fits (drop (i + 1) pattern) (drop (i + 1) name)
same_byte pattern name i in_pattern in_name no_star here =
    let other = ne_eqb (get_or pattern i 0) 42 no_star in
    let same = eq-eqb (get_or name i 0) (get_or pattern i 0) (sym here) in
    rw (row pattern i 0 in_pattern, row name i 0 in_name, other, same) refl

pub later_byte : (pattern name : List ℕ) (i : ℕ) → i < length pattern → get_or pattern i 0 ≢ 42
    → some_end (fits (drop i pattern)) (drop (i + 1) name) ≡ true → some_end (fits (drop (i + 1) pattern)) (drop (i + 1 + 1) name) ≡ true
later_byte pattern name i in_pattern no_star h =
    let b = get_or pattern i 0 in
    let f = fits (drop (i + 1) pattern) in
    let ends = drop (i + 1) name in
    let other = ne_eqb b 42 no_star in
    let first : some_end (fits (b ∷ drop (i + 1) pattern)) ends ≡ true = ap (λ p. some_end (fits p) ends) (sym (row pattern i 0 in_pattern)) ∙ h in
    let byte : some_end (one_byte f b) ends ≡ true = ap (λ t. some_end (λ n. cond t (some_end f n) (one_byte f b n)) ends) (sym other) ∙ first in
    ap (some_end f) (sym (drop-drop 1 (i + 1) name)) ∙ behind_byte f b ends byte

pub star_first : (text : List ℕ) → first_is 42 text ≡ true → text ≡ 42 ∷ drop 1 text
star_first [] h = cc
star_first (c ∷ cs) h = ap (λ b. b ∷ cs) (eqb-true c 42 h)

-- an end behind a star, and so an end of what the star may take
star_end : (pattern name r : List ℕ) (k : ℕ) → drop k pattern ≡ 42 ∷ r → some_end (fits (drop k pattern)) (drop (k + 1) name) ≡ true → some_end (fits r) (drop k name) ≡ true
star_end pattern name r k star h =
    let f = fits r in
    let two : some_end (some_end f) (drop (k + 1) name) ≡ true = ap (λ p. some_end (fits p) (drop (k + 1) name)) (sym star) ∙ h in
    shorter f (drop k name) (ap (some_end f) (drop-drop 1 k name) ∙ star_twice f (drop (k + 1) name) two)

-- a star further on takes what an earlier one could take
pub past_star : (pattern name behind : List ℕ) (k : ℕ) → fits pattern name ≡ fits (drop k pattern) (drop k name)
    → (some_end (fits pattern) (drop 1 name) ≡ true → some_end (fits (drop k pattern)) (drop (k + 1) name) ≡ true)
    → drop k pattern ≡ behind → first_is 42 behind ≡ true → some_end (fits pattern) name ≡ some_end (fits (drop 1 behind)) (drop k name)
past_star pattern name behind k same later rest star =
    let s = rest ∙ star_first behind star in
    let r = drop 1 behind in
    first_enough (fits pattern) name (some_end (fits r) (drop k name)) (same ∙ ap (λ p. fits p (drop k name)) s) (λ h. star_end pattern name r k s (later h))
