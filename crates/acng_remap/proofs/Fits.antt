-- An entry fits a place exactly where it is a front of the place that ends where a segment ends.
use Rattle.std.proofs.Common.{◌≡◌, ℕ, zero, suc, ◌<◌, ◌≤◌, Bool, true, false, ◌&&◌, ◌==◌, List, [], ◌∷◌, cond, length, take, get_or, bytes_eq, refl, ap, ◌∙◌, arith}
use Rattle.std.specs.List.{slice_split, onto_first}
use Rattle.std.specs.Cmp.Lexicographic.{pointwise}
use Rattle.std.proofs.lemmas.Grind.{common_steps}
use Rattle.acng_base.specs.Paths.{segments, is_slash}
use Rattle.acng_remap.specs.Decisions.{fits}

-- there is always a piece
some_piece : (p : ℕ → Bool) (text : List ℕ) → (x : List ℕ) × (xs : List (List ℕ)) × (slice_split p text ≡ x ∷ xs)
some_piece p [] = ([], [], refl)
some_piece p (b ∷ bs) = cases (p b) refl (some_piece p bs)
  where
    cases : (t : Bool) → p b ≡ t → (x : List ℕ) × (xs : List (List ℕ)) × (slice_split p bs ≡ x ∷ xs)
        → (x : List ℕ) × (xs : List (List ℕ)) × (slice_split p (b ∷ bs) ≡ x ∷ xs)
    cases true t s = ([], slice_split p bs, rw t refl)
    cases false t s = (b ∷ s.0, s.1, rw (t, s.2) refl)

-- the same, byte by byte
abbrev pub fits_bytes : List ℕ → List ℕ → Bool
fits_bytes [] [] = true
fits_bytes (c ∷ cs) [] = is_slash c
fits_bytes [] (b ∷ bs) = false
fits_bytes (c ∷ cs) (b ∷ bs) = (b == c) && fits_bytes cs bs

abbrev fronts : List (List ℕ) → List (List ℕ) → Bool
fronts ss es = pointwise bytes_eq es (take (length es) ss)

and_assoc : (a b c : Bool) → ((a && b) && c) ≡ (a && (b && c))
and_assoc true b c = refl
and_assoc false b c = refl

none_of_rest : (c : ℕ) (ss : List (List ℕ)) → fronts (onto_first c ss) ([] ∷ []) ≡ false
none_of_rest c [] = refl
none_of_rest c (s ∷ ss) = refl

no_end : (c : ℕ) (es : List (List ℕ)) (ss : List (List ℕ)) → fronts (onto_first c ss) ([] ∷ es) ≡ false
no_end c es [] = refl
no_end c es (s ∷ ss) = refl

no_start : (b : ℕ) (ss : List (List ℕ)) (es : List (List ℕ)) → fronts ([] ∷ ss) (onto_first b es) ≡ false
no_start b ss [] = refl
no_start b ss (e ∷ es) = refl

too_many : (bs : List ℕ) → fronts ([] ∷ []) ([] ∷ segments bs) ≡ false
too_many bs = let s = some_piece is_slash bs in rw s.2 refl

both : (b c : ℕ) (bs cs : List ℕ) → fronts (onto_first c (segments cs)) (onto_first b (segments bs)) ≡ ((b == c) && fronts (segments cs) (segments bs))
both b c bs cs =
    let s = some_piece is_slash bs in
    let t = some_piece is_slash cs in
    rw (s.2, t.2) (and_assoc (b == c) (bytes_eq s.0 t.0) (pointwise bytes_eq s.1 (take (length s.1) t.1)))

pub fits_same : (place entry : List ℕ) → fits place entry ≡ fits_bytes place entry
fits_same [] [] = refl
fits_same (c ∷ cs) [] = cases (is_slash c)
  where
    cases : (t : Bool) → fronts (cond t ([] ∷ segments cs) (onto_first c (segments cs))) ([] ∷ []) ≡ t
    cases true = refl
    cases false = none_of_rest c (segments cs)
fits_same [] (b ∷ bs) = cases (is_slash b)
  where
    cases : (t : Bool) → fronts ([] ∷ []) (cond t ([] ∷ segments bs) (onto_first b (segments bs))) ≡ false
    cases true = too_many bs
    cases false = no_start b [] (segments bs)
fits_same (c ∷ cs) (b ∷ bs) = cases (is_slash c) (is_slash b) refl refl (fits_same cs bs)
  where
    cases : (t u : Bool) → is_slash c ≡ t → is_slash b ≡ u → fits cs bs ≡ fits_bytes cs bs
        → fronts (cond t ([] ∷ segments cs) (onto_first c (segments cs))) (cond u ([] ∷ segments bs) (onto_first b (segments bs))) ≡ ((b == c) && fits_bytes cs bs)
    cases true true tc tb again = let e : (b == c) ≡ true = grind (arith, common_steps) in rw e again
    cases true false tc tb again = let e : (b == c) ≡ false = grind (arith, common_steps) in rw e (no_start b (segments cs) (segments bs))
    cases false true tc tb again = let e : (b == c) ≡ false = grind (arith, common_steps) in rw e (no_end c (segments bs) (segments cs))
    cases false false tc tb again = both b c bs cs ∙ ap (λ x. (b == c) && x) again

-- an entry that fits is a front
pub front : (place entry : List ℕ) → fits_bytes place entry ≡ true → take (length entry) place ≡ entry
front [] [] h = refl
front (c ∷ cs) [] h = refl
front [] (b ∷ bs) h = cc
front (c ∷ cs) (b ∷ bs) h =
    let rest : fits_bytes cs bs ≡ true = grind (arith, common_steps) in
    let same : c ≡ b = grind (arith, common_steps) in
    let again = front cs bs rest in
    rw (same, again) refl

pub not_longer : (place entry : List ℕ) → fits_bytes place entry ≡ true → length entry ≤ length place
not_longer [] [] h = omega arith
not_longer (c ∷ cs) [] h = omega arith
not_longer [] (b ∷ bs) h = cc
not_longer (c ∷ cs) (b ∷ bs) h =
    let rest : fits_bytes cs bs ≡ true = grind (arith, common_steps) in
    let again = not_longer cs bs rest in
    omega arith

-- and a slash follows it, unless the place ends there
pub slash_after : (place entry : List ℕ) → fits_bytes place entry ≡ true → length entry < length place → is_slash (get_or place (length entry) 0) ≡ true
slash_after [] [] h lt = absurd (omega arith)
slash_after (c ∷ cs) [] h lt = h
slash_after [] (b ∷ bs) h lt = cc
slash_after (c ∷ cs) (b ∷ bs) h lt =
    let rest : fits_bytes cs bs ≡ true = grind (arith, common_steps) in
    slash_after cs bs rest (omega arith)

same_byte : (b : ℕ) → (b == b) ≡ true
same_byte b = grind (arith, common_steps)

-- the whole place fits
pub whole : (place : List ℕ) → fits_bytes place place ≡ true
whole [] = refl
whole (c ∷ cs) = rw (same_byte c) (whole cs)

-- and so does what stands before a slash
pub before : (place : List ℕ) (n : ℕ) → n < length place → is_slash (get_or place n 0) ≡ true → fits_bytes place (take n place) ≡ true
before [] n lt h = absurd (omega arith)
before (c ∷ cs) zero lt h = h
before (c ∷ cs) (suc n) lt h = rw (same_byte c) (before cs n (omega arith) h)
