-- A path without its empty segments, byte by byte.
use Rattle.std.proofs.Common.{◌≡◌, ℕ, Bool, true, false, not, List, [], ◌∷◌, ◌++◌, cond, map, refl, ap, ◌∙◌}
use Rattle.std.specs.List.{filter, concat}
use Rattle.acng_base.specs.Paths.{is_slash, segments}
use Rattle.acng_base.specs.Cuts.{is_empty}
use Rattle.acng_conf.specs.Places.{without_empty}
use Rattle.acng_base.proofs.Cutting.{some_piece}
use Rattle.acng_conf.proofs.Comments.{not_empty}

-- the walk: each slash goes, and one comes before the first byte of a segment; the first argument says whether a segment
-- is yet to begin
abbrev pub plain_from : Bool → List ℕ → List ℕ
plain_from begins [] = []
plain_from begins (b ∷ bs) = cond (is_slash b) (plain_from true bs) (cond begins (47 ∷ b ∷ plain_from false bs) (b ∷ plain_from false bs))

-- from the front of a segment
abbrev joined : List (List ℕ) → List ℕ
joined ss = concat (map (λ s. 47 ∷ s) (filter (λ s. not (is_empty s)) ss))

-- from within a segment
abbrev continued : List (List ℕ) → List ℕ
continued [] = []
continued (s ∷ ss) = s ++ joined ss

walks : (text : List ℕ) → (plain_from true text ≡ joined (segments text)) × (plain_from false text ≡ continued (segments text))
walks [] = (refl, refl)
walks (b ∷ bs) = cases (is_slash b) refl (walks bs) (some_piece is_slash bs)
  where
    cases : (t : Bool) → is_slash b ≡ t → (plain_from true bs ≡ joined (segments bs)) × (plain_from false bs ≡ continued (segments bs))
        → (x : List ℕ) × (xs : List (List ℕ)) × (segments bs ≡ x ∷ xs)
        → (plain_from true (b ∷ bs) ≡ joined (segments (b ∷ bs))) × (plain_from false (b ∷ bs) ≡ continued (segments (b ∷ bs)))
    cases true t rest s = (rw t rest.0, rw t rest.0)
    cases false t rest s =
        let more : plain_from false bs ≡ s.0 ++ joined s.1 = rest.1 ∙ ap continued s.2 in
        (rw (t, s.2, not_empty b s.0) (ap (λ k. 47 ∷ b ∷ k) more), rw (t, s.2) (ap (λ k. b ∷ k) more))

-- from the front of a path it takes the empty segments out
pub plain_from_front : (text : List ℕ) → plain_from true text ≡ without_empty text
plain_from_front text = (walks text).0
