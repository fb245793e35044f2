-- Names with and without an ending.
use Rattle.std.proofs.Common.{◌≡◌, ◌-◌, ◌∙◌, Bool, true, false, ℕ, List, ◌∷◌, drop, length, take, bytes_eq}
use Rattle.std.proofs.lemmas.Bool.{cond-true, cond-false}
use Rattle.std.proofs.lemmas.Cmp.{nat_list_eq_equiv}
use Rattle.acng_base.specs.Names.{has_ending, without_ending}

-- the bytes at the end, as `strip_suffix` compares them
abbrev end_is : List ℕ → List ℕ → Bool
end_is name ending = bytes_eq (drop (length name - length ending) name) ending

turned : (name ending : List ℕ) → has_ending name ending ≡ end_is name ending
turned name ending = nat_list_eq_equiv.symm ending (drop (length name - length ending) name)

-- the first of the endings is there, or it isn't
pub stripped : (e : List ℕ) (es : List (List ℕ)) (name : List ℕ) → end_is name e ≡ true → without_ending (e ∷ es) name ≡ take (length name - length e) name
stripped e es name h = cond-true (has_ending name e) (take (length name - length e) name) (without_ending es name) (turned name e ∙ h)

pub kept : (e : List ℕ) (es : List (List ℕ)) (name : List ℕ) → end_is name e ≡ false → without_ending (e ∷ es) name ≡ without_ending es name
kept e es name h = cond-false (has_ending name e) (take (length name - length e) name) (without_ending es name) (turned name e ∙ h)
