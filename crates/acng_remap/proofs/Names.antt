-- The names of groups: each is its own, and none has a byte that no name may have.
use Rattle.std.proofs.Common.{◌≡◌, ℕ, zero, suc, ◌+◌, ◌<◌, Bool, true, false, not, ◌&&◌, ◌||◌, ◌==◌, List, [], ◌∷◌, Some, cond, length, bytes_eq, refl, ap, ◌∙◌, subst, arith}
use Rattle.std.specs.List.{list_any, list_all, position_from}
use Rattle.std.proofs.lemmas.Iterator.Adapters.{position_from-zero}
use Rattle.std.proofs.lemmas.Slice.Eq.{bytes_eq-Decides}
use Rattle.std.proofs.lemmas.Grind.{common_steps}
use Rattle.acng_conf.specs.Keys.{is_word_byte, is_group_name}
use Rattle.acng_conf.specs.Settings.{Mirrors}
use Rattle.acng_conf.specs.Readings.{called, new_group, has_name, are_names}
use Rattle.acng_remap.specs.Decisions.{group}
use Rattle.acng_remap.specs.Forms.{has}
use Rattle.acng_remap.proofs.Fronts.{none_at}

both : (a b : Bool) → (a && b) ≡ true → (a ≡ true) × (b ≡ true)
both true b h = (refl, h)
both false b h = cc

is_not : (a : Bool) → not a ≡ true → a ≡ false
is_not true h = cc
is_not false h = refl

-- ---- bytes

lacks : (b : ℕ) → is_word_byte b ≡ false → (name : List ℕ) → list_all is_word_byte name ≡ true → has b name ≡ false
lacks b odd [] h = refl
lacks b odd (c ∷ cs) h =
    let parts = both (is_word_byte c) (list_all is_word_byte cs) h in
    cases (c == b) refl parts.0 (lacks b odd cs parts.1)
  where
    cases : (t : Bool) → (c == b) ≡ t → is_word_byte c ≡ true → has b cs ≡ false → (t || has b cs) ≡ false
    cases true e first rest =
        let same : c ≡ b = grind (arith, common_steps) in
        let word : is_word_byte b ≡ true = subst (λ x. is_word_byte x ≡ true) same first in
        cc
    cases false e first rest = rest

-- no name has a byte that no name may have
pub nowhere : (b : ℕ) → is_word_byte b ≡ false → (groups : List Mirrors) → are_names groups ≡ true → list_any (λ g. has b g.name) groups ≡ false
nowhere b odd [] names = refl
nowhere b odd (g ∷ gs) names =
    let own = both (is_group_name g.name) (not (has_name g.name gs) && are_names gs) names in
    let rest = both (not (has_name g.name gs)) (are_names gs) own.1 in
    let plain : list_all is_word_byte g.name ≡ true = let name = own.0 in grind (arith, common_steps) in
    rw (lacks b odd g.name plain) (nowhere b odd gs rest.1)

-- ---- each name is its own

is_itself : (n : List ℕ) → bytes_eq n n ≡ true
is_itself n = grind (arith, common_steps, bytes_eq-Decides)

other_way : (a b : List ℕ) → bytes_eq a b ≡ false → bytes_eq b a ≡ false
other_way a b h = grind (arith, common_steps, bytes_eq-Decides)

own_from : (groups : List Mirrors) (k i : ℕ) → are_names groups ≡ true → k < length groups
    → position_from (λ g. bytes_eq g.name (group groups k).name) i groups ≡ Some (i + k)
own_from [] k i names lt = absurd (omega arith)
own_from (g ∷ gs) zero i names lt = let e : i ≡ i + 0 = omega arith in rw (is_itself g.name) (ap Some e)
own_from (g ∷ gs) (suc k) i names lt =
    let name = both (is_group_name g.name) (not (has_name g.name gs) && are_names gs) names in
    let rest = both (not (has_name g.name gs)) (are_names gs) name.1 in
    let n = (group gs k).name in
    let no : bytes_eq n g.name ≡ false = none_at (λ h. bytes_eq h.name g.name) gs k (new_group [] 0) (is_not (has_name g.name gs) rest.0) (omega arith) in
    let e : (i + 1) + k ≡ i + suc k = omega arith in
    ap (λ t. cond t (Some i) (position_from (λ h. bytes_eq h.name n) (i + 1) gs)) (other_way n g.name no)
    ∙ own_from gs k (i + 1) rest.1 (omega arith) ∙ ap Some e

pub own : (groups : List Mirrors) (k : ℕ) → are_names groups ≡ true → k < length groups → called (group groups k).name groups ≡ Some k
own groups k names lt =
    let e : 0 + k ≡ k = omega arith in
    position_from-zero (λ g. bytes_eq g.name (group groups k).name) groups ∙ own_from groups k 0 names lt ∙ ap Some e
