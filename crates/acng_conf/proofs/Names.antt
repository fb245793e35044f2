-- Each group keeps a name of its own.
use Rattle.std.proofs.Common.{◌≡◌, ℕ, zero, suc, ◌+◌, ◌<◌, Bool, true, false, not, ◌&&◌, ◌||◌, List, [], ◌∷◌, ◌++◌, Option, Some, None, IfSome, cond, length, set, get_or, bytes_eq, nat_lt, refl, sym, ap, ◌∙◌, subst, arith}
use Rattle.std.specs.List.{list_any, position_from}
use Rattle.std.specs.Option.{unwrap_or}
use Rattle.std.proofs.lemmas.List.Folds.{list_any-append}
use Rattle.std.proofs.lemmas.Iterator.Adapters.{position_from-zero}
use Rattle.std.proofs.lemmas.Slice.Eq.{bytes_eq-Decides}
use Rattle.std.proofs.lemmas.Grind.{common_steps}
use borrow.Author.Tests.{ltb-false}
use Rattle.acng_conf.proofs.Owners.{found_within}
use Rattle.acng_conf.specs.Keys.{is_group_name}
use Rattle.acng_conf.specs.Settings.{Mirrors, Settings}
use Rattle.acng_conf.specs.Readings.{called, group_at, with_group, new_group, named_at, naming, has_name, are_names}

-- ---- a group changed, but not in its name

module _ (f : Mirrors → Mirrors) (keeps : (g : Mirrors) → (f g).name ≡ g.name) (d : Mirrors) where
  same_name : (x : List ℕ) (groups : List Mirrors) (k : ℕ) → has_name x (set groups k (f (get_or groups k d))) ≡ has_name x groups
  same_name x [] k = refl
  same_name x (g ∷ gs) zero = ap (λ n. bytes_eq n x || has_name x gs) (keeps g)
  same_name x (g ∷ gs) (suc k) = ap (λ b. bytes_eq g.name x || b) (same_name x gs k)

  pub same_names : (groups : List Mirrors) (k : ℕ) → are_names (set groups k (f (get_or groups k d))) ≡ are_names groups
  same_names [] k = refl
  same_names (g ∷ gs) zero = ap (λ n. is_group_name n && (not (has_name n gs) && are_names gs)) (keeps g)
  same_names (g ∷ gs) (suc k) =
      ap (λ b. is_group_name g.name && (not b && are_names (set gs k (f (get_or gs k d))))) (same_name g.name gs k)
      ∙ ap (λ b. is_group_name g.name && (not (has_name g.name gs) && b)) (same_names gs k)

-- ---- a group more

either_not : (a b : Bool) → (a || b) ≡ false → (a ≡ false) × (b ≡ false)
either_not true b h = cc
either_not false b h = (refl, h)

both : (a b : Bool) → (a && b) ≡ true → (a ≡ true) × (b ≡ true)
both true b h = (refl, h)
both false b h = cc

is_not : (a : Bool) → not a ≡ true → a ≡ false
is_not true h = cc
is_not false h = refl

other_way : (a b : List ℕ) → bytes_eq a b ≡ false → bytes_eq b a ≡ false
other_way a b h = grind (arith, common_steps, bytes_eq-Decides)

added : (groups : List Mirrors) (g : Mirrors) → are_names groups ≡ true → is_group_name g.name ≡ true → has_name g.name groups ≡ false → are_names (groups ++ g ∷ []) ≡ true
added [] g names plain none = rw plain refl
added (h ∷ hs) g names plain none =
    let own = both (is_group_name h.name) (not (has_name h.name hs) && are_names hs) names in
    let alone = both (not (has_name h.name hs)) (are_names hs) own.1 in
    let new = either_not (bytes_eq h.name g.name) (has_name g.name hs) none in
    let still : has_name h.name (hs ++ g ∷ []) ≡ false =
    list_any-append (λ m. bytes_eq m.name h.name) hs (g ∷ []) ∙ rw (is_not (has_name h.name hs) alone.0, other_way h.name g.name new.0) refl in
    rw (own.0, still) (added hs g alone.1 plain new.1)

-- what isn't found is nowhere
absent : (p : Mirrors → Bool) (groups : List Mirrors) (i : ℕ) → position_from p i groups ≡ None → list_any p groups ≡ false
absent p [] i h = refl
absent p (g ∷ gs) i h = cases (p g) h (absent p gs (i + 1))
  where
    cases : (b : Bool) → cond b (Some i) (position_from p (i + 1) gs) ≡ None → (position_from p (i + 1) gs ≡ None → list_any p gs ≡ false) → (b || list_any p gs) ≡ false
    cases true h again = cc
    cases false h again = again h

with_names : (name : List ℕ) (n : ℕ) (groups : List Mirrors) → is_group_name name ≡ true → are_names groups ≡ true → are_names (with_group name n groups) ≡ true
with_names name n groups plain names = cases (nat_lt (group_at name groups) (length groups)) refl
  where
    none : (o : Option ℕ) → called name groups ≡ o → nat_lt (unwrap_or o (length groups)) (length groups) ≡ false → has_name name groups ≡ false
    none None is h = absent (λ g. bytes_eq g.name name) groups 0 (sym (position_from-zero (λ g. bytes_eq g.name name) groups) ∙ is)
    none (Some k) is h =
        let within : k < length groups = subst (λ (o : Option ℕ). IfSome o (λ j. j < length groups)) is (found_within (λ g. bytes_eq g.name name) groups) in
        absurd (omega (arith, within, ltb-false k (length groups) h))

    cases : (t : Bool) → nat_lt (group_at name groups) (length groups) ≡ t → are_names (cond t groups (groups ++ new_group name n ∷ [])) ≡ true
    cases true h = names
    cases false h = added groups (new_group name n) names plain (none (called name groups) refl h)

-- the groups after a line named one
pub naming_names : (name : List ℕ) (n : ℕ) (s : Settings) → is_group_name name ≡ true → are_names s.groups ≡ true → are_names (naming name n s).groups ≡ true
naming_names name n s plain names =
    same_names (named_at n) (λ g. refl) (new_group [] 0) (with_group name n s.groups) (group_at name s.groups) ∙ with_names name n s.groups plain names
