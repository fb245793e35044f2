-- Which group an entry merges into, after one more entry.
use Rattle.std.proofs.Common.{◌≡◌, ℕ, zero, suc, ◌+◌, ◌<◌, Bool, true, false, ◌||◌, List, [], ◌∷◌, ◌++◌, Option, Some, None, IfSome, cond, length, set, get_or, bytes_eq, nat_lt, refl, sym, ap, ◌∙◌, subst, arith}
use Rattle.std.specs.List.{list_any, position, position_from, position_or_len}
use Rattle.std.specs.Ordering.{is_eq, nat_cmp}
use Rattle.std.specs.Cmp.Lexicographic.{slice_cmp}
use Rattle.std.specs.BTreeMap.{BTreeMap, Updates}
use Rattle.std.specs.Map.{KeepsOthers}
use Rattle.std.proofs.lemmas.List.Folds.{list_any-append}
use Rattle.std.proofs.lemmas.Slice.Eq.{bytes_eq-Decides}
use Rattle.std.proofs.lemmas.Iterator.Adapters.{position_from-zero}
use Rattle.std.proofs.lemmas.Map.Text.{is_eq-slice_cmp}
use Rattle.std.proofs.lemmas.Grind.{common_steps}
use borrow.Author.Tests.{ltb-true}
use Rattle.acng_conf.specs.LookUps.{owner_in}
use Rattle.acng_conf.specs.Settings.{Mirrors, Settings}
use Rattle.acng_conf.specs.Readings.{has_entry, owner, with_place, new_group, named_at, group_at, with_group, naming}

abbrev owner_from : List ℕ → ℕ → List Mirrors → Option ℕ
owner_from x i groups = position_from (has_entry x) i groups

or_false : (a b : Bool) → b ≡ false → (a || (b || false)) ≡ a
or_false true b h = refl
or_false false b h = rw h refl

or_true : (a b : Bool) → b ≡ true → (a || (b || false)) ≡ true
or_true true b h = refl
or_true false b h = rw h refl

has_more : (x e : List ℕ) (g : Mirrors) → has_entry x (with_place e g) ≡ (has_entry x g || (bytes_eq e x || false))
has_more x e g = list_any-append (λ y. bytes_eq y x) g.merging (e ∷ [])

-- an entry that isn't in front, where the first test fails
first_not : (p : Bool) (i : ℕ) (o : Option ℕ) → cond p (Some i) o ≡ None → (p ≡ false) × (o ≡ None)
first_not true i o h = cc
first_not false i o h = (refl, h)

-- an entry other than the new one has the owner it had
other : (x e : List ℕ) (d : Mirrors) (groups : List Mirrors) (k i : ℕ) → bytes_eq e x ≡ false
    → owner_from x i (set groups k (with_place e (get_or groups k d))) ≡ owner_from x i groups
other x e d [] k i h = refl
other x e d (g ∷ gs) zero i h = ap (λ b. cond b (Some i) (owner_from x (i + 1) gs)) (has_more x e g ∙ or_false (has_entry x g) (bytes_eq e x) h)
other x e d (g ∷ gs) (suc k) i h = ap (λ o. cond (has_entry x g) (Some i) o) (other x e d gs k (i + 1) h)

-- the new one has the group that it was given
same : (e : List ℕ) (d : Mirrors) (groups : List Mirrors) (k i : ℕ) → k < length groups → bytes_eq e e ≡ true → owner_from e i groups ≡ None
    → owner_from e i (set groups k (with_place e (get_or groups k d))) ≡ Some (i + k)
same e d [] k i lt r h = absurd (omega arith)
same e d (g ∷ gs) zero i lt r h =
    let at : i ≡ i + 0 = omega arith in
    ap (λ b. cond b (Some i) (owner_from e (i + 1) gs)) (has_more e e g ∙ or_true (has_entry e g) (bytes_eq e e) r) ∙ ap Some at
same e d (g ∷ gs) (suc k) i lt r h =
    let no = first_not (has_entry e g) i (owner_from e (i + 1) gs) h in
    let rest = same e d gs k (i + 1) (omega arith) r no.1 in
    let at : (i + 1) + k ≡ i + suc k = omega arith in
    ap (λ b. cond b (Some i) (owner_from e (i + 1) (set gs k (with_place e (get_or gs k d))))) no.0 ∙ rest ∙ ap Some at

is_itself : (e : List ℕ) → bytes_eq e e ≡ true
is_itself e = grind (arith, common_steps, bytes_eq-Decides)

is_one : (e x : List ℕ) → bytes_eq e x ≡ true → e ≡ x
is_one e x h = grind (arith, common_steps, bytes_eq-Decides)

-- the owner after an entry was added to the group at k
owner_after : (x e : List ℕ) (d : Mirrors) (groups : List Mirrors) (k : ℕ) → k < length groups → owner e groups ≡ None
    → owner x (set groups k (with_place e (get_or groups k d))) ≡ cond (bytes_eq e x) (Some k) (owner x groups)
owner_after x e d groups k lt h = cases (bytes_eq e x) refl
  where
    cases : (b : Bool) → bytes_eq e x ≡ b → owner x (set groups k (with_place e (get_or groups k d))) ≡ cond b (Some k) (owner x groups)
    cases true t =
        let is : e ≡ x = is_one e x t in
        let none : owner_from e 0 groups ≡ None = sym (position_from-zero (has_entry e) groups) ∙ h in
        let given : owner_from e 0 (set groups k (with_place e (get_or groups k d))) ≡ Some (0 + k) = same e d groups k 0 lt (is_itself e) none in
        let at : 0 + k ≡ k = omega arith in
        let here : owner e (set groups k (with_place e (get_or groups k d))) ≡ Some k =
        position_from-zero (has_entry e) (set groups k (with_place e (get_or groups k d))) ∙ given ∙ ap Some at in
        let P : List ℕ → Type 0 = λ y. owner y (set groups k (with_place e (get_or groups k d))) ≡ Some k in
        subst P is here
    cases false t =
        position_from-zero (has_entry x) (set groups k (with_place e (get_or groups k d)))
        ∙ other x e d groups k 0 t ∙ sym (position_from-zero (has_entry x) groups)

-- ---- the map

texts_eq : (xs ys : List ℕ) → is_eq (slice_cmp nat_cmp xs ys) ≡ true → xs ≡ ys
texts_eq xs ys h = is_one xs ys (sym (is_eq-slice_cmp xs ys) ∙ h)

differ : (x e q : List ℕ) → bytes_eq e x ≡ false → e ≡ q → is_eq (slice_cmp nat_cmp x q) ≡ false
differ x e q h same = is_eq-slice_cmp x q ∙ other_way (subst (λ t. bytes_eq t x ≡ false) same h)
  where
    other_way : bytes_eq q x ≡ false → bytes_eq x q ≡ false
    other_way n = grind (arith, common_steps, bytes_eq-Decides)

module _ {K : Type 0} (text : K → List ℕ) where
  -- what the map has once a key was put in
  put_in : (old new : BTreeMap K ℕ) (key : K) (k : ℕ) → Updates (λ a b. slice_cmp nat_cmp (text a) (text b)) old new key (Some k)
      → (x : List ℕ) → owner_in text new x ≡ cond (bytes_eq (text key) x) (Some k) (owner_in text old x)
  unfolding KeepsOthers
  put_in old new key k u x = cases (bytes_eq (text key) x) refl
    where
      cases : (b : Bool) → bytes_eq (text key) x ≡ b → owner_in text new x ≡ cond b (Some k) (owner_in text old x)
      cases true h = subst (λ t. owner_in text new t ≡ Some k) (is_one (text key) x h) u.1
      cases false h =
          u.3 (λ q. is_eq (slice_cmp nat_cmp x (text q)))
          (λ a b same. ap (λ t. is_eq (slice_cmp nat_cmp t (text b))) (texts_eq x (text a) same))
          (λ q same. differ x (text key) (text q) h (texts_eq (text key) (text q) same))

  -- the map answers as the groups do, after both got the entry
  pub agrees : (old new : BTreeMap K ℕ) (key : K) (d : Mirrors) (groups : List Mirrors) (k : ℕ) → k < length groups → owner (text key) groups ≡ None
      → ((x : List ℕ) → owner_in text old x ≡ owner x groups) → Updates (λ a b. slice_cmp nat_cmp (text a) (text b)) old new key (Some k)
      → (x : List ℕ) → owner_in text new x ≡ owner x (set groups k (with_place (text key) (get_or groups k d)))
  agrees old new key d groups k lt none same_then u x =
      put_in old new key k u x ∙ ap (λ o. cond (bytes_eq (text key) x) (Some k) o) (same_then x)
      ∙ sym (owner_after x (text key) d groups k lt none)

-- ---- what leaves each owner

-- a group changed, but not in its entries
pub unmoved : (f : Mirrors → Mirrors) → ((g : Mirrors) → (f g).merging ≡ g.merging) → (d : Mirrors) (groups : List Mirrors) (k : ℕ) (x : List ℕ)
    → owner x (set groups k (f (get_or groups k d))) ≡ owner x groups
unmoved f keeps d groups k x =
    position_from-zero (has_entry x) (set groups k (f (get_or groups k d))) ∙ from groups k 0 ∙ sym (position_from-zero (has_entry x) groups)
  where
    from : (gs : List Mirrors) (k i : ℕ) → owner_from x i (set gs k (f (get_or gs k d))) ≡ owner_from x i gs
    from [] k i = refl
    from (g ∷ gs) zero i = ap (λ m. cond (list_any (λ e. bytes_eq e x) m) (Some i) (owner_from x (i + 1) gs)) (keeps g)
    from (g ∷ gs) (suc k) i = ap (λ o. cond (has_entry x g) (Some i) o) (from gs k (i + 1))

-- a group more, without entries
pub joined : (g : Mirrors) (groups : List Mirrors) (x : List ℕ) → g.merging ≡ [] → owner x (groups ++ g ∷ []) ≡ owner x groups
joined g groups x none =
    position_from-zero (has_entry x) (groups ++ g ∷ []) ∙ from groups 0 ∙ sym (position_from-zero (has_entry x) groups)
  where
    from : (gs : List Mirrors) (i : ℕ) → owner_from x i (gs ++ g ∷ []) ≡ owner_from x i gs
    from [] i = ap (λ m. cond (list_any (λ e. bytes_eq e x) m) (Some i) None) none
    from (h ∷ hs) i = ap (λ o. cond (has_entry x h) (Some i) o) (from hs (i + 1))

-- a line that names a group
pub after_naming : (name : List ℕ) (n : ℕ) (s : Settings) (x : List ℕ) → owner x (naming name n s).groups ≡ owner x s.groups
after_naming name n s x =
    unmoved (named_at n) (λ g. refl) (new_group [] 0) (with_group name n s.groups) (group_at name s.groups) x
    ∙ cases (nat_lt (group_at name s.groups) (length s.groups))
  where
    cases : (t : Bool) → owner x (cond t s.groups (s.groups ++ new_group name n ∷ [])) ≡ owner x s.groups
    cases true = refl
    cases false = joined (new_group name n) s.groups x refl

-- ---- numbers of groups

-- what is found stands in the list
pub found_within : {X : Type 0} (p : X → Bool) (xs : List X) → IfSome (position p xs) (λ k. k < length xs)
found_within p xs = cases (nat_lt (position_or_len p xs) (length xs)) refl
  where
    cases : (t : Bool) → nat_lt (position_or_len p xs) (length xs) ≡ t → IfSome (cond t (Some (position_or_len p xs)) None) (λ k. k < length xs)
    cases true e = ltb-true _ _ e
    cases false e = tt
