-- The longest of the entries that pass a test.
use Rattle.std.proofs.Common.{◌≡◌, ℕ, ◌+◌, ◌≤◌, Bool, true, false, ◌||◌, List, [], ◌∷◌, Option, Some, None, cond, length, bytes_eq, nat_lt, refl, sym, ap, ◌∙◌, arith}
use Rattle.std.specs.Bool.{⊤}
use Rattle.std.specs.List.{list_any, filter, position_from}
use Rattle.std.proofs.lemmas.List.Folds.{list_any-append}
use Rattle.std.proofs.lemmas.Iterator.Adapters.{position_from-zero}
use Rattle.std.proofs.lemmas.Slice.Eq.{bytes_eq-Decides}
use Rattle.std.proofs.lemmas.Grind.{common_steps}
use Rattle.acng_conf.specs.Settings.{Mirrors}
use Rattle.acng_conf.specs.Readings.{owner, has_entry}
use Rattle.acng_remap.specs.Decisions.{longest, longer_of, entries}

is_one : (x e : List ℕ) → bytes_eq x e ≡ true → x ≡ e
is_one x e h = grind (arith, common_steps, bytes_eq-Decides)

-- ---- an entry that has an owner is among all entries

found_from : {X : Type 0} (p : X → Bool) (xs : List X) (i k : ℕ) → position_from p i xs ≡ Some k → list_any p xs ≡ true
found_from p [] i k h = cc
found_from p (x ∷ xs) i k h = cases (p x) h (found_from p xs (i + 1) k)
  where
    cases : (t : Bool) → cond t (Some i) (position_from p (i + 1) xs) ≡ Some k → (position_from p (i + 1) xs ≡ Some k → list_any p xs ≡ true) → (t || list_any p xs) ≡ true
    cases true h again = refl
    cases false h again = again h

among : (entry : List ℕ) (groups : List Mirrors) → list_any (has_entry entry) groups ≡ true → list_any (λ e. bytes_eq e entry) (entries groups) ≡ true
among entry [] h = h
among entry (g ∷ gs) h = list_any-append (λ e. bytes_eq e entry) g.merging (entries gs) ∙ cases (has_entry entry g) h (among entry gs)
  where
    cases : (t : Bool) → (t || list_any (has_entry entry) gs) ≡ true → (list_any (has_entry entry) gs ≡ true → list_any (λ e. bytes_eq e entry) (entries gs) ≡ true)
        → (t || list_any (λ e. bytes_eq e entry) (entries gs)) ≡ true
    cases true h again = refl
    cases false h again = again h

pub owned : (entry : List ℕ) (groups : List Mirrors) (k : ℕ) → owner entry groups ≡ Some k → list_any (λ e. bytes_eq e entry) (entries groups) ≡ true
owned entry groups k h = among entry groups (found_from (has_entry entry) groups 0 k (sym (position_from-zero (has_entry entry) groups) ∙ h))

-- ---- the longest

abbrev Passes : (List ℕ → Bool) → Option (List ℕ) → Type 0
Passes test None = ⊤
Passes test (Some y) = test y ≡ true

-- what is the longest passes the test itself
passes : (test : List ℕ → Bool) (es : List (List ℕ)) → Passes test (longest (filter test es))
passes test [] = tt
passes test (x ∷ xs) = cases (test x) refl (passes test xs)
  where
    pick : (t : Bool) (y : List ℕ) → test x ≡ true → test y ≡ true → test (cond t x y) ≡ true
    pick true y hx hy = hx
    pick false y hx hy = hy

    more : (o : Option (List ℕ)) → test x ≡ true → Passes test o → Passes test (longer_of x o)
    more None hx h = hx
    more (Some y) hx h = pick (nat_lt (length y) (length x)) y hx h

    cases : (t : Bool) → test x ≡ t → Passes test (longest (filter test xs)) → Passes test (longest (cond t (x ∷ filter test xs) (filter test xs)))
    cases true e again = more (longest (filter test xs)) e again
    cases false e again = again

abbrev IsBest : (List ℕ → Bool) → List ℕ → Type 0
IsBest test e = (x : List ℕ) → test x ≡ true → (length x ≤ length e) × (length x ≡ length e → x ≡ e)

-- an entry among them that no other one beats is the longest
pub best : (test : List ℕ → Bool) (e : List ℕ) (es : List (List ℕ)) → test e ≡ true → IsBest test e → list_any (λ x. bytes_eq x e) es ≡ true → longest (filter test es) ≡ Some e
best test e [] he most h = cc
best test e (x ∷ xs) he most h = cases (test x) refl (bytes_eq x e) refl h (best test e xs he most)
  where
    after_best : test x ≡ true → longest (filter test xs) ≡ Some e → longer_of x (longest (filter test xs)) ≡ Some e
    after_best hx again =
        let no : nat_lt (length e) (length x) ≡ false = let m = most x hx in grind (arith, common_steps) in
        rw again (rw no refl)

    first : (o : Option (List ℕ)) → x ≡ e → Passes test o → longer_of x o ≡ Some e
    first None is h = ap Some is
    first (Some y) is h = pick (nat_lt (length y) (length x)) refl
      where
        pick : (t : Bool) → nat_lt (length y) (length x) ≡ t → Some (cond t x y) ≡ Some e
        pick true lt = ap Some is
        pick false lt =
            let m = most y h in
            let len : length x ≡ length e = ap length is in
            let equal : length y ≡ length e = grind (arith, common_steps) in
            ap Some (m.1 equal)

    cases : (t : Bool) → test x ≡ t → (u : Bool) → bytes_eq x e ≡ u → (u || list_any (λ y. bytes_eq y e) xs) ≡ true
        → (list_any (λ y. bytes_eq y e) xs ≡ true → longest (filter test xs) ≡ Some e) → longest (cond t (x ∷ filter test xs) (filter test xs)) ≡ Some e
    cases true hx true is h again = first (longest (filter test xs)) (is_one x e is) (passes test xs)
    cases true hx false is h again = after_best hx (again h)
    cases false hx true is h again = let same : x ≡ e = is_one x e is in let t : test x ≡ true = ap test same ∙ he in cc
    cases false hx false is h again = again h

-- where none passes there is none
pub nothing : (test : List ℕ → Bool) (es : List (List ℕ)) → ((x : List ℕ) → test x ≡ false) → longest (filter test es) ≡ None
nothing test [] none = refl
nothing test (x ∷ xs) none = rw (none x) (nothing test xs none)
