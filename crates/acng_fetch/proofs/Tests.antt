-- Tests, options and what they tell.
use Rattle.std.proofs.Common.{◌≡◌, Bool, true, false, ◌&&◌, ◌||◌, ℕ, List, bytes_eq, Option, Some, None, if◌then◌else◌}
use Rattle.std.proofs.Common.{is_some, is_none, IfSome, refl, subst}
use Rattle.std.proofs.lemmas.Slice.Eq.{bytes_eq-Decides}

pub by_test : {A : Type 0} (P : A → Type 0) (b : Bool) (x y : A) → (b ≡ true → P x) → (b ≡ false → P y) → P (if b then x else y)
by_test P true x y f g = f refl
by_test P false x y f g = g refl

pub both : (a b : Bool) → a && b ≡ true → (a ≡ true) × (b ≡ true)
both true true h = (refl, refl)
both true false h = (refl, h)
both false b h = absurd cc

pub some_of : {A : Type 0} (o : Option A) → is_some o ≡ true → (x : A) × (o ≡ Some x)
some_of None h = absurd cc
some_of (Some x) h = (x, refl)

pub none_of : {A : Type 0} (o : Option A) → is_some o ≡ false → is_none o ≡ true
none_of None h = refl
none_of (Some x) h = absurd cc

pub some_is : {A : Type 0} (x y : A) → Some x ≡ Some y → x ≡ y
some_is x y h = cc

pub neither : (a b : Bool) → a ≡ false → b ≡ false → a || b ≡ false
neither false false h k = refl
neither false true h k = k
neither true b h k = absurd cc

pub second_false : (a b : Bool) → a ≡ true → a && b ≡ false → b ≡ false
second_false true false h k = refl
second_false true true h k = k
second_false false b h k = absurd cc

pub bytes_eq_true : (a b : List ℕ) → bytes_eq a b ≡ true → a ≡ b
bytes_eq_true a b h = (bytes_eq-Decides a b).0 h

-- a fact of what an option has
pub of_some : {A : Type 0} (o : Option A) (x : A) (P : A → Type 0) → o ≡ Some x → IfSome o P → P x
of_some o x P h k = subst (λ y. IfSome y P) h k

pub if_some : {A : Type 0} (o : Option A) (P : A → Type 0) → ((x : A) → o ≡ Some x → P x) → IfSome o P
if_some None P f = tt
if_some (Some x) P f = f x refl
