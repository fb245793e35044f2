-- Ids stay below the next id, and sealed bodies apart from unsealed ones, as maps get an entry more or less.
use Rattle.std.proofs.Common.{◌≡◌, ℕ, ◌+◌, ◌≤◌, ◌<◌, ◌==◌, Bool, true, false, cond, Option, Some, None, is_some, ap, sym, refl, ◌∙◌, arith}
use Rattle.std.specs.Ordering.{nat_cmp, eq_by_cmp}
use Rattle.std.specs.Cmp.{nat_cmp_total, unsigned_tied}
use Rattle.std.specs.FinMap.{FinMap, contains_key, get, insert, remove, empty, get-insert, get-remove, get-empty}
use Rattle.std.specs.FinMap.{same_map, nat_cmp-IsAntisymmetric}
use Rattle.acng_keeper.specs.Kept.{IdsBelow, AreApart}

-- ---- what a map with an entry more or less has

has-insert : {X : Type 0} (m new : FinMap nat_cmp X) (k : ℕ) (v : X) → new ≡ insert m k v → (id : ℕ)
    → contains_key new id ≡ is_some (cond (eq_by_cmp nat_cmp id k) (Some v) (get m id))
has-insert m new k v is id = ap is_some (ap (λ t. get t id) is ∙ get-insert nat_cmp_total m k v id)

has-remove : {X : Type 0} (m new : FinMap nat_cmp X) (k : ℕ) → new ≡ remove m k → (id : ℕ)
    → contains_key new id ≡ is_some (cond (eq_by_cmp nat_cmp id k) None (get m id))
has-remove m new k is id = ap is_some (ap (λ t. get t id) is ∙ get-remove nat_cmp_total m k id)

put_case : {X : Type 0} (o : Option X) (v : X) (b : Bool) → b ≡ true → is_some (cond b (Some v) o) ≡ true
put_case o v true is = refl
put_case o v false is = absurd (grind (arith, is))

pub has_put : {X : Type 0} (m new : FinMap nat_cmp X) (k : ℕ) (v : X) → new ≡ insert m k v → contains_key new k ≡ true
has_put m new k v is = has-insert m new k v is k ∙ put_case (get m k) v (eq_by_cmp nat_cmp k k) (unsigned_tied k k ∙ grind arith)

-- ---- ids below a bound

one_more : {X : Type 0} (o : Option X) (v : X) (k id n p : ℕ) (b : Bool) → (id == k) ≡ b → k < n → p ≤ n → (is_some o ≡ true → id + 1 ≤ p)
    → is_some (cond b (Some v) o) ≡ true → id + 1 ≤ n
one_more o v k id n p true is small later below had = grind (arith, is)
one_more o v k id n p false is small later below had = omega (arith, below had)

one_less : {X : Type 0} (o : Option X) (id n : ℕ) (b : Bool) → (is_some o ≡ true → id + 1 ≤ n) → is_some (cond b None o) ≡ true → id + 1 ≤ n
one_less o id n true below had = grind arith
one_less o id n false below had = below had

pub put_below : {X : Type 0} (m new : FinMap nat_cmp X) (k : ℕ) (v : X) (n p : ℕ) → new ≡ insert m k v → IdsBelow p m → k < n → p ≤ n
    → IdsBelow n new
put_below m new k v n p is below small later =
    record {
      each = λ id had. one_more (get m id) v k id n p (eq_by_cmp nat_cmp id k) (sym (unsigned_tied id k)) small later
          (below.each id) (sym (has-insert m new k v is id) ∙ had);
    }

pub removed_below : {X : Type 0} (m new : FinMap nat_cmp X) (k n : ℕ) → new ≡ remove m k → IdsBelow n m → IdsBelow n new
removed_below m new k n is below =
    record { each = λ id had. one_less (get m id) id n (eq_by_cmp nat_cmp id k) (below.each id) (sym (has-remove m new k is id) ∙ had) }

pub later_below : {X : Type 0} (m : FinMap nat_cmp X) (n p : ℕ) → p ≤ n → IdsBelow p m → IdsBelow n m
later_below m n p later below = record { each = λ id had. omega (arith, later, below.each id had) }

pub none_below : {X : Type 0} (m : FinMap nat_cmp X) (n : ℕ) → m ≡ empty → IdsBelow n m
none_below {X} m n is = record { each = λ id had. grind (arith, is, get-empty {X = X} nat_cmp id) }

-- ---- maps apart

apart_case : {X Y : Type 0} (o : Option X) (l : Option Y) (v : X) (b : Bool) → (is_some o ≡ true → is_some l ≡ false)
    → is_some (cond b (Some v) o) ≡ true → is_some (cond b None l) ≡ false
apart_case o l v true apart had = refl
apart_case o l v false apart had = apart had

-- an entry is put into the one and taken from the other
pub moved_apart : {X Y : Type 0} (m new : FinMap nat_cmp X) (l less : FinMap nat_cmp Y) (k : ℕ) (v : X) → new ≡ insert m k v
    → less ≡ remove l k → AreApart m l → AreApart new less
moved_apart m new l less k v is gone apart =
    record {
      each = λ id had. has-remove l less k gone id
          ∙ apart_case (get m id) (get l id) v (eq_by_cmp nat_cmp id k) (apart.each id) (sym (has-insert m new k v is id) ∙ had);
    }

gone_case : {X Y : Type 0} (o : Option X) (l : Option Y) (b : Bool) → (is_some o ≡ true → is_some l ≡ false)
    → is_some (cond b None o) ≡ true → is_some (cond b None l) ≡ false
gone_case o l true apart had = refl
gone_case o l false apart had = apart had

-- an entry is taken from both
pub removed_apart : {X Y : Type 0} (m new : FinMap nat_cmp X) (l less : FinMap nat_cmp Y) (k : ℕ) → new ≡ remove m k → less ≡ remove l k
    → AreApart m l → AreApart new less
removed_apart m new l less k is gone apart =
    record {
      each = λ id had. has-remove l less k gone id
          ∙ gone_case (get m id) (get l id) (eq_by_cmp nat_cmp id k) (apart.each id) (sym (has-remove m new k is id) ∙ had);
    }

new_case : {X Y : Type 0} (o : Option X) (l : Option Y) (v : Y) (id k n : ℕ) (b : Bool) → (id == k) ≡ b → n ≤ k
    → (is_some o ≡ true → id + 1 ≤ n) → (is_some o ≡ true → is_some l ≡ false) → is_some o ≡ true → is_some (cond b (Some v) l) ≡ false
new_case o l v id k n true is large below apart had = let small : id + 1 ≤ n = below had in absurd (grind (arith, is, small))
new_case o l v id k n false is large below apart had = apart had

-- an entry that is above all of the one is put into the other
pub created_apart : {X Y : Type 0} (m : FinMap nat_cmp X) (l more : FinMap nat_cmp Y) (k n : ℕ) (v : Y) → more ≡ insert l k v
    → IdsBelow n m → n ≤ k → AreApart m l → AreApart m more
created_apart m l more k n v is below large apart =
    record {
      each = λ id had. has-insert l more k v is id
          ∙ new_case (get m id) (get l id) v id k n (eq_by_cmp nat_cmp id k) (sym (unsigned_tied id k)) large (below.each id)
          (apart.each id) had;
    }

-- the other is empty
pub none_apart : {X Y : Type 0} (m : FinMap nat_cmp X) (l : FinMap nat_cmp Y) → l ≡ empty → AreApart m l
none_apart {Y = Y} m l is = record { each = λ id had. ap is_some (ap (λ t. get t id) is ∙ get-empty {X = Y} nat_cmp id) }

-- ---- what isn't there is removed in vain

absent_case : {X : Type 0} (o : Option X) (b : Bool) → (b ≡ true → o ≡ None) → cond b None o ≡ o
absent_case o true none = sym (none refl)
absent_case o false none = refl

none_is : {X : Type 0} (o : Option X) → is_some o ≡ false → o ≡ None
none_is None e = refl
none_is (Some x) e = absurd (grind (arith, e))

pub remove_absent : {X : Type 0} (m : FinMap nat_cmp X) (k : ℕ) → contains_key m k ≡ false → remove m k ≡ m
remove_absent m k none =
    same_map nat_cmp_total nat_cmp-IsAntisymmetric _ _
    (λ q. get-remove nat_cmp_total m k q
    ∙ absent_case (get m q) (eq_by_cmp nat_cmp q k)
    (λ t. let e : q ≡ k = grind (arith, sym (unsigned_tied q k), t) in ap (get m) e ∙ none_is (get m k) none))

pub ruleset below =
    (put_below, removed_below, later_below, none_below, moved_apart, removed_apart, created_apart, none_apart, remove_absent)
