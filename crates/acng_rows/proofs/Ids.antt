-- A map of ids with one entry more or less, id by id.
use Rattle.std.proofs.Common.{◌≡◌, ◌≢◌, ◌==◌, ℕ, Bool, true, false, Some, None, Option, is_some, cond, unwrap_or}
use Rattle.std.proofs.Common.{refl, sym, ap, ◌∙◌, arith}
use mathlib.Core.Bool.{true≢false}
use Rattle.std.specs.FinMap as map
use Rattle.std.specs.Ordering.{nat_cmp}
use Rattle.std.specs.Cmp.{nat_cmp_total, unsigned_tied}

pub by_id : {P : Type 0} (q id : ℕ) (b : Bool) → (q == id) ≡ b → (q ≡ id → P) → (q ≢ id → P) → P
by_id q id true t here there = here (grind (arith, t))
by_id q id false t here there = there (λ e. true≢false (sym (let f : (q == id) ≡ true = grind (arith, e) in f) ∙ t))

-- an id is another one, or not
pub split : {P : Type 0} (q id : ℕ) → (q ≡ id → P) → (q ≢ id → P) → P
split q id here there = by_id q id (q == id) refl here there

pub some_is : {X : Type 0} (x y : X) → Some x ≡ Some y → x ≡ y
some_is x y is = ap (λ o. unwrap_or o x) is

off_case : {X : Type 0} (q id : ℕ) (v o : Option X) → q ≢ id → cond (q == id) v o ≡ o
off_case q id v o not = let e : (q == id) ≡ false = grind (arith, not) in ap (λ b. cond b v o) e

own_case : {X : Type 0} (id : ℕ) (v o : Option X) → cond (id == id) v o ≡ v
own_case id v o = let e : (id == id) ≡ true = grind arith in ap (λ b. cond b v o) e

less_case : {X : Type 0} (b : Bool) (o : Option X) (x : X) → cond b None o ≡ Some x → o ≡ Some x
less_case true o x is = absurd (true≢false (sym (ap is_some is)))
less_case false o x is = is

gone_case : {X : Type 0} (b : Bool) (o : Option X) → is_some o ≡ false → is_some (cond b None o) ≡ false
gone_case true o none = refl
gone_case false o none = none

module _ {X : Type 0} (m : map.FinMap nat_cmp X) (id : ℕ) where
  pub id-insert : (v : X) (q : ℕ) → map.get (map.insert m id v) q ≡ cond (q == id) (Some v) (map.get m q)
  id-insert v q = map.get-insert nat_cmp_total m id v q ∙ ap (λ b. cond b (Some v) (map.get m q)) (unsigned_tied q id)

  pub id-remove : (q : ℕ) → map.get (map.remove m id) q ≡ cond (q == id) None (map.get m q)
  id-remove q = map.get-remove nat_cmp_total m id q ∙ ap (λ b. cond b None (map.get m q)) (unsigned_tied q id)

  pub put_off : (v : X) (q : ℕ) → q ≢ id → map.get (map.insert m id v) q ≡ map.get m q
  put_off v q not = id-insert v q ∙ off_case q id (Some v) (map.get m q) not

  pub put_own : (v : X) → map.get (map.insert m id v) id ≡ Some v
  put_own v = id-insert v id ∙ own_case id (Some v) (map.get m id)

  pub less_off : (q : ℕ) → q ≢ id → map.get (map.remove m id) q ≡ map.get m q
  less_off q not = id-remove q ∙ off_case q id None (map.get m q) not

  pub less_own : map.get (map.remove m id) id ≡ None
  less_own = id-remove id ∙ own_case id None (map.get m id)

  pub less_was : (q : ℕ) (x : X) → map.get (map.remove m id) q ≡ Some x → map.get m q ≡ Some x
  less_was q x is = less_case (q == id) (map.get m q) x (sym (id-remove q) ∙ is)

  pub less_none : (q : ℕ) → map.contains_key m q ≡ false → map.contains_key (map.remove m id) q ≡ false
  less_none q none = ap is_some (id-remove q) ∙ gone_case (q == id) (map.get m q) none

-- what a map with an entry less has was there
pub had : {X : Type 0} (m : map.FinMap nat_cmp X) (id q : ℕ) → map.contains_key (map.remove m id) q ≡ true
    → (q ≢ id) × (map.contains_key m q ≡ true)
had m id q has = split q id
    (λ e. absurd (true≢false (sym has ∙ ap (λ n. map.contains_key (map.remove m id) n) e ∙ ap is_some (less_own m id))))
    (λ not. (not, sym (ap is_some (less_off m id q not)) ∙ has))
