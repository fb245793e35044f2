-- What the lists of a map's entries and keys have.
use Rattle.std.proofs.Common.{◌≡◌, ℕ, ◌+◌, ◌≤◌, ◌<◌, ◌==◌, ◌||◌, Bool, true, false, cond, List, [], ◌∷◌, Option, Some}
use Rattle.std.proofs.Common.{None, is_some, ap, sym, refl, subst, ◌∙◌, arith}
use Rattle.std.specs.List.{list_any}
use Rattle.std.specs.Map.{keys_of}
use Rattle.std.specs.Ordering.{nat_cmp, eq_by_cmp}
use Rattle.std.specs.Cmp.{nat_cmp_total, unsigned_tied}
use Rattle.std.specs.FinMap.{FinMap, contains_key, empty, get, find, insert, from_entries, get-empty, get-insert}
use Rattle.std.proofs.lemmas.List.Elements.{All-nil, All-cons}
use Rattle.acng_keeper.specs.Kept.{Store, IdsBelow, IdSet}
use Rattle.acng_keeper.specs.Lists.{AllBelow, ListsBodies}
use Rattle.acng_keeper.proofs.Entered.{found}

either_case : {X : Type 0} (b : Bool) (v : X) (o : Option X) → is_some (cond b (Some v) o) ≡ (b || is_some o)
either_case true v o = refl
either_case false v o = refl

has-more : {X : Type 0} (es : List (ℕ × X)) (k : ℕ) (v : X) (q : ℕ)
    → contains_key (from_entries {R = nat_cmp} ((k, v) ∷ es)) q ≡ ((q == k) || contains_key (from_entries {R = nat_cmp} es) q)
has-more es k v q =
    ap is_some (get-insert nat_cmp_total (from_entries {R = nat_cmp} es) k v q)
    ∙ either_case (eq_by_cmp nat_cmp q k) v (get (from_entries {R = nat_cmp} es) q)
    ∙ ap (λ b. b || contains_key (from_entries {R = nat_cmp} es) q) (unsigned_tied q k)

-- a key is in the list of keys exactly if the map has it
pub list_any-keys : {X : Type 0} (es : List (ℕ × X)) (q : ℕ)
    → list_any (λ i. q == i) (keys_of es) ≡ contains_key (from_entries {R = nat_cmp} es) q
list_any-keys {X} [] q = sym (ap is_some (get-empty {X = X} nat_cmp q))
list_any-keys {X} (e ∷ es) q = ap (λ b. (q == e.0) || b) (list_any-keys es q) ∙ sym (has-more es e.0 e.1 q)

below_case : (n k : ℕ) (ks : List ℕ) → ((q : ℕ) → list_any (λ i. q == i) (k ∷ ks) ≡ true → q + 1 ≤ n) → AllBelow n ks → AllBelow n (k ∷ ks)
below_case n k ks below rest =
    All-cons (λ i. i < n) k ks (let e : ((k == k) || list_any (λ i. k == i) ks) ≡ true = grind arith in omega (arith, below k e)) rest

either_true : (b c : Bool) → c ≡ true → (b || c) ≡ true
either_true true c e = refl
either_true false c e = e

all_below : (n : ℕ) (ks : List ℕ) → ((q : ℕ) → list_any (λ i. q == i) ks ≡ true → q + 1 ≤ n) → AllBelow n ks
all_below n [] below = All-nil (λ i. i < n)
all_below n (k ∷ ks) below =
    below_case n k ks below (all_below n ks (λ q had. below q (either_true (q == k) (list_any (λ i. q == i) ks) had)))

-- the keys of a map whose ids are below a bound
pub keys_below : {X : Type 0} (n : ℕ) (es : List (ℕ × X)) → IdsBelow n (from_entries {R = nat_cmp} es) → AllBelow n (keys_of es)
keys_below n es below = all_below n (keys_of es) (λ q had. below.each q (sym (list_any-keys es q) ∙ had))

pub heads_below : {X : Type 0} (n : ℕ) (es : List (ℕ × X)) (m : FinMap nat_cmp X) → from_entries {R = nat_cmp} es ≡ m → IdsBelow n m
    → AllBelow n (keys_of es)
heads_below n es m is below = keys_below n es (subst (IdsBelow n) (sym is) below)

pub ids_below : (n : ℕ) (m : IdSet) (ids : List ℕ) → ((q : ℕ) → list_any (λ i. q == i) ids ≡ contains_key m q) → IdsBelow n m
    → AllBelow n ids
ids_below n m ids lists below = all_below n ids (λ q had. below.each q (sym (lists q) ∙ had))

one_has : (b c : Bool) (id n : ℕ) → (b ≡ true → id + 1 ≤ n) → (c ≡ true → id + 1 ≤ n) → (b || c) ≡ true → id + 1 ≤ n
one_has true c id n first second had = first refl
one_has false c id n first second had = second had

pub bodies_below : (n : ℕ) (bodies : Store) (loose : IdSet) (ids : List ℕ) → ListsBodies bodies loose ids → IdsBelow n bodies
    → IdsBelow n loose → AllBelow n ids
bodies_below n bodies loose ids lists sealed unsealed =
    all_below n ids (λ q had. one_has (contains_key bodies q) (contains_key loose q) q n (sealed.each q) (unsealed.each q)
    (sym (lists.each q) ∙ had))

-- ---- ids put into another map, one by one

moved_case : {X Y : Type 0} (b : Bool) (t : Y) (v : X) (o : Option Y) (f : Option X)
    → (is_some (cond b (Some t) o) || is_some f) ≡ (is_some o || is_some (cond b (Some v) f))
moved_case true t v None f = refl
moved_case true t v (Some s) f = refl
moved_case false t v o f = refl

pub moved_id : {X : Type 0} (all more : IdSet) (k : ℕ) (v : X) (es fs : List (ℕ × X)) → more ≡ insert all k tt → es ≡ (k, v) ∷ fs
    → (q : ℕ) → (contains_key more q || is_some (find nat_cmp q fs)) ≡ (contains_key all q || is_some (find nat_cmp q es))
moved_id all more k v es fs is first q = ap (λ m. contains_key m q || is_some (find nat_cmp q fs)) is
    ∙ ap (λ o. is_some o || is_some (find nat_cmp q fs)) (get-insert nat_cmp_total all k tt q)
    ∙ moved_case (eq_by_cmp nat_cmp q k) tt v (get all q) (find nat_cmp q fs)
    ∙ ap (λ xs. contains_key all q || is_some (find nat_cmp q xs)) (sym first)

or_false : (b : Bool) → b ≡ (b || false)
or_false true = refl
or_false false = refl

-- all are moved
pub none_left : {X : Type 0} (all : IdSet) (es : List (ℕ × X)) → es ≡ [] → (q : ℕ)
    → contains_key all q ≡ (contains_key all q || is_some (find nat_cmp q es))
none_left all es none q = or_false (contains_key all q) ∙ ap (λ xs. contains_key all q || is_some (find nat_cmp q xs)) (sym none)

-- all are left
pub all_left : {X : Type 0} (all : IdSet) (es fs : List (ℕ × X)) (m : FinMap nat_cmp X) → es ≡ fs → from_entries {R = nat_cmp} fs ≡ m
    → (q : ℕ) → (contains_key all q || is_some (find nat_cmp q es)) ≡ (contains_key all q || contains_key m q)
all_left all es fs m same is q =
    ap (λ xs. contains_key all q || is_some (find nat_cmp q xs)) same ∙ ap (λ o. contains_key all q || is_some o) (found fs q)
    ∙ ap (λ t. contains_key all q || contains_key t q) is

-- the ids of both, gathered in a map that was empty
pub gathered : (bodies : Store) (loose start first all : IdSet) (ids : List ℕ) → start ≡ empty
    → ((q : ℕ) → contains_key first q ≡ (contains_key start q || contains_key bodies q))
    → ((q : ℕ) → contains_key all q ≡ (contains_key first q || contains_key loose q))
    → ((q : ℕ) → list_any (λ i. q == i) ids ≡ contains_key all q) → ListsBodies bodies loose ids
gathered bodies loose start first all ids none one two lists = record {
  each = λ q.
      let clear : contains_key start q ≡ false = ap is_some (ap (λ m. get m q) none ∙ get-empty {X = Unit {0}} nat_cmp q) in
      lists q ∙ two q ∙ ap (λ b. b || contains_key loose q) (one q ∙ ap (λ b. b || contains_key bodies q) clear);
}
