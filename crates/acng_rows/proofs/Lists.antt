-- What isn't the rows', as a list of removals, and what is left once they are done.
use Rattle.std.proofs.Common.{◌≡◌, ◌≢◌, ◌⊎◌, ◌==◌, ◌||◌, ℕ, zero, suc, ◌+◌, ◌<◌, ◌≤◌, Bool, true, false, List, [], ◌∷◌, ◌++◌, length, take}
use Rattle.std.proofs.Common.{slice_index, Some, None, Option, is_some, cond, refl, sym, ap, subst, ◌∙◌, inl, inr, arith}
use mathlib.Core.Bool.{true≢false}
use Rattle.std.specs.FinMap as map
use Rattle.std.specs.Map.{keys_of}
use Rattle.std.specs.Ordering.{nat_cmp}
use Rattle.std.specs.List.{list_any}
use Rattle.acng_keeper.specs.Kept.{Kept, IdSet, Stored, stored, changed_by, loose_after, AreApart}
use Rattle.acng_keeper.specs.Images.{changed}
use Rattle.acng_keeper.specs.Lists.{ListsBodies}
use Rattle.acng_keeper.specs.declared.effect.Effect.TheVariants.{HeadRemoved, BodyRemoved}
use Rattle.acng_keeper.proofs.Listed.{list_any-keys}
use Rattle.acng_rows.specs.declared.removal.Removal.{Removal}
use Rattle.acng_rows.specs.declared.removal.Removal.TheVariants as removal
use Rattle.acng_rows.specs.Rows.{Rows}
use Rattle.acng_rows.specs.Goods.{Holds, IsUnnamed, IsNamed, IsAll}
use Rattle.acng_rows.specs.Removals.{effects_of, id_in, loose_by, IsIn, AreUnnamed}
use Rattle.acng_rows.specs.Starts.{AreIds, Lists, Covers, off}
use Rattle.acng_rows.proofs.Ids.{had, id-insert}

-- ---- lists, one element further

pub next_taken : (xs : List ℕ) (i : ℕ) → i < length xs → take (i + 1) xs ≡ take i xs ++ slice_index xs i ∷ []
next_taken [] i small = absurd (omega (arith, small))
next_taken (x ∷ xs) zero small = ap (λ ys. x ∷ ys) (none_taken xs)
  where
    none_taken : (ys : List ℕ) → take 0 ys ≡ []
    none_taken [] = refl
    none_taken (y ∷ ys) = refl
next_taken (x ∷ xs) (suc i) small = let e : suc i + 1 ≡ suc (i + 1) = omega arith in
    ap (λ n. take n (x ∷ xs)) e ∙ ap (λ ys. x ∷ ys) (next_taken xs i (omega (arith, small)))

pub all_taken : (xs : List ℕ) (n : ℕ) → length xs ≤ n → take n xs ≡ xs
all_taken [] zero le = refl
all_taken [] (suc n) le = refl
all_taken (x ∷ xs) zero le = absurd (omega (arith, le))
all_taken (x ∷ xs) (suc n) le = ap (λ ys. x ∷ ys) (all_taken xs n (omega (arith, le)))

pub zero_taken : (xs : List ℕ) → take 0 xs ≡ []
zero_taken [] = refl
zero_taken (x ∷ xs) = refl

off_case : (make : ℕ → Removal) (b : Bool) (x : ℕ) (more : List Removal) (rest : List Removal)
    → cond b (rest ++ more) (make x ∷ (rest ++ more)) ≡ cond b rest (make x ∷ rest) ++ more
off_case make true x more rest = refl
off_case make false x more rest = refl

off_last : (make : ℕ → Removal) (b : Bool) (x : ℕ) → cond b [] (make x ∷ []) ≡ [] ++ cond b [] (make x ∷ [])
off_last make true x = refl
off_last make false x = refl

off_more : (make : ℕ → Removal) (ids : IdSet) (xs : List ℕ) (x : ℕ)
    → off make ids (xs ++ x ∷ []) ≡ off make ids xs ++ cond (map.contains_key ids x) [] (make x ∷ [])
off_more make ids [] x = off_last make (map.contains_key ids x) x
off_more make ids (y ∷ ys) x =
    ap (λ rs. cond (map.contains_key ids y) rs (make y ∷ rs)) (off_more make ids ys x)
    ∙ off_case make (map.contains_key ids y) y (cond (map.contains_key ids x) [] (make x ∷ [])) (off make ids ys)

pub off_next : (make : ℕ → Removal) (ids : IdSet) (xs : List ℕ) (i x : ℕ) (front list more : List Removal) → i < length xs
    → x ≡ slice_index xs i
    → list ≡ front ++ off make ids (take i xs) → more ≡ list ++ cond (map.contains_key ids x) [] (make x ∷ [])
    → more ≡ front ++ off make ids (take (i + 1) xs)
off_next make ids xs i x front list more small at was is =
    is ∙ ap (λ rs. rs ++ cond (map.contains_key ids x) [] (make x ∷ [])) was
    ∙ both front (off make ids (take i xs)) (cond (map.contains_key ids x) [] (make x ∷ []))
    ∙ ap (λ rs. front ++ rs) (sym (off_more make ids (take i xs) x))
    ∙ ap (λ y. front ++ off make ids (take i xs ++ y ∷ [])) at
    ∙ ap (λ ys. front ++ off make ids ys) (sym (next_taken xs i small))
  where
    both : (xs ys zs : List Removal) → (xs ++ ys) ++ zs ≡ xs ++ (ys ++ zs)
    both [] ys zs = refl
    both (r ∷ rs) ys zs = ap (λ ws. r ∷ ws) (both rs ys zs)

-- ---- a set of the ids of a list

any_last : (b : Bool) → (b || false) ≡ (false || b)
any_last true = refl
any_last false = refl

any_both : (a b c : Bool) → (a || (b || c)) ≡ ((a || b) || c)
any_both true b c = refl
any_both false b c = refl

any_more : (q : ℕ) (xs : List ℕ) (x : ℕ) → list_any (λ i. q == i) (xs ++ x ∷ []) ≡ (list_any (λ i. q == i) xs || (q == x))
any_more q [] x = any_last (q == x)
any_more q (y ∷ ys) x = ap (λ b. (q == y) || b) (any_more q ys x) ∙ any_both (q == y) (list_any (λ i. q == i) ys) (q == x)

put_case : (b : Bool) (o : Option (Unit {0})) → is_some (cond b (Some tt) o) ≡ (is_some o || b)
put_case true None = refl
put_case true (Some u) = refl
put_case false None = refl
put_case false (Some u) = refl

pub set_next : (ids more : IdSet) (xs : List ℕ) (i x : ℕ) → i < length xs → x ≡ slice_index xs i
    → ((q : ℕ) → map.contains_key ids q ≡ list_any (λ i. q == i) (take i xs)) → more ≡ map.insert ids x tt
    → (q : ℕ) → map.contains_key more q ≡ list_any (λ i. q == i) (take (i + 1) xs)
set_next ids more xs i x small at was is q =
    ap (λ m. map.contains_key m q) is ∙ ap is_some (id-insert ids x tt q) ∙ put_case (q == x) (map.get ids q)
    ∙ ap (λ b. b || (q == x)) (was q) ∙ sym (any_more q (take i xs) x)
    ∙ ap (λ y. list_any (λ i. q == i) (take i xs ++ y ∷ [])) at ∙ ap (λ ys. list_any (λ i. q == i) ys) (sym (next_taken xs i small))

pub set_none : (ids : IdSet) (xs : List ℕ) → ids ≡ map.empty → (q : ℕ) → map.contains_key ids q ≡ list_any (λ i. q == i) (take 0 xs)
set_none ids xs is q =
    ap (λ m. map.contains_key m q) is ∙ ap is_some (map.get-empty {X = Unit {0}} nat_cmp q)
    ∙ ap (λ ys. list_any (λ i. q == i) ys) (sym (zero_taken xs))

-- ---- what is listed isn't the rows', and what isn't the rows' is listed

module _ (rows : Rows) (ids : IdSet) (a : AreIds rows ids) where
  other : (id : ℕ) → map.contains_key ids id ≡ false → IsUnnamed rows id
  other id none = record { each = λ path w at e. true≢false (sym (a.each path w at) ∙ ap (map.contains_key ids) e ∙ none) }

  module _ (make : ℕ → Removal) (of : (id : ℕ) → id_in (make id) ≡ id) where
    off_case_unnamed : (x : ℕ) (rest : List Removal) (b : Bool) → map.contains_key ids x ≡ b → AreUnnamed rows rest
        → AreUnnamed rows (cond b rest (make x ∷ rest))
    unfolding AreUnnamed
    off_case_unnamed x rest true t less = less
    off_case_unnamed x rest false t less = (subst (IsUnnamed rows) (sym (of x)) (other x t), less)

    off_unnamed : (xs : List ℕ) → AreUnnamed rows (off make ids xs)
    unfolding AreUnnamed
    off_unnamed [] = tt
    off_unnamed (x ∷ xs) = off_case_unnamed x (off make ids xs) (map.contains_key ids x) refl (off_unnamed xs)

    listed_case : (x : ℕ) (xs : List ℕ) (id : ℕ) (b : Bool) → map.contains_key ids x ≡ b → (c : Bool) → (id == x) ≡ c
        → (list_any (λ i. id == i) xs ≡ true → IsNamed rows id ⊎ IsIn (make id) (off make ids xs))
        → (c || list_any (λ i. id == i) xs) ≡ true
        → IsNamed rows id ⊎ IsIn (make id) (cond b (off make ids xs) (make x ∷ off make ids xs))
    listed_case x xs id true t true u rest is =
        let e : id ≡ x = grind (arith, u) in inl (a.only id (ap (map.contains_key ids) e ∙ t))
    listed_case x xs id true t false u rest is = rest is
    listed_case x xs id false t true u rest is = let e : id ≡ x = grind (arith, u) in inr (inl (ap make e))
    listed_case x xs id false t false u rest is = further (rest is)
      where
        further : IsNamed rows id ⊎ IsIn (make id) (off make ids xs) → IsNamed rows id ⊎ IsIn (make id) (make x ∷ off make ids xs)
        further (inl n) = inl n
        further (inr i) = inr (inr i)

    off_listed : (xs : List ℕ) (id : ℕ) → list_any (λ i. id == i) xs ≡ true → IsNamed rows id ⊎ IsIn (make id) (off make ids xs)
    off_listed [] id is = absurd (true≢false (sym is))
    off_listed (x ∷ xs) id is = listed_case x xs id (map.contains_key ids x) refl (id == x) refl (off_listed xs id) is

  unnamed_both : (xs ys : List Removal) → AreUnnamed rows xs → AreUnnamed rows ys → AreUnnamed rows (xs ++ ys)
  unfolding AreUnnamed
  unnamed_both [] ys p q = q
  unnamed_both (x ∷ xs) ys p q = (p.0, unnamed_both xs ys p.1 q)

  pub gone_unnamed : (heads bodies : List ℕ) (gone : List Removal) → gone ≡ off removal.Head ids heads ++ off removal.Body ids bodies
      → AreUnnamed rows gone
  gone_unnamed heads bodies gone is = subst (AreUnnamed rows) (sym is)
      (unnamed_both (off removal.Head ids heads) (off removal.Body ids bodies)
      (off_unnamed removal.Head (λ id. refl) heads) (off_unnamed removal.Body (λ id. refl) bodies))

  in_left : (r : Removal) (xs ys : List Removal) → IsIn r xs → IsIn r (xs ++ ys)
  in_left r [] ys i = absurd i
  in_left r (x ∷ xs) ys (inl e) = inl e
  in_left r (x ∷ xs) ys (inr i) = inr (in_left r xs ys i)

  in_right : (r : Removal) (xs ys : List Removal) → IsIn r ys → IsIn r (xs ++ ys)
  in_right r [] ys i = i
  in_right r (x ∷ xs) ys i = inr (in_right r xs ys i)

  on_right : {A B C : Type 0} → (B → C) → A ⊎ B → A ⊎ C
  on_right f (inl a) = inl a
  on_right f (inr b) = inr (f b)

  pub gone_lists : (heads bodies : List ℕ) (gone : List Removal) → gone ≡ off removal.Head ids heads ++ off removal.Body ids bodies
      → Lists rows gone heads bodies
  gone_lists heads bodies gone is = subst (λ g. Lists rows g heads bodies) (sym is) (record {
    heads = λ id has. on_right (in_left (removal.Head id) (off removal.Head ids heads) (off removal.Body ids bodies))
        (off_listed removal.Head (λ n. refl) heads id has);
    bodies = λ id has. on_right (in_right (removal.Body id) (off removal.Head ids heads) (off removal.Body ids bodies))
        (off_listed removal.Body (λ n. refl) bodies id has);
  })

-- ---- the list has all of the keeper's that isn't the rows'

or_left : (a b : Bool) → a ≡ true → (a || b) ≡ true
or_left true b is = refl
or_left false b is = absurd (true≢false (sym is))

or_right : (a b : Bool) → b ≡ true → (a || b) ≡ true
or_right true b is = refl
or_right false b is = is

not_named : (rows : Rows) (k : Kept) (id : ℕ) → Holds rows (stored k) → AreApart k.bodies k.loose → map.contains_key k.loose id ≡ true
    → IsNamed rows id → ⊥
not_named rows k id holds apart loose n =
    let body : map.contains_key k.bodies n.whole.id ≡ true = ap is_some (holds.each n.path n.whole n.at).good.body in
    true≢false (sym loose ∙ ap (map.contains_key k.loose) (sym n.is) ∙ apart.each n.whole.id body)

pub covered : (rows : Rows) (gone : List Removal) (heads : List (ℕ × List ℕ)) (bodies : List ℕ) (k : Kept)
    → Lists rows gone (keys_of heads) bodies
    → map.from_entries {R = nat_cmp} heads ≡ k.heads → ListsBodies k.bodies k.loose bodies → Holds rows (stored k)
    → AreApart k.bodies k.loose
    → Covers rows gone k
covered rows gone heads bodies k a listed all holds apart = record {
  heads = λ id has. a.heads id (list_any-keys heads id ∙ ap (λ m. map.contains_key m id) listed ∙ has);
  bodies = λ id has. a.bodies id (all.each id ∙ or_left (map.contains_key k.bodies id) (map.contains_key k.loose id) has);
  loose = λ id has. right id has (a.bodies id (all.each id ∙ or_right (map.contains_key k.bodies id) (map.contains_key k.loose id) has));
}
  where
    right : (id : ℕ) → map.contains_key k.loose id ≡ true → IsNamed rows id ⊎ IsIn (removal.Body id) gone → IsIn (removal.Body id) gone
    right id has (inl n) = absurd (not_named rows k id holds apart has n)
    right id has (inr i) = i

-- ---- what is left

abbrev is_head : Removal → Bool
is_head (removal.Head id) = true
is_head (removal.Body id) = false

head_left : (list : List Removal) (s : Stored) (id : ℕ) → map.contains_key (changed (effects_of list) s).heads id ≡ true
    → (map.contains_key s.heads id ≡ true) × (IsIn (removal.Head id) list → ⊥)
head_left [] s id has = (has, λ i. i)
head_left (removal.Head q ∷ rs) s id has =
    let r = head_left rs (changed_by (HeadRemoved q) s) id has in
    let h = had s.heads q id r.0 in
    (h.1, λ i. there r.1 h.0 i)
  where
    there : (IsIn (removal.Head id) rs → ⊥) → id ≢ q → (removal.Head id ≡ removal.Head q) ⊎ IsIn (removal.Head id) rs → ⊥
    there never not (inl e) = not (ap id_in e)
    there never not (inr i) = never i
head_left (removal.Body q ∷ rs) s id has =
    let r = head_left rs (changed_by (BodyRemoved q) s) id has in (r.0, λ i. there r.1 i)
  where
    there : (IsIn (removal.Head id) rs → ⊥) → (removal.Head id ≡ removal.Body q) ⊎ IsIn (removal.Head id) rs → ⊥
    there never (inl e) = true≢false (ap is_head e)
    there never (inr i) = never i

body_left : (list : List Removal) (s : Stored) (id : ℕ) → map.contains_key (changed (effects_of list) s).bodies id ≡ true
    → (map.contains_key s.bodies id ≡ true) × (IsIn (removal.Body id) list → ⊥)
body_left [] s id has = (has, λ i. i)
body_left (removal.Body q ∷ rs) s id has =
    let r = body_left rs (changed_by (BodyRemoved q) s) id has in
    let h = had s.bodies q id r.0 in
    (h.1, λ i. there r.1 h.0 i)
  where
    there : (IsIn (removal.Body id) rs → ⊥) → id ≢ q → (removal.Body id ≡ removal.Body q) ⊎ IsIn (removal.Body id) rs → ⊥
    there never not (inl e) = not (ap id_in e)
    there never not (inr i) = never i
body_left (removal.Head q ∷ rs) s id has =
    let r = body_left rs (changed_by (HeadRemoved q) s) id has in (r.0, λ i. there r.1 i)
  where
    there : (IsIn (removal.Body id) rs → ⊥) → (removal.Body id ≡ removal.Head q) ⊎ IsIn (removal.Body id) rs → ⊥
    there never (inl e) = true≢false (sym (ap is_head e))
    there never (inr i) = never i

loose_left : (list : List Removal) (m : IdSet) (id : ℕ) → map.contains_key (loose_by (effects_of list) m) id ≡ true
    → (map.contains_key m id ≡ true) × (IsIn (removal.Body id) list → ⊥)
loose_left [] m id has = (has, λ i. i)
loose_left (removal.Body q ∷ rs) m id has =
    let r = loose_left rs (loose_after (BodyRemoved q) m) id has in
    let h = had m q id r.0 in
    (h.1, λ i. there r.1 h.0 i)
  where
    there : (IsIn (removal.Body id) rs → ⊥) → id ≢ q → (removal.Body id ≡ removal.Body q) ⊎ IsIn (removal.Body id) rs → ⊥
    there never not (inl e) = not (ap id_in e)
    there never not (inr i) = never i
loose_left (removal.Head q ∷ rs) m id has =
    let r = loose_left rs (loose_after (HeadRemoved q) m) id has in (r.0, λ i. there r.1 i)
  where
    there : (IsIn (removal.Body id) rs → ⊥) → (removal.Body id ≡ removal.Head q) ⊎ IsIn (removal.Body id) rs → ⊥
    there never (inl e) = true≢false (sym (ap is_head e))
    there never (inr i) = never i

left_of : {A B : Type 0} → A ⊎ B → (B → ⊥) → A
left_of (inl a) never = a
left_of (inr b) never = absurd (never b)

not_true : (b : Bool) → (b ≡ true → ⊥) → b ≡ false
not_true true never = absurd (never refl)
not_true false never = refl

-- once all that isn't the rows' is removed, the keeper has the rows' alone
pub all_left : (rows : Rows) (list : List Removal) (old new : Kept) → Covers rows list old
    → stored new ≡ changed (effects_of list) (stored old)
    → new.loose ≡ loose_by (effects_of list) old.loose → IsAll rows new
all_left rows list old new a made loose = record {
  heads = λ id has.
      let l = head_left list (stored old) id (ap (λ (s : Stored). map.contains_key s.heads id) (sym made) ∙ has) in left_of
      (a.heads id l.0) l.1;
  bodies = λ id has.
      let l = body_left list (stored old) id (ap (λ (s : Stored). map.contains_key s.bodies id) (sym made) ∙ has) in left_of
      (a.bodies id l.0) l.1;
  loose = λ id. not_true (map.contains_key new.loose id) (λ has.
      let l = loose_left list old.loose id (ap (λ m. map.contains_key m id) (sym loose) ∙ has) in l.1 (a.loose id l.0));
}
