-- How removals go on, and what they leave.
use Rattle.std.proofs.Common.{◌≡◌, ◌≢◌, ◌||◌, ℕ, zero, suc, ◌+◌, ◌<◌, ◌≤◌, Bool, true, false, List, [], ◌∷◌, length, drop, get_or}
use Rattle.std.proofs.Common.{Some, None, Option, is_some, refl, sym, ap, subst, ◌∙◌, inl, inr, arith}
use mathlib.Core.Bool.{true≢false}
use Rattle.std.specs.FinMap as map
use Rattle.acng_head.specs.declared.head.Head.{Head}
use Rattle.acng_head.specs.Records.{record_text}
use Rattle.acng_keeper.specs.declared.effect.Effect.{Effect}
use Rattle.acng_keeper.specs.declared.effect.Effect.TheVariants.{HeadRemoved, BodyRemoved}
use Rattle.acng_keeper.specs.Kept.{Kept, IdSet, Stored, stored, changed_by, after, loose_after, MayCome, Removes, has_body}
use Rattle.acng_keeper.specs.Images.{changed, Along, IsAlong, LeavesOnly, Goes}
use Rattle.acng_keeper.specs.Stops.{came, refused, both, stays, begins_itself, last, leaves_along}
use Rattle.acng_keeper.proofs.Below.{remove_absent}
use Rattle.acng_rows.specs.declared.removal.Removal.{Removal}
use Rattle.acng_rows.specs.declared.removal.Removal.TheVariants as removal
use Rattle.acng_rows.specs.declared.row.Whole.{Whole}
use Rattle.acng_rows.specs.Removals.{effect_of, effects_of, id_in, loose_by, Went, IsOff, AreUnnamed, KeepsLoose}
use Rattle.acng_rows.specs.Rows.{Rows, whole_at, head_of}
use Rattle.acng_rows.specs.Goods.{IsGood, IsRow, StandsFor, Holds, AreHeld, IsUnnamed, GoodsStay, AreSealed}
use Rattle.acng_rows.proofs.Ids.{less_off, less_was, less_none}

-- ---- one removal

none_is : {X : Type 0} (o : Option X) → is_some o ≡ false → o ≡ None
none_is None e = refl
none_is (Some x) e = absurd (true≢false e)

-- a removed head
pub head_went : (id : ℕ) (was : Bool) (old new : Kept) → MayCome (HeadRemoved id) old new → Removes (HeadRemoved id) was old new
    → Went (HeadRemoved id) old new
head_went id true old new may is = record { either = may; gone = is.gone; loose = ap (λ (k : Kept). k.loose) (is.comes refl) }
head_went id false old new may is = record { either = may; gone = is.gone; loose = ap (λ (k : Kept). k.loose) (is.same refl) }

not_loose : (a b : Bool) → (a ≡ true → b ≡ true) → b ≡ false → a ≡ false
not_loose true b up none = absurd (true≢false (sym (up refl) ∙ none))
not_loose false b up none = refl

body_case : (id : ℕ) (was : Bool) (old new : Kept) → (map.contains_key old.loose id ≡ true → was ≡ true) → MayCome (BodyRemoved id) old new
    → Removes (BodyRemoved id) was old new → Went (BodyRemoved id) old new
body_case id true old new has may is = record { either = may; gone = is.gone; loose = ap (λ (k : Kept). k.loose) (is.comes refl) }
body_case id false old new has may is = record {
  either = may;
  gone = is.gone;
  loose = ap (λ (k : Kept). k.loose) (is.same refl) ∙ sym (remove_absent old.loose id
      (not_loose (map.contains_key old.loose id) false has refl));
}

or_right : (a b : Bool) → b ≡ true → (a || b) ≡ true
or_right true b is = refl
or_right false b is = is

-- a removed body
pub body_went : (id : ℕ) (old new : Kept) → MayCome (BodyRemoved id) old new → Removes (BodyRemoved id) (has_body old id) old new
    → Went (BodyRemoved id) old new
body_went id old new may is = body_case id (has_body old id) old new (or_right (map.contains_key old.bodies id)
    (map.contains_key old.loose id)) may is

went_case : {P : Stored → Type 0} {old mid new : Kept} {e : Effect} {es : List Effect} → Goes P old (e ∷ es) mid → MayCome e mid new
    → stored new ≡ changed_by e (stored mid) → Goes P old es new
went_case a (inl is) gone = came a is
went_case {P} {old} {mid} {new} {e} {es} a (inr is) gone =
    record { leaves = both P old mid new a.leaves (stays P mid new a.ahead.0 is); ahead = subst (λ s. Along P es s) (sym gone) a.ahead.1 }

went : {P : Stored → Type 0} {old mid new : Kept} {e : Effect} {es : List Effect} → Goes P old (e ∷ es) mid → Went e mid new
    → Goes P old es new
went a w = went_case a w.either w.gone

-- ---- the loop over a list

drop_next : (list : List Removal) (i : ℕ) (r : Removal) → i < length list → get_or list i (removal.Head 0) ≡ r
    → effects_of (drop i list) ≡ effect_of r ∷ effects_of (drop (i + 1) list)
drop_next [] i r small is = absurd (omega (arith, small))
drop_next (x ∷ xs) zero r small is = ap (λ y. effect_of y ∷ effects_of xs) is ∙ first xs
  where
    first : (ys : List Removal) → effect_of r ∷ effects_of ys ≡ effect_of r ∷ effects_of (drop 0 ys)
    first [] = refl
    first (y ∷ ys) = refl
drop_next (x ∷ xs) (suc i) r small is = drop_next xs i r (omega (arith, small)) is
    ∙ (let e : suc i + 1 ≡ suc (i + 1) = omega arith in ap (λ n. effect_of r ∷ effects_of (drop n (x ∷ xs))) (sym e))

pub goes_on : (P : Stored → Type 0) (old mid new : Kept) (list : List Removal) (i : ℕ) (r : Removal) → i < length list
    → get_or list i (removal.Head 0) ≡ r → Goes P old (effects_of (drop i list)) mid → Went (effect_of r) mid new
    → Goes P old (effects_of (drop (i + 1) list)) new
goes_on P old mid new list i r small is a w = went (subst (λ es. Goes P old es mid) (drop_next list i r small is) a) w

pub stops : (P : Stored → Type 0) (old mid new : Kept) (list : List Removal) (i : ℕ) (r : Removal) → i < length list
    → get_or list i (removal.Head 0) ≡ r → Goes P old (effects_of (drop i list)) mid → MayCome (effect_of r) mid new → LeavesOnly P old new
stops P old mid new list i r small is a may = refused (subst (λ es. Goes P old es mid) (drop_next list i r small is) a) may

pub changes_on : (s t u : Stored) (list : List Removal) (i : ℕ) (r : Removal) → i < length list → get_or list i (removal.Head 0) ≡ r
    → changed (effects_of (drop i list)) t ≡ s → u ≡ changed_by (effect_of r) t → changed (effects_of (drop (i + 1) list)) u ≡ s
changes_on s t u list i r small is at made =
    ap (changed (effects_of (drop (i + 1) list))) made ∙ sym (ap (λ es. changed es t) (drop_next list i r small is)) ∙ at

pub loose_goes : (s t u : IdSet) (list : List Removal) (i : ℕ) (r : Removal) → i < length list → get_or list i (removal.Head 0) ≡ r
    → loose_by (effects_of (drop i list)) t ≡ s → u ≡ loose_after (effect_of r) t → loose_by (effects_of (drop (i + 1) list)) u ≡ s
loose_goes s t u list i r small is at made =
    ap (loose_by (effects_of (drop (i + 1) list))) made ∙ sym (ap (λ es. loose_by es t) (drop_next list i r small is)) ∙ at

pub none_dropped : (list : List Removal) (k : Kept) → Goes (IsAlong (effects_of list) (stored k)) k (effects_of (drop 0 list)) k
none_dropped [] k = begins_itself
none_dropped (r ∷ rs) k = begins_itself

pub all_dropped : (list : List Removal) (n : ℕ) → length list ≤ n → effects_of (drop n list) ≡ []
all_dropped [] zero le = refl
all_dropped [] (suc n) le = refl
all_dropped (r ∷ rs) zero le = absurd (omega (arith, le))
all_dropped (r ∷ rs) (suc n) le = all_dropped rs n (omega (arith, le))

-- ---- unsealed bodies

off_effect : (r : Removal) (id : ℕ) (k : Kept) → id ≢ id_in r → map.contains_key (after (effect_of r) k).loose id
    ≡ map.contains_key k.loose id
off_effect (removal.Head q) id k not = refl
off_effect (removal.Body q) id k not = ap is_some (less_off k.loose q id not)

pub loose_on : (r : Removal) (id : ℕ) (k new : Kept) → id ≢ id_in r → MayCome (effect_of r) k new
    → map.contains_key new.loose id ≡ map.contains_key k.loose id
loose_on r id k new not (inl is) = ap (λ (x : Kept). map.contains_key x.loose id) is ∙ off_effect r id k not
loose_on r id k new not (inr is) = ap (λ (x : Kept). map.contains_key x.loose id) is

pub off_at : (list : List Removal) (i : ℕ) (r : Removal) (id : ℕ) → i < length list → get_or list i (removal.Head 0) ≡ r → IsOff id list
    → id ≢ id_in r
off_at [] i r id small is off = absurd (omega (arith, small))
off_at (x ∷ xs) zero r id small is off = subst (λ y. id ≢ id_in y) is off.0
off_at (x ∷ xs) (suc i) r id small is off = off_at xs i r id (omega (arith, small)) is off.1

less_effect : (r : Removal) (id : ℕ) (k : Kept) → map.contains_key k.loose id ≡ false → map.contains_key
    (after (effect_of r) k).loose id ≡ false
less_effect (removal.Head q) id k none = none
less_effect (removal.Body q) id k none = less_none k.loose q id none

pub less_on : (r : Removal) (id : ℕ) (k new : Kept) → MayCome (effect_of r) k new → map.contains_key k.loose id ≡ false
    → map.contains_key new.loose id ≡ false
less_on r id k new (inl is) none = ap (λ (x : Kept). map.contains_key x.loose id) is ∙ less_effect r id k none
less_on r id k new (inr is) none = ap (λ (x : Kept). map.contains_key x.loose id) is ∙ none

-- ---- good heads

-- what is good after a removal was good before
pub good_less : (r : Removal) (s : Stored) (q : ℕ) (h : Head) (t : List ℕ) → IsGood (changed_by (effect_of r) s) q h t → IsGood s q h t
good_less (removal.Head id) s q h t g =
    record { head = less_was s.heads id q (record_text h) g.head; reads = g.reads; body = g.body; size = g.size }
good_less (removal.Body id) s q h t g = record { head = g.head; reads = g.reads; body = less_was s.bodies id q t g.body; size = g.size }

-- what is good stays so where another id goes
pub good_off : (r : Removal) (s : Stored) (q : ℕ) (h : Head) (t : List ℕ) → q ≢ id_in r → IsGood s q h t
    → IsGood (changed_by (effect_of r) s) q h t
good_off (removal.Head id) s q h t not g =
    record { head = less_off s.heads id q not ∙ g.head; reads = g.reads; body = g.body; size = g.size }
good_off (removal.Body id) s q h t not g =
    record { head = g.head; reads = g.reads; body = less_off s.bodies id q not ∙ g.body; size = g.size }

-- ---- the rows stay where only what no row names is removed

row_off : (rows : Rows) (r : Removal) (s : Stored) → IsUnnamed rows (id_in r) → (path : List ℕ) (o : Option Whole) → whole_at rows path ≡ o
    → IsRow s path o → IsRow (changed_by (effect_of r) s) path o
row_off rows r s none path None at row = λ id h t g. row id h t (good_less r s id h t g)
row_off rows r s none path (Some w) at row = record {
  text = row.text;
  good = good_off r s w.id (head_of path w) row.text (none.each path w at) row.good;
  most = λ id h t g. row.most id h t (good_less r s id h t g);
}

pub stand_off : (rows : Rows) (r : Removal) (s : Stored) → IsUnnamed rows (id_in r) → StandsFor rows s
    → StandsFor rows (changed_by (effect_of r) s)
stand_off rows r s none a = record { each = λ path. row_off rows r s none path (whole_at rows path) refl (a.each path) }

-- rows stand for what is there along removals of what they don't name
pub stand_along : (rows : Rows) (list : List Removal) (s : Stored) → AreUnnamed rows list → StandsFor rows s
    → Along (StandsFor rows) (effects_of list) s
unfolding AreUnnamed
stand_along rows [] s none a = a
stand_along rows (r ∷ rs) s none a = (a, stand_along rows rs (changed_by (effect_of r) s) none.1 (stand_off rows r s none.0 a))

pub hold_off : (rows : Rows) (r : Removal) (s : Stored) → IsUnnamed rows (id_in r) → Holds rows s → Holds rows (changed_by (effect_of r) s)
hold_off rows r s none a = record {
  each = λ path w at. let g = a.each path w at in
      record { head = g.head; text = g.text; good = good_off r s w.id g.head g.text (none.each path w at) g.good; alike = g.alike };
}

hold_along : (rows : Rows) (list : List Removal) (s : Stored) → AreUnnamed rows list → Holds rows s → Along (Holds rows) (effects_of list) s
unfolding AreUnnamed
hold_along rows [] s none a = a
hold_along rows (r ∷ rs) s none a = (a, hold_along rows rs (changed_by (effect_of r) s) none.1 (hold_off rows r s none.0 a))

-- rows stay held at each exit
pub holds_left : (rows : Rows) (list : List Removal) (old new : Kept) → AreUnnamed rows list → Holds rows (stored old)
    → LeavesOnly (IsAlong (effects_of list) (stored old)) old new → Holds rows (stored new)
holds_left rows list old new none a l =
    last (Holds rows) old new (leaves_along (Holds rows) (effects_of list) old new (hold_along rows list (stored old) none a) l)

pub held_left : (tells : Bool) (next later : ℕ) (rows : Rows) (list : List Removal) (old new : Kept) → later ≡ next → AreUnnamed rows list
    → (tells ≡ true → LeavesOnly (IsAlong (effects_of list) (stored old)) old new) → AreHeld tells next rows old
    → AreHeld tells later rows new
held_left tells next later rows list old new same none l a = record {
  heads = a.heads;
  below = λ path w at. subst (λ n. w.id < n) (sym same) (a.below path w at);
  apart = a.apart;
  holds = λ told. holds_left rows list old new none (a.holds told) (l told);
}

-- each good head was good, with the same body
record Were (base t : Stored) : Type 0 where
  each : (id : ℕ) (h : Head) (x : List ℕ) → IsGood t id h x → IsGood base id h x
  heads : (id : ℕ) (x : List ℕ) → map.get t.heads id ≡ Some x → map.get base.heads id ≡ Some x

pub had_head : (r : Removal) (t : Stored) (id : ℕ) (x : List ℕ) → map.get (changed_by (effect_of r) t).heads id ≡ Some x
    → map.get t.heads id ≡ Some x
had_head (removal.Head q) t id x is = less_was t.heads q id x is
had_head (removal.Body q) t id x is = is

were_along : (base : Stored) (list : List Removal) (t : Stored) → Were base t → Along (Were base) (effects_of list) t
were_along base [] t a = a
were_along base (r ∷ rs) t a = (
  a,
  were_along base rs (changed_by (effect_of r) t) (record {
    each = λ id h x g. a.each id h x (good_less r t id h x g);
    heads = λ id x is. a.heads id x (had_head r t id x is);
  }),
)

were_left : (list : List Removal) (old new : Kept) → LeavesOnly (IsAlong (effects_of list) (stored old)) old new
    → Were (stored old) (stored new)
were_left list old new l =
    last (Were (stored old)) old new (leaves_along (Were (stored old)) (effects_of list) old new
    (were_along (stored old) list (stored old) (record { each = λ id h x g. g; heads = λ id x is. is })) l)

-- no good head comes
pub goods_left : (list : List Removal) (old new : Kept) → LeavesOnly (IsAlong (effects_of list) (stored old)) old new
    → GoodsStay (stored old) (stored new)
goods_left list old new l =
    let w = were_left list old new l in
    record { each = λ id h x g. record { was = h; good = w.each id h x g; alike = refl } }

-- no head of an unsealed body comes
pub sealed_left : (list : List Removal) (old new : Kept) → LeavesOnly (IsAlong (effects_of list) (stored old)) old new
    → KeepsLoose list old new → AreSealed old → AreSealed new
sealed_left list old new l loose a =
    let w = were_left list old new l in
    record { each = λ id h has reads. loose.less id (a.each id h (w.heads id (record_text h) has) reads) }
