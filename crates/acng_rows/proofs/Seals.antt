-- What is held and what stands for the rows where a body is sealed that no row names, where loose bodies go, and where rows
-- change but keep their whole bodies. With these the stops of several calls are put together.
use Rattle.std.proofs.Common.{◌≡◌, ◌≢◌, ◌⊎◌, ℕ, ◌<◌, Bool, true, List, [], ◌∷◌, Some, None, Option}
use Rattle.std.proofs.Common.{is_some, refl, sym, ap, subst, ◌∙◌, inl, inr}
use mathlib.Core.Bool.{true≢false}
use Rattle.std.specs.FinMap as map
use Rattle.acng_head.specs.declared.head.Head.{Head}
use Rattle.acng_head.specs.Records.{IsHead, record_text}
use Rattle.acng_keeper.specs.declared.effect.Effect.TheVariants.{Sealed}
use Rattle.acng_keeper.specs.Kept.{Kept, Stored, stored, changed_by, MayCome}
use Rattle.acng_keeper.specs.Images.{Along, IsAlong, LeavesOnly}
use Rattle.acng_keeper.specs.Stops.{may_come, both, leaves_along, leaves_more, last}
use Rattle.acng_rows.specs.declared.row.Whole.{Whole}
use Rattle.acng_rows.specs.declared.removal.Removal.{Removal}
use Rattle.acng_rows.specs.Rows.{Rows, whole_at, head_of}
use Rattle.acng_rows.specs.Goods.{IsGood, IsRow, StandsFor, Holds, AreHeld, IsUnnamed, Core, core_of, WasGood, GoodsStay}
use Rattle.acng_rows.specs.Goods.{GoodsCome, HasHead, HeadsCome, IsNamed, IsExact, IsBetween, AreSealed}
use Rattle.acng_rows.specs.Removals.{effect_of, effects_of, id_in, AreUnnamed}
use Rattle.acng_rows.proofs.Ids.{put_off, split, less_none}
use Rattle.acng_rows.proofs.Changes.{exact_stands, exact_off, between_self, goods_less, heads_less}
use Rattle.acng_rows.proofs.Removals.{hold_off}

-- ---- a body is sealed

module _ (s : Stored) (id : ℕ) (text : List ℕ) where
  abbrev with_body : Stored
  with_body = changed_by (Sealed id text) s

  seal_stays : (q : ℕ) (h : Head) (t : List ℕ) → q ≢ id → IsGood s q h t → IsGood with_body q h t
  seal_stays q h t not g = record { head = g.head; reads = g.reads; body = put_off s.bodies id text q not ∙ g.body; size = g.size }

  seal_was : (q : ℕ) (h : Head) (t : List ℕ) → q ≢ id → IsGood with_body q h t → IsGood s q h t
  seal_was q h t not g = record { head = g.head; reads = g.reads; body = sym (put_off s.bodies id text q not) ∙ g.body; size = g.size }

  -- rows that don't name it stay held
  pub seal_holds : (rows : Rows) → IsUnnamed rows id → Holds rows s → Holds rows with_body
  seal_holds rows free a = record {
    each = λ p w at. let g = a.each p w at in
        record { head = g.head; text = g.text; good = seal_stays w.id g.head g.text (free.each p w at) g.good; alike = g.alike };
  }

-- a body that was unsealed is sealed
module _ (k : Kept) (id : ℕ) (text : List ℕ) (sealed : AreSealed k) (loose : map.contains_key k.loose id ≡ true) where
  abbrev done : Stored
  done = changed_by (Sealed id text) (stored k)

  -- its id has no head that reads
  no_head : (h : Head) → map.get k.heads id ≡ Some (record_text h) → IsHead h → ⊥
  no_head h has reads = true≢false (sym loose ∙ sealed.each id h has reads)

  was_good : (q : ℕ) (h : Head) (t : List ℕ) → IsGood done q h t → IsGood (stored k) q h t
  was_good q h t g = split q id
      (λ e. absurd (no_head h (ap (map.get k.heads) (sym e) ∙ g.head) g.reads))
      (λ not. seal_was (stored k) id text q h t not g)

  still_good : (q : ℕ) (h : Head) (t : List ℕ) → IsGood (stored k) q h t → IsGood done q h t
  still_good q h t g = split q id
      (λ e. absurd (no_head h (ap (map.get k.heads) (sym e) ∙ g.head) g.reads))
      (λ not. seal_stays (stored k) id text q h t not g)

  pub seal_goods : GoodsStay (stored k) done
  seal_goods = record { each = λ q h t g. record { was = h; good = was_good q h t g; alike = refl } }

  -- the rows stay held
  pub still_held : (rows : Rows) → Holds rows (stored k) → Holds rows done
  still_held rows a = record {
    each = λ p w at. let g = a.each p w at in
        record { head = g.head; text = g.text; good = still_good w.id g.head g.text g.good; alike = g.alike };
  }

  pub seal_exact : (rows : Rows) → IsExact rows (stored k) → IsExact rows done
  seal_exact rows a = record {
    each = λ p w at. let g = a.each p w at in record { text = g.text; good = still_good w.id (head_of p w) g.text g.good };
    only = λ q h t g. a.only q h t (was_good q h t g);
  }

  row_sealed : (p : List ℕ) (o : Option Whole) → IsRow (stored k) p o → IsRow done p o
  row_sealed p None row = λ q h t g. row q h t (was_good q h t g)
  row_sealed p (Some w) row = record {
    text = row.text;
    good = still_good w.id (head_of p w) row.text row.good;
    most = λ q h t g. row.most q h t (was_good q h t g);
  }

  pub seal_stands : (rows : Rows) → StandsFor rows (stored k) → StandsFor rows done
  seal_stands rows a = record { each = λ p. row_sealed p (whole_at rows p) (a.each p) }

  seal_between : (come : Core → List ℕ → Type 0) (rows new : Rows) → IsBetween come rows new (stored k) done
  seal_between come rows new = record {
    goods = record { each = λ q h t g. inl (seal_goods.each q h t g) };
    heads = λ a. record { each = λ q h. inl (record { head = h.head; at = h.at; reads = h.reads }) };
    holds = λ a. inl (still_held rows a);
    stands = λ a. inl (exact_stands rows done (seal_exact rows a));
  }

  module _ (mid : Kept) (may : MayCome (Sealed id text) k mid) where
    -- what a stop leaves of the seal
    pub seal_stops : (come : Core → List ℕ → Type 0) (rows new : Rows) → LeavesOnly (IsBetween come rows new (stored k)) k mid
    seal_stops come rows new = may_come (IsBetween come rows new (stored k)) (Sealed id text) k mid
        (between_self come rows new (stored k)) (seal_between come rows new) may

    mid_goods : GoodsStay (stored k) (stored mid)
    mid_goods = by may
      where
        by : MayCome (Sealed id text) k mid → GoodsStay (stored k) (stored mid)
        by (inl e) = subst (GoodsStay (stored k)) (sym (ap stored e)) seal_goods
        by (inr e) = subst (GoodsStay (stored k)) (sym (ap stored e))
            (record { each = λ q h t g. record { was = h; good = g; alike = refl } })

    pub mid_exact : (rows : Rows) → IsExact rows (stored k) → IsExact rows (stored mid)
    mid_exact rows a = by may
      where
        by : MayCome (Sealed id text) k mid → IsExact rows (stored mid)
        by (inl e) = subst (IsExact rows) (sym (ap stored e)) (seal_exact rows a)
        by (inr e) = subst (IsExact rows) (sym (ap stored e)) a

    pub mid_held : (rows : Rows) → Holds rows (stored k) → Holds rows (stored mid)
    mid_held rows a = by may
      where
        by : MayCome (Sealed id text) k mid → Holds rows (stored mid)
        by (inl e) = subst (Holds rows) (sym (ap stored e)) (still_held rows a)
        by (inr e) = subst (Holds rows) (sym (ap stored e)) a

    pub mid_sealed : AreSealed mid
    mid_sealed = by may
      where
        by : MayCome (Sealed id text) k mid → AreSealed mid
        by (inl e) = subst AreSealed (sym e) (record { each = λ q h has reads. less_none k.loose id q (sealed.each q h has reads) })
        by (inr e) = subst AreSealed (sym e) sealed

-- rows that don't name the body stay held, whether it was sealed or not
pub seal_held : (tells : Bool) (next later : ℕ) (rows : Rows) (k mid : Kept) (id : ℕ) (text : List ℕ) → later ≡ next → IsUnnamed rows id
    → (tells ≡ true → MayCome (Sealed id text) k mid) → AreHeld tells next rows k → AreHeld tells later rows mid
seal_held tells next later rows k mid id text same free may a = record {
  heads = a.heads;
  below = λ p w at. subst (λ n. w.id < n) (sym same) (a.below p w at);
  apart = a.apart;
  holds = λ told. by (may told) (a.holds told);
}
  where
    by : MayCome (Sealed id text) k mid → Holds rows (stored k) → Holds rows (stored mid)
    by (inl e) h = subst (Holds rows) (sym (ap stored e)) (seal_holds (stored k) id text rows free h)
    by (inr e) h = subst (Holds rows) (sym (ap stored e)) h

-- ---- bodies go that no row names

exact_along : (rows : Rows) (list : List Removal) (s : Stored) → AreUnnamed rows list → IsExact rows s
    → Along (IsExact rows) (effects_of list) s
unfolding AreUnnamed
exact_along rows [] s none a = a
exact_along rows (r ∷ rs) s none a = (a, exact_along rows rs (changed_by (effect_of r) s) none.1 (exact_off rows r s none.0 a))

-- at each exit there are still exactly the rows
pub exact_left : (rows : Rows) (list : List Removal) (old new : Kept) → AreUnnamed rows list
    → LeavesOnly (IsAlong (effects_of list) (stored old)) old new
    → IsExact rows (stored old) → IsExact rows (stored new)
exact_left rows list old new none l a = last (IsExact rows) old new
    (leaves_along (IsExact rows) (effects_of list) old new (exact_along rows list (stored old) none a) l)

-- what a stop leaves of removals of what no row names
less_along : (come : Core → List ℕ → Type 0) (rows : Rows) (list : List Removal) (s t : Stored) → AreUnnamed rows list
    → IsBetween come rows rows s t → (IsExact rows s → IsExact rows t) → (Holds rows s → Holds rows t)
    → Along (IsBetween come rows rows s) (effects_of list) t
unfolding AreUnnamed
less_along come rows [] s t none now exact held = now
less_along come rows (r ∷ rs) s t none now exact held = (
  now,
  less_along come rows rs s (changed_by (effect_of r) t) none.1 (record {
    goods = goods_less come r s t now.goods;
    heads = λ a. heads_less rows r s t none.0 (now.heads a);
    holds = λ a. inl (hold_off rows r t none.0 (held a));
    stands = λ a. inl (exact_stands rows (changed_by (effect_of r) t) (exact_off rows r t none.0 (exact a)));
  }) (λ a. exact_off rows r t none.0 (exact a)) (λ a. hold_off rows r t none.0 (held a)),
)

pub unnamed_stops : (come : Core → List ℕ → Type 0) (rows : Rows) (list : List Removal) (k l : Kept) → AreUnnamed rows list
    → LeavesOnly (IsAlong (effects_of list) (stored k)) k l → LeavesOnly (IsBetween come rows rows (stored k)) k l
unnamed_stops come rows list k l none leaves = leaves_along (IsBetween come rows rows (stored k)) (effects_of list) k l
    (less_along come rows list (stored k) (stored k) none (between_self come rows rows (stored k)) (λ a. a) (λ a. a)) leaves

-- ---- one part, and then another

-- a row's id has a head where the rows are held, and a body
named_head : (rows : Rows) (s : Stored) (id : ℕ) → Holds rows s → IsNamed rows id → HasHead s id
named_head rows s id a n = let g = a.each n.path n.whole n.at in
    subst (HasHead s) n.is (record { head = g.head; at = g.good.head; reads = g.good.reads })

named_body : (rows : Rows) (s : Stored) (id : ℕ) → Holds rows s → IsNamed rows id → map.contains_key s.bodies id ≡ true
named_body rows s id a n = let g = a.each n.path n.whole n.at in
    ap (map.contains_key s.bodies) (sym n.is) ∙ ap is_some g.good.body

pub one_of : {P : Type 0} → P ⊎ P → P
one_of (inl p) = p
one_of (inr p) = p

-- what leaves the rows as they are lies between them and any others
pub between_any : (come : Core → List ℕ → Type 0) (rows new : Rows) (s t : Stored) → IsBetween come rows rows s t
    → IsBetween come rows new s t
between_any come rows new s t b = record {
  goods = b.goods;
  heads = λ a. record { each = λ q h. by a q ((b.heads a).each q h) };
  holds = λ a. inl (one_of (b.holds a));
  stands = λ a. inl (one_of (b.stands a));
}
  where
    by : Holds rows s → (q : ℕ) → HasHead s q ⊎ (IsNamed rows q × (map.contains_key t.bodies q ≡ true))
        → HasHead s q ⊎ (IsNamed new q × (map.contains_key t.bodies q ≡ true))
    by a q (inl h) = inl h
    by a q (inr n) = inl (named_head rows s q a n.0)

module _ (come : Core → List ℕ → Type 0) (rows new : Rows) (k mid : Kept) where
  came_so : (q : ℕ) (h : Head) (t : List ℕ) → GoodsCome come (stored k) (stored mid) → WasGood (stored mid) q h t ⊎ come (core_of h) t
      → WasGood (stored k) q h t ⊎ come (core_of h) t
  came_so q h t first (inr c) = inr c
  came_so q h t first (inl w) = by (first.each q w.was t w.good)
    where
      by : WasGood (stored k) q w.was t ⊎ come (core_of w.was) t → WasGood (stored k) q h t ⊎ come (core_of h) t
      by (inl v) = inl (record { was = v.was; good = v.good; alike = v.alike ∙ w.alike })
      by (inr c) = inr (subst (λ x. come x t) w.alike c)

  -- the new rows were reached, and are left as they are
  then_between : (t : Stored) → IsBetween come rows new (stored k) (stored mid) → (IsExact rows (stored k) → IsExact new (stored mid))
      → (Holds rows (stored k) → Holds new (stored mid)) → IsBetween come new new (stored mid) t → IsBetween come rows new (stored k) t
  then_between t first exact held b = record {
    goods = record { each = λ q h x g. came_so q h x first.goods (b.goods.each q h x g) };
    heads = λ a. record { each = λ q h. by a q ((b.heads (held a)).each q h) };
    holds = λ a. inr (one_of (b.holds (held a)));
    stands = λ a. inr (one_of (b.stands (exact a)));
  }
    where
      back : Holds new t → (q : ℕ) → HasHead (stored k) q ⊎ (IsNamed new q × (map.contains_key mid.bodies q ≡ true))
          → HasHead (stored k) q ⊎ (IsNamed new q × (map.contains_key t.bodies q ≡ true))
      back a q (inl h) = inl h
      back a q (inr n) = inr (n.0, named_body new t q a n.0)

      by : Holds rows (stored k) → (q : ℕ) → HasHead (stored mid) q ⊎ (IsNamed new q × (map.contains_key t.bodies q ≡ true))
          → HasHead (stored k) q ⊎ (IsNamed new q × (map.contains_key t.bodies q ≡ true))
      by a q (inr n) = inr n
      by a q (inl h) = back (one_of (b.holds (held a))) q ((first.heads a).each q h)

  pub then_stops : (l : Kept) → LeavesOnly (IsBetween come rows new (stored k)) k mid → (IsExact rows (stored k) → IsExact new (stored mid))
      → (Holds rows (stored k) → Holds new (stored mid)) → LeavesOnly (IsBetween come new new (stored mid)) mid l
      → LeavesOnly (IsBetween come rows new (stored k)) k l
  then_stops l first exact held second = both (IsBetween come rows new (stored k)) k mid l first
      (leaves_more (IsBetween come new new (stored mid)) (IsBetween come rows new (stored k)) mid l
      (λ t b. then_between t (last (IsBetween come rows new (stored k)) k mid first) exact held b) second)

  -- the old rows were left as they are
  since_between : (t : Stored) → IsBetween come rows rows (stored k) (stored mid) → (IsExact rows (stored k) → IsExact rows (stored mid))
      → (Holds rows (stored k) → Holds rows (stored mid)) → IsBetween come rows new (stored mid) t → IsBetween come rows new (stored k) t
  since_between t first exact held b = record {
    goods = record { each = λ q h x g. came_so q h x first.goods (b.goods.each q h x g) };
    heads = λ a. record { each = λ q h. by a q ((b.heads (held a)).each q h) };
    holds = λ a. b.holds (held a);
    stands = λ a. b.stands (exact a);
  }
    where
      back : Holds rows (stored k) → (q : ℕ) → HasHead (stored k) q ⊎ (IsNamed rows q × (map.contains_key mid.bodies q ≡ true))
          → HasHead (stored k) q
      back a q (inl h) = h
      back a q (inr n) = named_head rows (stored k) q a n.0

      by : Holds rows (stored k) → (q : ℕ) → HasHead (stored mid) q ⊎ (IsNamed new q × (map.contains_key t.bodies q ≡ true))
          → HasHead (stored k) q ⊎ (IsNamed new q × (map.contains_key t.bodies q ≡ true))
      by a q (inr n) = inr n
      by a q (inl h) = inl (back a q ((first.heads a).each q h))

  pub since_stops : (l : Kept) → LeavesOnly (IsBetween come rows rows (stored k)) k mid
      → (IsExact rows (stored k) → IsExact rows (stored mid)) → (Holds rows (stored k) → Holds rows (stored mid))
      → LeavesOnly (IsBetween come rows new (stored mid)) mid l → LeavesOnly (IsBetween come rows new (stored k)) k l
  since_stops l first exact held second = both (IsBetween come rows new (stored k)) k mid l
      (leaves_more (IsBetween come rows rows (stored k)) (IsBetween come rows new (stored k)) k mid
      (λ t b. between_any come rows new (stored k) t b) first)
      (leaves_more (IsBetween come rows new (stored mid)) (IsBetween come rows new (stored k)) mid l
      (λ t b. since_between t (last (IsBetween come rows rows (stored k)) k mid first) exact held b) second)

-- ---- rows with the same whole bodies

module _ (rows new : Rows) (same : (q : List ℕ) → whole_at new q ≡ whole_at rows q) where
  pub alike_stands : (s : Stored) → StandsFor rows s → StandsFor new s
  alike_stands s a = record { each = λ p. subst (IsRow s p) (sym (same p)) (a.each p) }

  pub alike_exact : (s : Stored) → IsExact rows s → IsExact new s
  alike_exact s a = record {
    each = λ p w at. a.each p w (sym (same p) ∙ at);
    only = λ id h t g. same h.path ∙ a.only id h t g;
  }

  pub alike_held : (tells : Bool) (next : ℕ) (k : Kept) → AreHeld tells next rows k → AreHeld tells next new k
  alike_held tells next k a = record {
    heads = λ p w at. a.heads p w (sym (same p) ∙ at);
    below = λ p w at. a.below p w (sym (same p) ∙ at);
    apart = λ p q w x at there. a.apart p q w x (sym (same p) ∙ at) (sym (same q) ∙ there);
    holds = λ told. record { each = λ p w at. (a.holds told).each p w (sym (same p) ∙ at) };
  }

  pub alike_unnamed : (id : ℕ) → IsUnnamed rows id → IsUnnamed new id
  alike_unnamed id a = record { each = λ p w at. a.each p w (sym (same p) ∙ at) }

  pub alike_list : (list : List Removal) → AreUnnamed rows list → AreUnnamed new list
  unfolding AreUnnamed
  alike_list [] n = tt
  alike_list (r ∷ rs) n = (alike_unnamed (id_in r) n.0, alike_list rs n.1)

  pub alike_holds : (s : Stored) → Holds rows s → Holds new s
  alike_holds s a = record { each = λ p w at. a.each p w (sym (same p) ∙ at) }

  pub alike_named : (id : ℕ) → IsNamed rows id → IsNamed new id
  alike_named id n = record { path = n.path; whole = n.whole; at = same n.path ∙ n.at; is = n.is }

-- what lies between rows lies between others with the same whole bodies, and where more may come
pub between_alike : (come more : Core → List ℕ → Type 0) (rows rows' new new' : Rows) (s t : Stored)
    → ((q : List ℕ) → whole_at rows' q ≡ whole_at rows q) → ((q : List ℕ) → whole_at new' q ≡ whole_at new q)
    → ((core : Core) (text : List ℕ) → come core text → more core text) → IsBetween come rows new s t → IsBetween more rows' new' s t
between_alike come more rows rows' new new' s t old done wide b = record {
  goods = record { each = λ id h x g. good id h x (b.goods.each id h x g) };
  heads = λ a. record { each = λ q h. head q ((b.heads (alike_holds rows' rows (λ p. sym (old p)) s a)).each q h) };
  holds = λ a. held (b.holds (alike_holds rows' rows (λ p. sym (old p)) s a));
  stands = λ a. stand (b.stands (alike_exact rows' rows (λ p. sym (old p)) s a));
}
  where
    good : (id : ℕ) (h : Head) (x : List ℕ) → WasGood s id h x ⊎ come (core_of h) x → WasGood s id h x ⊎ more (core_of h) x
    good id h x (inl w) = inl w
    good id h x (inr c) = inr (wide (core_of h) x c)

    head : (q : ℕ) → HasHead s q ⊎ (IsNamed new q × (map.contains_key t.bodies q ≡ true))
        → HasHead s q ⊎ (IsNamed new' q × (map.contains_key t.bodies q ≡ true))
    head q (inl h) = inl h
    head q (inr n) = inr (alike_named new new' done q n.0, n.1)

    held : Holds rows t ⊎ Holds new t → Holds rows' t ⊎ Holds new' t
    held (inl a) = inl (alike_holds rows rows' old t a)
    held (inr a) = inr (alike_holds new new' done t a)

    stand : StandsFor rows t ⊎ StandsFor new t → StandsFor rows' t ⊎ StandsFor new' t
    stand (inl a) = inl (alike_stands rows rows' old t a)
    stand (inr a) = inr (alike_stands new new' done t a)

pub stops_alike : (come more : Core → List ℕ → Type 0) (rows rows' new new' : Rows) (s : Stored) (k l : Kept)
    → ((q : List ℕ) → whole_at rows' q ≡ whole_at rows q) → ((q : List ℕ) → whole_at new' q ≡ whole_at new q)
    → ((core : Core) (text : List ℕ) → come core text → more core text) → LeavesOnly (IsBetween come rows new s) k l
    → LeavesOnly (IsBetween more rows' new' s) k l
stops_alike come more rows rows' new new' s k l old done wide leaves = leaves_more (IsBetween come rows new s) (IsBetween more rows' new' s) k l
    (λ t b. between_alike come more rows rows' new new' s t old done wide b) leaves
