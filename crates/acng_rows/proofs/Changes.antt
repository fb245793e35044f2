-- What stands between the old rows and the new ones, where a head is put and another goes.
use Rattle.std.proofs.Common.{◌≡◌, ◌≢◌, ◌⊎◌, ℕ, zero, suc, ◌<◌, ◌≤◌, Bool, true, false, List, [], ◌∷◌, length}
use Rattle.std.proofs.Common.{Some, None, Option, is_some, cond, refl, sym, ap, subst, ◌∙◌, inl, inr, arith}
use mathlib.Core.Bool.{true≢false}
use Rattle.std.specs.FinMap as map
use Rattle.acng_head.specs.declared.head.Head.{Head}
use Rattle.acng_head.specs.Records.{IsHead, record_text}
use Rattle.acng_head.proofs.Same.{record_same}
use Rattle.acng_keeper.specs.declared.effect.Effect.TheVariants.{HeadPut, HeadRemoved, BodyRemoved}
use Rattle.acng_keeper.specs.Kept.{Kept, Stored, stored, changed_by, after, MayCome, AreApart}
use Rattle.acng_keeper.specs.Images.{changed, Along, IsAlong, LeavesOnly}
use Rattle.acng_keeper.specs.Stops.{at_rest, may_come, both, leaves_along}
use Rattle.acng_rows.specs.declared.row.Whole.{Whole}
use Rattle.acng_rows.specs.declared.removal.Removal.{Removal}
use Rattle.acng_rows.specs.declared.removal.Removal.TheVariants as removal
use Rattle.acng_rows.specs.declared.stamp.Stamp.{Stamp}
use Rattle.acng_rows.specs.declared.stamp.Stamp.TheVariants.{Checked, Mark}
use Rattle.acng_rows.specs.Rows.{Rows, Row, whole_at, out_at, StampFits, head_of, whole_of, with_whole, stamped, stamped_in, restamped}
use Rattle.acng_rows.specs.Rows.{id_in_whole}
use Rattle.acng_rows.specs.Goods.{IsGood, IsRow, StandsFor, HeldAs, Holds, AreHeld, IsUnnamed, IsNamed, IsAll, Core, core_of}
use Rattle.acng_rows.specs.Goods.{WasGood, GoodsCome, HasHead, HeadsCome, none_comes, whole_comes, HasBody, HasGood, IsExact, IsBetween}
use Rattle.acng_rows.specs.Goods.{AreSealed}
use Rattle.acng_rows.specs.Removals.{effect_of, effects_of, id_in, both_of, AreUnnamed}
use Rattle.acng_rows.proofs.Ids.{put_off, put_own, less_off, less_own, some_is, split}
use Rattle.acng_rows.proofs.Points.{tie, tied, untied}
use Rattle.acng_rows.proofs.Wholes.{at_put, own_whole, off_whole, whole-insert}
use Rattle.acng_rows.proofs.Removals.{good_less, good_off, had_head, hold_off}

-- ---- exactly the rows

-- two whole bodies of one path
one_whole : (rows : Rows) (path : List ℕ) (w x : Whole) → whole_at rows path ≡ Some w → whole_at rows path ≡ Some x → w ≡ x
one_whole rows path w x at there = some_is w x (sym at ∙ there)

exact_row : (rows : Rows) (s : Stored) → IsExact rows s → (path : List ℕ) (o : Option Whole) → whole_at rows path ≡ o → IsRow s path o
exact_row rows s a path None at = λ id h t g e.
    true≢false (sym (ap is_some (sym at ∙ ap (whole_at rows) (sym e) ∙ a.only id h t g)))
exact_row rows s a path (Some w) at = record {
  text = (a.each path w at).text;
  good = (a.each path w at).good;
  most = λ id h t g e.
      let same : whole_of id h ≡ w = one_whole rows path (whole_of id h) w (ap (whole_at rows) (sym e) ∙ a.only id h t g) at in
      let id_is : id ≡ w.id = ap (λ (x : Whole). x.id) same in omega (arith, id_is);
}

-- exactly the rows are what a start finds
pub exact_stands : (rows : Rows) (s : Stored) → IsExact rows s → StandsFor rows s
exact_stands rows s a = record { each = λ path. exact_row rows s a path (whole_at rows path) refl }

pub exact_off : (rows : Rows) (r : Removal) (s : Stored) → IsUnnamed rows (id_in r) → IsExact rows s
    → IsExact rows (changed_by (effect_of r) s)
exact_off rows r s none a = record {
  each = λ path w at. let g = a.each path w at in
      record { text = g.text; good = good_off r s w.id (head_of path w) g.text (none.each path w at) g.good };
  only = λ id h t g. a.only id h t (good_less r s id h t g);
}

stands_at : (rows : Rows) (s : Stored) (path : List ℕ) (w : Whole) (o : Option Whole) → o ≡ Some w → IsRow s path o → HasGood s path w
stands_at rows s path w None is row = absurd (true≢false (sym (ap is_some is)))
stands_at rows s path w (Some x) is row =
    subst (HasGood s path) (some_is x w is) (record { text = row.text; good = row.good })

-- where the keeper has nothing but the rows', and a start finds them, there are exactly the rows
pub all_exact : (rows : Rows) (k : Kept) → StandsFor rows (stored k) → IsAll rows k → IsExact rows (stored k)
all_exact rows k a all = record {
  each = λ path w at. stands_at rows (stored k) path w (whole_at rows path) at (a.each path);
  only = λ id h t g. by id h t g (all.heads id (ap is_some g.head));
}
  where
    by : (id : ℕ) (h : Head) (t : List ℕ) → IsGood (stored k) id h t → IsNamed rows id → whole_at rows h.path ≡ Some (whole_of id h)
    by id h t g n =
        let own = stands_at rows (stored k) n.path n.whole (whole_at rows n.path) n.at (a.each n.path) in
        let text : record_text h ≡ record_text (head_of n.path n.whole) =
        some_is (record_text h) (record_text (head_of n.path n.whole)) (sym g.head ∙ ap (map.get k.heads) (sym n.is)
        ∙ own.good.head) in
        let same : head_of n.path n.whole ≡ h = sym (record_same h (head_of n.path n.whole) g.reads own.good.reads text) in
        let whole : n.whole ≡ whole_of id h = ap (whole_of n.whole.id) same ∙ ap (λ i. whole_of i h) n.is in
        ap (whole_at rows) (sym (ap (λ (x : Head). x.path) same)) ∙ n.at ∙ ap Some whole

-- ---- one set of rows alone is found

one_row : (s : Stored) (path : List ℕ) (o p : Option Whole) → IsRow s path o → IsRow s path p → o ≡ p
one_row s path None None a b = refl
one_row s path None (Some x) a b = absurd (a x.id (head_of path x) b.text b.good refl)
one_row s path (Some w) None a b = absurd (b w.id (head_of path w) a.text a.good refl)
one_row s path (Some w) (Some x) a b =
    let less : x.id ≤ w.id = a.most x.id (head_of path x) b.text b.good refl in
    let more : w.id ≤ x.id = b.most w.id (head_of path w) a.text a.good refl in
    let id : w.id ≡ x.id = omega (arith, less, more) in
    let text : record_text (head_of path w) ≡ record_text (head_of path x) =
    some_is (record_text (head_of path w)) (record_text (head_of path x)) (sym a.good.head ∙ ap (map.get s.heads) id ∙ b.good.head) in
    let head : head_of path w ≡ head_of path x = record_same (head_of path w) (head_of path x) a.good.reads b.good.reads text in
    ap Some (ap (whole_of w.id) head ∙ ap (λ i. whole_of i (head_of path x)) id)

pub one_house : (rows other : Rows) (s : Stored) → StandsFor rows s → StandsFor other s → (q : List ℕ) → whole_at rows q ≡ whole_at other q
one_house rows other s a b q = one_row s q (whole_at rows q) (whole_at other q) (a.each q) (b.each q)

-- ---- nothing came yet

pub between_self : (come : Core → List ℕ → Type 0) (rows new : Rows) (s : Stored) → IsBetween come rows new s s
between_self come rows new s = record {
  goods = record { each = λ id h t g. inl (record { was = h; good = g; alike = refl }) };
  heads = λ a. record { each = λ id h. inl h };
  holds = λ a. inl a;
  stands = λ a. inl (exact_stands rows s a);
}

-- a removal makes no head good
pub goods_less : (come : Core → List ℕ → Type 0) (r : Removal) (s t : Stored) → GoodsCome come s t
    → GoodsCome come s (changed_by (effect_of r) t)
goods_less come r s t a = record { each = λ id h x g. a.each id h x (good_less r t id h x g) }

body_less : (r : Removal) (t : Stored) (id : ℕ) → id ≢ id_in r → map.contains_key t.bodies id ≡ true
    → map.contains_key (changed_by (effect_of r) t).bodies id ≡ true
body_less (removal.Head q) t id not there = there
body_less (removal.Body q) t id not there = ap is_some (less_off t.bodies q id not) ∙ there

-- a removal of what the new rows don't name brings no head
pub heads_less : (new : Rows) (r : Removal) (s t : Stored) → IsUnnamed new (id_in r) → HeadsCome new s t
    → HeadsCome new s (changed_by (effect_of r) t)
heads_less new r s t none a = record {
  each = λ id h. by id (a.each id (record { head = h.head; at = had_head r t id (record_text h.head) h.at; reads = h.reads }));
}
  where
    off : (id : ℕ) → IsNamed new id → id ≢ id_in r
    off id n e = none.each n.path n.whole n.at (n.is ∙ e)

    by : (id : ℕ) → HasHead s id ⊎ (IsNamed new id × (map.contains_key t.bodies id ≡ true))
        → HasHead s id ⊎ (IsNamed new id × (map.contains_key (changed_by (effect_of r) t).bodies id ≡ true))
    by id (inl h) = inl h
    by id (inr n) = inr (n.0, body_less r t id (off id n.0) n.1)

-- ---- a head is put

module _ (s : Stored) (id : ℕ) (hd : Head) (reads : IsHead hd) where
  abbrev put : Stored
  put = changed_by (HeadPut id (record_text hd)) s

  put_same : (k : Head) (t : List ℕ) → IsGood put id k t → hd ≡ k
  put_same k t g = record_same hd k reads g.reads
      (some_is (record_text hd) (record_text k) (sym (put_own s.heads id (record_text hd)) ∙ g.head))

  put_was : (q : ℕ) (k : Head) (t : List ℕ) → q ≢ id → IsGood put q k t → IsGood s q k t
  put_was q k t not g =
      record { head = sym (put_off s.heads id (record_text hd) q not) ∙ g.head; reads = g.reads; body = g.body; size = g.size }

  put_stays : (q : ℕ) (k : Head) (t : List ℕ) → q ≢ id → IsGood s q k t → IsGood put q k t
  put_stays q k t not g =
      record { head = put_off s.heads id (record_text hd) q not ∙ g.head; reads = g.reads; body = g.body; size = g.size }

  -- each other id with a head had it
  put_had : (q : ℕ) → q ≢ id → HasHead put q → HasHead s q
  put_had q not h = record { head = h.head; at = sym (put_off s.heads id (record_text hd) q not) ∙ h.at; reads = h.reads }

  put_good : (t : List ℕ) → map.get s.bodies id ≡ Some t → length t ≡ hd.size → IsGood put id hd t
  put_good t body size = record { head = put_own s.heads id (record_text hd); reads = reads; body = body; size = size }

-- ---- a head with another moment, of a row that is held

stamped_core : (path : List ℕ) (w : Whole) (stamp : Stamp) → core_of (head_of path (stamped stamp w)) ≡ core_of (head_of path w)
stamped_core path w (Checked now) = refl
stamped_core path w (Mark mark) = refl

stamped_id : (w : Whole) (stamp : Stamp) → (stamped stamp w).id ≡ w.id
stamped_id w (Checked now) = refl
stamped_id w (Mark mark) = refl

module _ (rows : Rows) (s : Stored) (path : List ℕ) (w : Whole) (at : whole_at rows path ≡ Some w) (hd : Head)
    (alike : core_of hd ≡ core_of (head_of path w)) (reads : IsHead hd)
    (apart : (p q : List ℕ) (x y : Whole) → whole_at rows p ≡ Some x → whole_at rows q ≡ Some y → x.id ≡ y.id → p ≡ q) where
  abbrev with_put : Stored
  with_put = changed_by (HeadPut w.id (record_text hd)) s

  -- the row of another path has another id
  off_id : (p : List ℕ) (x : Whole) → whole_at rows p ≡ Some x → p ≢ path → x.id ≢ w.id
  off_id p x is not e = not (apart p path x w is at e)

  module _ (a : Holds rows s) where
    was : HeldAs s path w
    was = a.each path w at

    same_core : core_of was.head ≡ core_of hd
    same_core = was.alike ∙ sym alike

    mine : IsGood with_put w.id hd was.text
    mine = put_good s w.id hd reads was.text was.good.body (was.good.size ∙ ap (λ (c : Core). c.size) same_core)

    put_held : (p : List ℕ) (x : Whole) → whole_at rows p ≡ Some x → HeldAs with_put p x
    put_held p x is = split x.id w.id
        (λ e.
        let p_is : p ≡ path = apart p path x w is at e in
        let x_is : w ≡ x = one_whole rows path w x at (ap (whole_at rows) (sym p_is) ∙ is) in
        let here : HeldAs with_put path w = record { head = hd; text = was.text; good = mine; alike = alike } in
        subst (λ q. HeldAs with_put q x) (sym p_is) (subst (HeldAs with_put path) x_is here))
        (λ not. let g = a.each p x is in
        record { head = g.head; text = g.text; good = put_stays s w.id hd reads x.id g.head g.text not g.good; alike = g.alike })

    pub put_holds : Holds rows with_put
    put_holds = record { each = put_held }

    put_heads : (new : Rows) → HeadsCome new s with_put
    put_heads new = record {
      each = λ q h. split q w.id
          (λ e. inl (subst (HasHead s) (sym e) (record { head = was.head; at = was.good.head; reads = was.good.reads })))
          (λ not. inl (put_had s w.id hd reads q not h));
    }

    put_goods : GoodsCome none_comes s with_put
    put_goods = record {
      each = λ q k t g. inl (split q w.id
          (λ e. here q k t g e)
          (λ not. record { was = k; good = put_was s w.id hd reads q k t not g; alike = refl }));
    }
      where
        here : (q : ℕ) (k : Head) (t : List ℕ) → IsGood with_put q k t → q ≡ w.id → WasGood s q k t
        here q k t g e =
            let h : IsGood with_put w.id k t = subst (λ n. IsGood with_put n k t) e g in
            let k_is : hd ≡ k = put_same s w.id hd reads k t h in
            let t_is : was.text ≡ t = some_is was.text t (sym was.good.body ∙ h.body) in
            subst (λ n. WasGood s n k t) (sym e)
            (record { was = was.head; good = subst (IsGood s w.id was.head) t_is was.good; alike = same_core ∙ ap core_of k_is })

  -- exactly the rows, with the new head's row
  put_exact : (x : Whole) (r : Row) → x.id ≡ w.id → hd ≡ head_of path x → r.whole ≡ Some x → IsExact rows s
      → IsExact (map.insert rows path r) with_put
  put_exact x r id_is hd_is whole a = record {
    each = λ p y there. by p y (at_put rows path r p y there);
    only = λ q k t g. split q w.id (λ e. mine q k t g e) (λ not. other q k t not g);
  }
    where
      own : IsGood with_put w.id hd (a.each path w at).text
      own = let g = a.each path w at in
          put_good s w.id hd reads g.text g.good.body (g.good.size ∙ ap (λ (c : Core). c.size) (sym alike))

      by : (p : List ℕ) (y : Whole) → ((p ≡ path) × (r.whole ≡ Some y)) ⊎ ((p ≢ path) × (whole_at rows p ≡ Some y)) → HasGood with_put p y
      by p y (inl e) =
          let y_is : x ≡ y = some_is x y (sym whole ∙ e.1) in
          let here : HasGood with_put path x = record {
            text = (a.each path w at).text;
            good = subst (λ n. IsGood with_put n (head_of path x) (a.each path w at).text) (sym id_is)
                (subst (λ h. IsGood with_put w.id h (a.each path w at).text) hd_is own);
          } in
          subst (λ q. HasGood with_put q y) (sym e.0) (subst (HasGood with_put path) y_is here)
      by p y (inr e) = let g = a.each p y e.1 in
          record { text = g.text; good = put_stays s w.id hd reads y.id (head_of p y) g.text (off_id p y e.1 e.0) g.good }

      mine : (q : ℕ) (k : Head) (t : List ℕ) → IsGood with_put q k t → q ≡ w.id → whole_at (map.insert rows path r) k.path ≡ Some
          (whole_of q k)
      mine q k t g e =
          let k_is : head_of path x ≡ k = sym hd_is ∙ put_same s w.id hd reads k t (subst (λ n. IsGood with_put n k t) e g) in
          let x_is : x ≡ whole_of q k = ap (whole_of x.id) k_is ∙ ap (λ n. whole_of n k) (id_is ∙ sym e) in
          ap (whole_at (map.insert rows path r)) (sym (ap (λ (h : Head). h.path) k_is)) ∙ own_whole rows path r ∙ whole ∙ ap Some x_is

      other : (q : ℕ) (k : Head) (t : List ℕ) → q ≢ w.id → IsGood with_put q k t → whole_at (map.insert rows path r) k.path ≡ Some
          (whole_of q k)
      other q k t not g =
          let is = a.only q k t (put_was s w.id hd reads q k t not g) in
          let off : k.path ≢ path = λ e. not (ap (λ (y : Whole). y.id) (one_whole rows path (whole_of q k) w
          (ap (whole_at rows) (sym e) ∙ is) at)) in
          off_whole rows path r k.path off ∙ is

-- a row in place of one with the same id
module _ (tells : Bool) (next : ℕ) (rows : Rows) (k : Kept) (path : List ℕ) (w x : Whole) (r : Row) (at : whole_at rows path ≡ Some w)
    (id_is : x.id ≡ w.id) (core_is : core_of (head_of path x) ≡ core_of (head_of path w)) (reads : IsHead (head_of path x))
    (whole : r.whole ≡ Some x) where
  abbrev over : Rows
  over = map.insert rows path r

  cases : {P : List ℕ → Whole → Type 0} (p : List ℕ) (y : Whole) → P path x → ((q : List ℕ) (z : Whole) → q ≢ path
      → whole_at rows q ≡ Some z → P q z)
      → ((p ≡ path) × (r.whole ≡ Some y)) ⊎ ((p ≢ path) × (whole_at rows p ≡ Some y)) → P p y
  cases {P} p y here there (inl e) = subst (λ q. P q y) (sym e.0) (subst (P path) (some_is x y (sym whole ∙ e.1)) here)
  cases p y here there (inr e) = there p y e.0 e.1

  -- each id of the new rows was there, at its path
  id_was : (p : List ℕ) (y : Whole) → whole_at over p ≡ Some y → (z : Whole) × (whole_at rows p ≡ Some z) × (y.id ≡ z.id)
  id_was p y is = cases {P = λ q v. (z : Whole) × (whole_at rows q ≡ Some z) × (v.id ≡ z.id)} p y (w, at, id_is)
      (λ q z not there. (z, there, refl))
      (at_put rows path r p y is)

  pub over_held : AreHeld tells next rows k → AreHeld tells next over k
  over_held a = record {
    heads = λ p y is. cases {P = λ q z. IsHead (head_of q z)} p y reads (λ q z not there. a.heads q z there) (at_put rows path r p y is);
    below = λ p y is. let z = id_was p y is in subst (λ n. n < next) (sym z.2) (a.below p z.0 z.1);
    apart = λ p q y z is there e. let u = id_was p y is in let v = id_was q z there in a.apart p q u.0 v.0 u.1 v.1 (sym u.2 ∙ e ∙ v.2);
    holds = λ told. record {
      each = λ p y is. cases {P = HeldAs (stored k)} p y (here told) (λ q z not there. (a.holds told).each q z there)
          (at_put rows path r p y is);
    };
  }
    where
      here : tells ≡ true → HeldAs (stored k) path x
      here told = let g = (a.holds told).each path w at in
          record {
            head = g.head;
            text = g.text;
            good = subst (λ n. IsGood (stored k) n g.head g.text)
                (sym id_is) g.good;
            alike = g.alike ∙ sym core_is;
          }

-- a whole body with another moment can be written too
pub stamped_reads : (path : List ℕ) (w : Whole) (stamp : Stamp) → IsHead (head_of path w) → StampFits stamp
    → IsHead (head_of path (stamped stamp w))
stamped_reads path w (Checked now) a small = record {
  typed = record { path = a.typed.path; label = a.typed.label; tag = a.typed.tag; checked = small; mark = a.typed.mark };
  bounded = record { label = a.bounded.label; size = a.bounded.size; modified = a.bounded.modified };
}
stamped_reads path w (Mark mark) a small = record {
  typed = record { path = a.typed.path; label = a.typed.label; tag = a.typed.tag; checked = a.typed.checked; mark = small };
  bounded = record { label = a.bounded.label; size = a.bounded.size; modified = a.bounded.modified };
}

-- ---- the whole body of a path gets another moment

module _ (tells : Bool) (next : ℕ) (rows : Rows) (k : Kept) (path : List ℕ) (w : Whole) (at : whole_at rows path ≡ Some w) (stamp : Stamp)
    (small : StampFits stamp) (a : AreHeld tells next rows k) where
  abbrev hd : Head
  hd = head_of path (stamped stamp w)

  abbrev done : Rows
  done = restamped stamp rows path

  abbrev row : Row
  row = record { whole = stamped_in stamp (whole_at rows path); out = out_at rows path }

  hd_reads : IsHead hd
  hd_reads = stamped_reads path w stamp (a.heads path w at) small

  row_whole : row.whole ≡ Some (stamped stamp w)
  row_whole = ap (stamped_in stamp) at

  -- the row changes
  pub restamp_row : (k' : Kept) (next' : ℕ) → AreHeld tells next' rows k' → AreHeld tells next' done k'
  restamp_row k' next' b = over_held tells next' rows k' path w (stamped stamp w) row at (stamped_id w stamp)
      (stamped_core path w stamp) hd_reads row_whole b

  -- the head came, or it didn't
  pub restamp_held : (new : Kept) (later : ℕ) → later ≡ next → (tells ≡ true → MayCome (HeadPut w.id (record_text hd)) k new)
      → AreHeld tells later rows new
  restamp_held new later same may = record {
    heads = a.heads;
    below = λ p x is. subst (λ n. x.id < n) (sym same) (a.below p x is);
    apart = a.apart;
    holds = λ told. by (may told) (a.holds told);
  }
    where
      by : MayCome (HeadPut w.id (record_text hd)) k new → Holds rows (stored k) → Holds rows (stored new)
      by (inl e) h = subst (Holds rows) (sym (ap stored e)) (put_holds rows (stored k) path w at hd
          (stamped_core path w stamp) hd_reads a.apart h)
      by (inr e) h = subst (Holds rows) (sym (ap stored e)) h

  exact_put : IsExact rows (stored k) → IsExact done (changed_by (HeadPut w.id (record_text hd)) (stored k))
  exact_put e = put_exact rows (stored k) path w at hd (stamped_core path w stamp) hd_reads a.apart (stamped stamp w) row
      (stamped_id w stamp) refl row_whole e

  between_put : tells ≡ true → IsBetween none_comes rows done (stored k) (changed_by (HeadPut w.id (record_text hd)) (stored k))
  between_put told = record {
    goods = put_goods rows (stored k) path w at hd (stamped_core path w stamp) hd_reads a.apart (a.holds told);
    heads = λ h. put_heads rows (stored k) path w at hd (stamped_core path w stamp) hd_reads a.apart h done;
    holds = λ h. inl (put_holds rows (stored k) path w at hd (stamped_core path w stamp) hd_reads a.apart h);
    stands = λ e. inr (exact_stands done (changed_by (HeadPut w.id (record_text hd)) (stored k)) (exact_put e));
  }

  pub restamp_stops : (new : Kept) → tells ≡ true → MayCome (HeadPut w.id (record_text hd)) k new
      → LeavesOnly (IsBetween none_comes rows done (stored k)) k new
  restamp_stops new told may = may_come (IsBetween none_comes rows done (stored k)) (HeadPut w.id (record_text hd)) k new
      (between_self none_comes rows done (stored k)) (between_put told) may

  pub restamp_exact : (new : Kept) → new ≡ after (HeadPut w.id (record_text hd)) k → IsExact rows (stored k) → IsExact done (stored new)
  restamp_exact new came e = subst (IsExact done) (sym (ap stored came)) (exact_put e)

  pub restamp_sealed : (new : Kept) → tells ≡ true → MayCome (HeadPut w.id (record_text hd)) k new → AreSealed k → AreSealed new
  restamp_sealed new told (inr e) b = subst AreSealed (sym e) b
  restamp_sealed new told (inl e) b = subst AreSealed (sym e) (record {
    each = λ id h has reads. split id w.id
        (λ f. ap (map.contains_key k.loose) f ∙ (let g = (a.holds told).each path w at in b.each w.id g.head g.good.head g.good.reads))
        (λ not. b.each id h (sym (put_off k.heads w.id (record_text hd) id not) ∙ has) reads);
  })

  pub restamp_loose : (new : Kept) → MayCome (HeadPut w.id (record_text hd)) k new → new.loose ≡ k.loose
  restamp_loose new (inl e) = ap (λ (x : Kept). x.loose) e
  restamp_loose new (inr e) = ap (λ (x : Kept). x.loose) e

-- nothing was done
pub rest_stops : (come : Core → List ℕ → Type 0) (rows new : Rows) (k : Kept) → LeavesOnly (IsBetween come rows new (stored k)) k k
rest_stops come rows new k = at_rest (IsBetween come rows new (stored k)) k (between_self come rows new (stored k))

-- ---- a new whole body in place of the old one

module _ (rows : Rows) (path : List ℕ) (w : Whole) (r : Row) (whole : r.whole ≡ Some w) where
  abbrev renewed : Rows
  renewed = map.insert rows path r

  -- the good heads are the rows' and that of the renewed whole body
  record HasTwo (t : Stored) : Type 0 where
    each : (p : List ℕ) (x : Whole) → whole_at rows p ≡ Some x → HasGood t p x
    own : HasGood t path w
    only : (id : ℕ) (h : Head) (x : List ℕ) → IsGood t id h x → (whole_at rows h.path ≡ Some (whole_of id h)) ⊎
        ((id ≡ w.id) × (head_of path w ≡ h))

  own_new : whole_at renewed path ≡ Some w
  own_new = own_whole rows path r ∙ whole

  -- a row of another path
  other_row : (t : Stored) → HasTwo t → (p : List ℕ) → p ≢ path → (o : Option Whole) → whole_at rows p ≡ o → IsRow t p o
  other_row t a p not None is = λ id h x g e. by (a.only id h x g) e
    where
      by : {id : ℕ} {h : Head} → (whole_at rows h.path ≡ Some (whole_of id h)) ⊎ ((id ≡ w.id) × (head_of path w ≡ h)) → h.path ≡ p → ⊥
      by (inl f) e = true≢false (sym (ap is_some (sym is ∙ ap (whole_at rows) (sym e) ∙ f)))
      by (inr f) e = not (sym e ∙ sym (ap (λ (h : Head). h.path) f.1))
  other_row t a p not (Some y) is = record {
    text = (a.each p y is).text;
    good = (a.each p y is).good;
    most = λ id h x g e. by id h (a.only id h x g) e;
  }
    where
      by : (id : ℕ) (h : Head) → (whole_at rows h.path ≡ Some (whole_of id h)) ⊎ ((id ≡ w.id) × (head_of path w ≡ h)) → h.path ≡ p
          → id ≤ y.id
      by id h (inl f) e =
          let same : whole_of id h ≡ y = one_whole rows p (whole_of id h) y (ap (whole_at rows) (sym e) ∙ f) is in
          let id_is : id ≡ y.id = ap (λ (z : Whole). z.id) same in omega (arith, id_is)
      by id h (inr f) e = absurd (not (sym e ∙ sym (ap (λ (z : Head). z.path) f.1)))

  -- the ids of good heads of the path
  ids_at : (t : Stored) → HasTwo t → (n : ℕ) → w.id ≤ n → ((x : Whole) → whole_at rows path ≡ Some x → x.id ≤ n)
      → (id : ℕ) (h : Head) (x : List ℕ) → IsGood t id h x → h.path ≡ path → id ≤ n
  ids_at t a n up all id h x g e = by (a.only id h x g)
    where
      by : (whole_at rows h.path ≡ Some (whole_of id h)) ⊎ ((id ≡ w.id) × (head_of path w ≡ h)) → id ≤ n
      by (inl f) = all (whole_of id h) (ap (whole_at rows) (sym e) ∙ f)
      by (inr f) = let id_is : id ≡ w.id = f.0 in omega (arith, id_is, up)

  at_path : (P : List ℕ → Option Whole → Type 0) (p : List ℕ) (b : Bool) → tie p path ≡ b → P path (whole_at renewed path)
      → ((q : List ℕ) → q ≢ path → P q (whole_at rows q)) → P p (cond b r.whole (whole_at rows p))
  at_path P p true t here there = subst (λ q. P q r.whole) (sym (tied p path t)) (subst (P path) (own_whole rows path r) here)
  at_path P p false t here there = there p (untied p path t)

  -- the renewed one is greater
  stand_new : (t : Stored) → HasTwo t → ((x : Whole) → whole_at rows path ≡ Some x → x.id ≤ w.id) → StandsFor renewed t
  stand_new t a up = record {
    each = λ p. subst (IsRow t p) (sym (whole-insert rows path r p))
        (at_path (IsRow t) p (tie p path) refl
        (subst (IsRow t path) (sym own_new) (record { text = a.own.text; good = a.own.good; most = ids_at t a w.id (omega arith) up }))
        (λ q not. other_row t a q not (whole_at rows q) refl));
  }

  -- the old one is greater
  stand_old : (t : Stored) → HasTwo t → (o : Whole) → whole_at rows path ≡ Some o → w.id ≤ o.id → StandsFor rows t
  stand_old t a o at up = record { each = λ p. by p (tie p path) refl }
    where
      by : (p : List ℕ) (b : Bool) → tie p path ≡ b → IsRow t p (whole_at rows p)
      by p false e = other_row t a p (untied p path e) (whole_at rows p) refl
      by p true e = subst (λ q. IsRow t q (whole_at rows q)) (sym (tied p path e)) (subst (IsRow t path) (sym at) (record {
        text = (a.each path o at).text;
        good = (a.each path o at).good;
        most = ids_at t a o.id up (λ x is. let same : x ≡ o = one_whole rows path x o is at in
            let id_is : x.id ≡ o.id = ap (λ (z : Whole). z.id) same in omega (arith, id_is));
      }))

  either : (a b : ℕ) → (a ≤ b) ⊎ (b ≤ a)
  either zero b = inl (omega arith)
  either (suc a) zero = inr (omega arith)
  either (suc a) (suc b) = up (either a b)
    where
      up : (a ≤ b) ⊎ (b ≤ a) → (suc a ≤ suc b) ⊎ (suc b ≤ suc a)
      up (inl le) = inl (omega (arith, le))
      up (inr le) = inr (omega (arith, le))

  two_stand : (t : Stored) → HasTwo t → (o : Option Whole) → whole_at rows path ≡ o → StandsFor rows t ⊎ StandsFor renewed t
  two_stand t a None at = inr (stand_new t a (λ x is. absurd (true≢false (sym (ap is_some (sym at ∙ is))))))
  two_stand t a (Some o) at = by (either o.id w.id)
    where
      by : (o.id ≤ w.id) ⊎ (w.id ≤ o.id) → StandsFor rows t ⊎ StandsFor renewed t
      by (inl le) = inr (stand_new t a (λ x is. let same : x ≡ o = one_whole rows path x o is at in
          let id_is : x.id ≡ o.id = ap (λ (z : Whole). z.id) same in omega (arith, id_is, le)))
      by (inr le) = inl (stand_old t a o at le)

  -- the old one has gone, or there was none
  one_left : (t : Stored) → (HasGood t path w) → ((p : List ℕ) (x : Whole) → p ≢ path → whole_at rows p ≡ Some x → HasGood t p x)
      → ((id : ℕ) (h : Head) (x : List ℕ) → IsGood t id h x → ((h.path ≢ path) × (whole_at rows h.path ≡ Some (whole_of id h))) ⊎
      ((id ≡ w.id) × (head_of path w ≡ h)))
      → IsExact renewed t
  one_left t own each only = record {
    each = λ p x is. by p x (at_put rows path r p x is);
    only = λ id h x g. from id h (only id h x g);
  }
    where
      by : (p : List ℕ) (x : Whole) → ((p ≡ path) × (r.whole ≡ Some x)) ⊎ ((p ≢ path) × (whole_at rows p ≡ Some x)) → HasGood t p x
      by p x (inl e) = subst (λ q. HasGood t q x) (sym e.0) (subst (HasGood t path) (some_is w x (sym whole ∙ e.1)) own)
      by p x (inr e) = each p x e.0 e.1

      from : (id : ℕ) (h : Head) → ((h.path ≢ path) × (whole_at rows h.path ≡ Some (whole_of id h))) ⊎ ((id ≡ w.id) × (head_of path w ≡ h))
          → whole_at renewed h.path ≡ Some (whole_of id h)
      from id h (inl e) = off_whole rows path r h.path e.0 ∙ e.1
      from id h (inr e) =
          let w_is : w ≡ whole_of id h = ap (whole_of w.id) e.1 ∙ ap (λ n. whole_of n h) (sym e.0) in
          ap (whole_at renewed) (sym (ap (λ (z : Head). z.path) e.1)) ∙ own_new ∙ ap Some w_is

module _ (tells : Bool) (next : ℕ) (rows : Rows) (k : Kept) (path : List ℕ) (w : Whole) (reads : IsHead (head_of path w))
    (low : w.id < next)
    (free : IsUnnamed rows w.id) (a : AreHeld tells next rows k) where
  abbrev head : Head
  head = head_of path w

  abbrev its_row : Row
  its_row = record { whole = Some w; out = out_at rows path }

  abbrev held : Rows
  held = with_whole rows path (Some w)

  abbrev with_head : Stored
  with_head = changed_by (HeadPut w.id (record_text head)) (stored k)

  -- the old rows while the head comes
  old_stay : Holds rows (stored k) → Holds rows with_head
  old_stay was = record {
    each = λ p x is. let g = was.each p x is in
        record {
          head = g.head;
          text = g.text;
          good = put_stays (stored k) w.id head reads x.id g.head g.text
              (free.each p x is) g.good;
          alike = g.alike;
        };
  }

  old_holds : tells ≡ true → Holds rows with_head
  old_holds told = old_stay (a.holds told)

  pub hold_refused : (mid : Kept) (later : ℕ) → later ≡ next → (tells ≡ true → MayCome (HeadPut w.id (record_text head)) k mid)
      → AreHeld tells later rows mid
  hold_refused mid later same may = record {
    heads = a.heads;
    below = λ p x is. subst (λ n. x.id < n) (sym same) (a.below p x is);
    apart = a.apart;
    holds = λ told. by told (may told);
  }
    where
      by : tells ≡ true → MayCome (HeadPut w.id (record_text head)) k mid → Holds rows (stored mid)
      by told (inl e) = subst (Holds rows) (sym (ap stored e)) (old_holds told)
      by told (inr e) = subst (Holds rows) (sym (ap stored e)) (a.holds told)

  by_row : {P : List ℕ → Whole → Type 0} (p : List ℕ) (y : Whole) → whole_at held p ≡ Some y → P path w
      → ((q : List ℕ) (z : Whole) → q ≢ path → whole_at rows q ≡ Some z → P q z) → P p y
  by_row {P} p y is here there = from (at_put rows path its_row p y is)
    where
      from : ((p ≡ path) × (Some w ≡ Some y)) ⊎ ((p ≢ path) × (whole_at rows p ≡ Some y)) → P p y
      from (inl e) = subst (λ q. P q y) (sym e.0) (subst (P path) (some_is w y e.1) here)
      from (inr e) = there p y e.0 e.1

  own_good : (b : HasBody k w) → IsGood with_head w.id head b.text
  own_good b = put_good (stored k) w.id head reads b.text b.body b.size

  apart_by : (p q : List ℕ) (x y : Whole) → whole_at held p ≡ Some x → whole_at held q ≡ Some y → x.id ≡ y.id → p ≡ q
  apart_by p q x y is there e = by_row {P = λ p' x'. x'.id ≡ y.id → p' ≡ q} p x is
      (λ f. by_row {P = λ q' y'. w.id ≡ y'.id → path ≡ q'} q y there (λ g. refl) (λ q' z not was g. absurd (free.each q' z was (sym g))) f)
      (λ p' z not was f. by_row {P = λ q' y'. z.id ≡ y'.id → p' ≡ q'} q y there (λ g. absurd (free.each p' z was g))
      (λ q' v away had g. a.apart p' q' z v was had g) f)
      e

  -- the new rows once it has come
  pub hold_row : (mid : Kept) (later : ℕ) → later ≡ next → (tells ≡ true → HasBody k w)
      → (tells ≡ true → mid ≡ after (HeadPut w.id (record_text head)) k) → AreHeld tells later held mid
  hold_row mid later same body came = record {
    heads = λ p x is. by_row {P = λ q z. IsHead (head_of q z)} p x is reads (λ q z not was. a.heads q z was);
    below = λ p x is. subst (λ n. x.id < n) (sym same) (by_row {P = λ q z. z.id < next} p x is low (λ q z not was. a.below q z was));
    apart = apart_by;
    holds = λ told. subst (Holds held) (sym (ap stored (came told))) (record {
      each = λ p x is. by_row {P = HeldAs with_head} p x is (own told) (λ q z not was. (old_holds told).each q z was);
    });
  }
    where
      own : tells ≡ true → HeldAs with_head path w
      own told = let b = body told in record { head = head; text = b.text; good = own_good b; alike = refl }

  -- the old head and body aren't the new rows'
  pub old_unnamed : (o : Option Whole) → whole_at rows path ≡ o → AreUnnamed held (both_of (id_in_whole o))
  unfolding AreUnnamed
  old_unnamed None at = tt
  old_unnamed (Some o) at = (none, (none, tt))
    where
      none : IsUnnamed held o.id
      none = record {
        each = λ p x is. by_row {P = λ q z. z.id ≢ o.id} p x is (λ e. free.each path o at (sym e))
            (λ q z not was e. not (a.apart q path z o was at e));
      }

  module _ (b : HasBody k w) where
    abbrev come : Core → List ℕ → Type 0
    come = whole_comes path w k

    put_come : GoodsCome come (stored k) with_head
    put_come = record {
      each = λ q h t g. split q w.id (λ e. inr (here q h t g e))
          (λ not. inl (record { was = h; good = put_was (stored k) w.id head reads q h t not g; alike = refl }));
    }
      where
        here : (q : ℕ) (h : Head) (t : List ℕ) → IsGood with_head q h t → q ≡ w.id → (core_of h ≡ core_of head) ×
            (map.get k.bodies w.id ≡ Some t)
        here q h t g e = let g' : IsGood with_head w.id h t = subst (λ n. IsGood with_head n h t) e g in
            (sym (ap core_of (put_same (stored k) w.id head reads h t g')), g'.body)

    head_comes : HeadsCome held (stored k) with_head
    head_comes = record {
      each = λ q h. split q w.id
          (λ e. inr (
            record { path = path; whole = w; at = own_whole rows path its_row; is = sym e },
            ap (map.contains_key k.bodies) e ∙ ap is_some b.body,
          ))
          (λ not. inl (put_had (stored k) w.id head reads q not h));
    }

    new_stay : Holds rows (stored k) → Holds held with_head
    new_stay was = record {
      each = λ p x is. by_row {P = HeldAs with_head} p x is (record { head = head; text = b.text; good = own_good b; alike = refl })
          (λ q z not had. (old_stay was).each q z had);
    }

    two : IsExact rows (stored k) → HasTwo rows path w its_row refl with_head
    two e = record {
      each = λ p x is. let g = e.each p x is in record {
        text = g.text;
        good = put_stays (stored k) w.id head reads x.id
            (head_of p x) g.text (free.each p x is) g.good;
      };
      own = record { text = b.text; good = own_good b };
      only = λ q h t g. split q w.id
          (λ f. inr (f, put_same (stored k) w.id head reads h t (subst (λ n. IsGood with_head n h t) f g)))
          (λ not. inl (e.only q h t (put_was (stored k) w.id head reads q h t not g)));
    }

    -- the head has come
    between_two : IsBetween come rows held (stored k) with_head
    between_two = record {
      goods = put_come;
      heads = λ was. head_comes;
      holds = λ was. inr (new_stay was);
      stands = λ e. two_stand rows path w its_row refl with_head (two e) (whole_at rows path) refl;
    }

    exact_none : whole_at rows path ≡ None → IsExact rows (stored k) → IsExact held with_head
    exact_none at e = let t = two e in one_left rows path w its_row refl with_head t.own (λ p x not is. t.each p x is)
        (λ id h x g. from id h (t.only id h x g))
      where
        from : (id : ℕ) (h : Head) → (whole_at rows h.path ≡ Some (whole_of id h)) ⊎ ((id ≡ w.id) × (head ≡ h))
            → ((h.path ≢ path) × (whole_at rows h.path ≡ Some (whole_of id h))) ⊎ ((id ≡ w.id) × (head ≡ h))
        from id h (inl f) = inl ((λ p. true≢false (sym (ap is_some (sym at ∙ ap (whole_at rows) (sym p) ∙ f)))), f)
        from id h (inr f) = inr f

    module _ (o : Whole) (at : whole_at rows path ≡ Some o) where
      abbrev head_gone : Stored
      head_gone = changed_by (HeadRemoved o.id) with_head

      new_id : w.id ≢ o.id
      new_id e = free.each path o at (sym e)

      exact_gone : IsExact rows (stored k) → IsExact held head_gone
      exact_gone e = let t = two e in one_left rows path w its_row refl head_gone
          (record { text = b.text; good = good_off (removal.Head o.id) with_head w.id head b.text new_id (own_good b) })
          (λ p x not is. let g = t.each p x is in record {
            text = g.text;
            good = good_off (removal.Head o.id) with_head x.id
                (head_of p x) g.text (λ f. not (a.apart p path x o is at f)) g.good;
          })
          (λ id h x g. from id h x g (t.only id h x (good_less (removal.Head o.id) with_head id h x g)))
        where
          from : (id : ℕ) (h : Head) (x : List ℕ) → IsGood head_gone id h x → (whole_at rows h.path ≡ Some (whole_of id h)) ⊎
              ((id ≡ w.id) × (head ≡ h))
              → ((h.path ≢ path) × (whole_at rows h.path ≡ Some (whole_of id h))) ⊎ ((id ≡ w.id) × (head ≡ h))
          from id h x g (inr f) = inr f
          from id h x g (inl f) = inl (
            (λ p.
                let same : whole_of id h ≡ o = one_whole rows path (whole_of id h) o (ap (whole_at rows) (sym p) ∙ f) at in
                let gone : map.get head_gone.heads o.id ≡ None = less_own with_head.heads o.id in
                true≢false (sym (ap is_some g.head) ∙ ap (λ n. is_some (map.get head_gone.heads n)) (ap (λ (y : Whole). y.id) same)
                ∙ ap is_some gone)),
            f,
          )

      abbrev all_gone : Stored
      all_gone = changed_by (BodyRemoved o.id) head_gone

      old_free : IsUnnamed held o.id
      old_free = record {
        each = λ p x is. by_row {P = λ q z. z.id ≢ o.id} p x is new_id
            (λ q z not was e. not (a.apart q path z o was at e));
      }

      exact_all : IsExact rows (stored k) → IsExact held all_gone
      exact_all e = exact_off held (removal.Body o.id) head_gone old_free (exact_gone e)

      along_both : Along (IsBetween come rows held (stored k)) (HeadRemoved o.id ∷ BodyRemoved o.id ∷ []) with_head
      along_both = (
        between_two,
        (
          record {
            goods = goods_less come (removal.Head o.id) (stored k) with_head put_come;
            heads = λ was. heads_less held (removal.Head o.id) (stored k) with_head old_free head_comes;
            holds = λ was. inr (hold_off held (removal.Head o.id) with_head old_free (new_stay was));
            stands = λ e. inr
                (exact_stands held head_gone (exact_gone e));
          },
          record {
            goods = goods_less come (removal.Body o.id) (stored k) head_gone (goods_less come (removal.Head o.id)
                (stored k) with_head put_come);
            heads = λ was. heads_less held (removal.Body o.id) (stored k) head_gone old_free
                (heads_less held (removal.Head o.id) (stored k) with_head old_free head_comes);
            holds = λ was. inr (hold_off held (removal.Body o.id) head_gone old_free
                (hold_off held (removal.Head o.id) with_head old_free (new_stay was)));
            stands = λ e. inr (exact_stands held all_gone (exact_all e));
          },
        ),
      )

    along_old : (o : Option Whole) → whole_at rows path ≡ o → Along (IsBetween come rows held (stored k))
        (effects_of (both_of (id_in_whole o))) with_head
    along_old None at = between_two
    along_old (Some o) at = along_both o at

    exact_old : (o : Option Whole) → whole_at rows path ≡ o → IsExact rows (stored k) → IsExact held
        (changed (effects_of (both_of (id_in_whole o))) with_head)
    exact_old None at e = exact_none at e
    exact_old (Some o) at e = exact_all o at e

    pub hold_put_stops : (mid : Kept) → MayCome (HeadPut w.id (record_text head)) k mid → LeavesOnly
        (IsBetween come rows held (stored k)) k mid
    hold_put_stops mid may = may_come (IsBetween come rows held (stored k)) (HeadPut w.id (record_text head)) k mid
        (between_self come rows held (stored k)) between_two may

    pub hold_stops : (mid new : Kept) → mid ≡ after (HeadPut w.id (record_text head)) k
        → LeavesOnly (IsAlong (effects_of (both_of (id_in_whole (whole_at rows path)))) (stored mid)) mid new
        → LeavesOnly (IsBetween come rows held (stored k)) k new
    hold_stops mid new came l = both (IsBetween come rows held (stored k)) k mid new (hold_put_stops mid (inl came))
        (leaves_along (IsBetween come rows held (stored k)) (effects_of (both_of (id_in_whole (whole_at rows path)))) mid new
        (subst (Along (IsBetween come rows held (stored k)) (effects_of (both_of (id_in_whole (whole_at rows path)))))
        (sym (ap stored came))
        (along_old (whole_at rows path) refl)) l)

    pub hold_exact : (mid new : Kept) → mid ≡ after (HeadPut w.id (record_text head)) k
        → stored new ≡ changed (effects_of (both_of (id_in_whole (whole_at rows path)))) (stored mid)
        → IsExact rows (stored k) → IsExact held (stored new)
    hold_exact mid new came made e = subst (IsExact held)
        (sym (made ∙ ap (λ t. changed (effects_of (both_of (id_in_whole (whole_at rows path)))) t) (ap stored came)))
        (exact_old (whole_at rows path) refl e)

    pub hold_sealed : (mid : Kept) → AreApart k.bodies k.loose → MayCome (HeadPut w.id (record_text head)) k mid → AreSealed k
        → AreSealed mid
    hold_sealed mid apart (inr e) s = subst AreSealed (sym e) s
    hold_sealed mid apart (inl e) s = subst AreSealed (sym e) (record {
      each = λ id h has reads'. split id w.id
          (λ f. ap (map.contains_key k.loose) f ∙ apart.each w.id (ap is_some b.body))
          (λ not. s.each id h (sym (put_off k.heads w.id (record_text head) id not) ∙ has) reads');
    })

  pub hold_put_loose : (mid : Kept) → MayCome (HeadPut w.id (record_text head)) k mid → mid.loose ≡ k.loose
  hold_put_loose mid (inl e) = ap (λ (x : Kept). x.loose) e
  hold_put_loose mid (inr e) = ap (λ (x : Kept). x.loose) e

-- ---- no whole body any more

module _ (tells : Bool) (next : ℕ) (rows new : Rows) (k : Kept) (path : List ℕ) (w : Whole) (at : whole_at rows path ≡ Some w)
    (a : AreHeld tells next rows k) (less : (p : List ℕ) (x : Whole) → whole_at new p ≡ Some x → (p ≢ path) × (whole_at rows p ≡ Some x))
    (more : (p : List ℕ) → p ≢ path → whole_at new p ≡ whole_at rows p) where
  pub less_held : AreHeld tells next new k
  less_held = record {
    heads = λ p x is. a.heads p x (less p x is).1;
    below = λ p x is. a.below p x (less p x is).1;
    apart = λ p q x y is there. a.apart p q x y (less p x is).1 (less q y there).1;
    holds = λ told. record { each = λ p x is. (a.holds told).each p x (less p x is).1 };
  }

  pub gone_free : IsUnnamed new w.id
  gone_free = record { each = λ p x is e. let l = less p x is in l.0 (a.apart p path x w l.1 at e) }

  pub gone_unnamed : AreUnnamed new (both_of (Some w.id))
  unfolding AreUnnamed
  gone_unnamed = (gone_free, (gone_free, tt))

  abbrev less_head : Stored
  less_head = changed_by (HeadRemoved w.id) (stored k)

  abbrev less_both : Stored
  less_both = changed_by (BodyRemoved w.id) less_head

  exact_less : IsExact rows (stored k) → IsExact new less_head
  exact_less e = record {
    each = λ p x is. let l = less p x is in let g = e.each p x l.1 in
        record { text = g.text; good = good_off (removal.Head w.id) (stored k) x.id (head_of p x) g.text (gone_free.each p x is) g.good };
    only = λ id h t g. let was = e.only id h t (good_less (removal.Head w.id) (stored k) id h t g) in
        more h.path (λ p.
        let same : whole_of id h ≡ w = one_whole rows path (whole_of id h) w (ap (whole_at rows) (sym p) ∙ was) at in
        let gone : map.get less_head.heads w.id ≡ None = less_own k.heads w.id in
        true≢false (sym (ap is_some g.head) ∙ ap (λ n. is_some (map.get less_head.heads n)) (ap (λ (y : Whole). y.id) same)
        ∙ ap is_some gone)) ∙ was;
  }

  exact_less_both : IsExact rows (stored k) → IsExact new less_both
  exact_less_both e = exact_off new (removal.Body w.id) less_head gone_free (exact_less e)

  none_more : GoodsCome none_comes (stored k) (stored k)
  none_more = record { each = λ id h t g. inl (record { was = h; good = g; alike = refl }) }

  less_stay : Holds rows (stored k) → Holds new (stored k)
  less_stay was = record { each = λ p x is. was.each p x (less p x is).1 }

  no_head : HeadsCome new (stored k) (stored k)
  no_head = record { each = λ id h. inl h }

  along_less : Along (IsBetween none_comes rows new (stored k)) (effects_of (both_of (Some w.id))) (stored k)
  along_less = (
    between_self none_comes rows new (stored k),
    (
      record {
        goods = goods_less none_comes (removal.Head w.id) (stored k) (stored k) none_more;
        heads = λ was. heads_less new (removal.Head w.id) (stored k) (stored k) gone_free no_head;
        holds = λ was. inr (hold_off new (removal.Head w.id) (stored k) gone_free (less_stay was));
        stands = λ e. inr
            (exact_stands new less_head (exact_less e));
      },
      record {
        goods = goods_less none_comes (removal.Body w.id) (stored k) less_head (goods_less none_comes (removal.Head w.id) (stored k)
            (stored k) none_more);
        heads = λ was. heads_less new (removal.Body w.id) (stored k) less_head gone_free
            (heads_less new (removal.Head w.id) (stored k) (stored k) gone_free no_head);
        holds = λ was. inr (hold_off new (removal.Body w.id) less_head gone_free
            (hold_off new (removal.Head w.id) (stored k) gone_free (less_stay was)));
        stands = λ e. inr (exact_stands new less_both (exact_less_both e));
      },
    ),
  )

  pub less_stops : (later : Kept) → LeavesOnly (IsAlong (effects_of (both_of (Some w.id))) (stored k)) k later
      → LeavesOnly (IsBetween none_comes rows new (stored k)) k later
  less_stops later l = leaves_along (IsBetween none_comes rows new (stored k)) (effects_of (both_of (Some w.id))) k later along_less l

  pub less_exact : (later : Kept) → stored later ≡ changed (effects_of (both_of (Some w.id))) (stored k) → IsExact rows (stored k)
      → IsExact new (stored later)
  less_exact later made e = subst (IsExact new) (sym made) (exact_less_both e)
