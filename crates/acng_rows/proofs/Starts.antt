-- How rows grow with each head.
use Rattle.std.proofs.Common.{◌≡◌, ◌≢◌, ◌⊎◌, ◌==◌, ℕ, zero, suc, ◌+◌, ◌<◌, ◌≤◌, Bool, true, false, List, [], ◌∷◌, ◌++◌, length, take}
use Rattle.std.proofs.Common.{slice_index_or, Some, None, Option, is_some, cond, refl, sym, ap, subst, ◌∙◌, inl, inr, arith}
use mathlib.Core.Bool.{true≢false}
use Rattle.std.specs.FinMap as map
use Rattle.std.specs.FinMap.{nat_cmp-IsAntisymmetric}
use Rattle.std.specs.Map.{keys_of}
use Rattle.std.specs.List.{AllByRecursion}
use Rattle.std.proofs.lemmas.Map.Entries.{length-keys_of}
use Rattle.std.specs.List.Sorted.{IsStrictlySortedBy}
use Rattle.std.specs.declared.cmp.Ordering.TheVariants.{Less}
use Rattle.std.specs.Ordering.{nat_cmp, eq_by_cmp}
use Rattle.std.specs.Cmp.{nat_cmp_total, unsigned_tied}
use Rattle.std.specs.Cmp.Lexicographic.{slice_cmp}
use Rattle.acng_head.specs.declared.head.Head.{Head}
use Rattle.acng_head.specs.Records.{IsHead, record_text}
use Rattle.acng_head.proofs.Same.{record_same}
use Rattle.acng_keeper.specs.Kept.{Kept, Store, Stored, stored}
use Rattle.acng_keeper.specs.Lists.{AllBelow}
use Rattle.acng_keeper.specs.Slips.{Faults, Later}
use Rattle.acng_rows.specs.declared.row.Whole.{Whole}
use Rattle.acng_rows.specs.Rows.{Rows, Row, Load, whole_at, out_at, head_of, whole_of, row_of, whole_in, out_in}
use Rattle.acng_rows.specs.Goods.{IsGood, IsRow, StandsFor, HeldAs, Holds, AreHeld}
use Rattle.acng_rows.specs.Starts.{front, FitsBody, AreFound, Steps, Enters, Same}
use Rattle.acng_rows.proofs.Points.{tie, tied, untied, got-insert}
use Rattle.acng_rows.proofs.Wholes.{whole-insert, out-insert, at_put}
use Rattle.acng_rows.proofs.Ids.{put_off, put_own, some_is, split}

-- ---- keys of a sorted list

less : (a b : ℕ) → nat_cmp a b ≡ Less → a < b
less a b is = grind (arith, is)

pub key_after : (a : ℕ) (es : List (ℕ × List ℕ)) (n : ℕ) → AllByRecursion (λ y. nat_cmp a y ≡ Less) (keys_of es) → n < length es
    → a < (slice_index_or es n (0, [])).0
key_after a [] n all small = absurd (omega (arith, small))
key_after a (e ∷ es) zero all small = less a e.0 all.0
key_after a (e ∷ es) (suc n) all small = key_after a es n all.1 (omega (arith, small))

-- keys rise
pub keys_rise : (es : List (ℕ × List ℕ)) (i j : ℕ) → IsStrictlySortedBy nat_cmp (keys_of es) → i < j → j < length es
    → (slice_index_or es i (0, [])).0 < (slice_index_or es j (0, [])).0
unfolding IsStrictlySortedBy
keys_rise [] i j sorted up small = absurd (omega (arith, small))
keys_rise (e ∷ es) i zero sorted up small = absurd (omega (arith, up))
keys_rise (e ∷ es) zero (suc j) sorted up small = key_after e.0 es j sorted.0 (omega (arith, small))
keys_rise (e ∷ es) (suc i) (suc j) sorted up small = keys_rise es i j sorted.1 (omega (arith, up)) (omega (arith, small))

under_case : (b : Bool) (q k bound : ℕ) (v x : List ℕ) (o : Option (List ℕ)) → eq_by_cmp nat_cmp q k ≡ b → k < bound
    → (o ≡ Some x → q < bound) → cond b (Some v) o ≡ Some x → q < bound
under_case true q k bound v x o t small rest is = let e : q ≡ k = grind (arith, sym (unsigned_tied q k) ∙ t) in omega (arith, e)
under_case false q k bound v x o t small rest is = rest is

-- each key before a place is below the key at it
pub keys_under : (es : List (ℕ × List ℕ)) (i : ℕ) → IsStrictlySortedBy nat_cmp (keys_of es) → i < length es → (q : ℕ) (x : List ℕ)
    → map.get (map.from_entries {R = nat_cmp} (take i es)) q ≡ Some x → q < (slice_index_or es i (0, [])).0
unfolding IsStrictlySortedBy
keys_under [] i sorted small q x is = absurd (omega (arith, small))
keys_under (e ∷ es) zero sorted small q x is =
    absurd (true≢false (sym (ap is_some is) ∙ ap is_some (map.get-empty {X = List ℕ} nat_cmp q)))
keys_under (e ∷ es) (suc i) sorted small q x is =
    under_case (eq_by_cmp nat_cmp q e.0) q e.0 (slice_index_or es i (0, [])).0 e.1 x
    (map.get (map.from_entries {R = nat_cmp} (take i es)) q)
    refl (key_after e.0 es i sorted.0 (omega (arith, small))) (keys_under es i sorted.1 (omega (arith, small)) q x)
    (sym (map.get-insert nat_cmp_total (map.from_entries {R = nat_cmp} (take i es)) e.0 e.1 q) ∙ is)

take_more : (es : List (ℕ × List ℕ)) (i : ℕ) → i < length es → take (suc i) es ≡ take i es ++ slice_index_or es i (0, []) ∷ []
take_more [] i small = absurd (omega (arith, small))
take_more (e ∷ es) zero small = refl
take_more (e ∷ es) (suc i) small = ap (λ xs. e ∷ xs) (take_more es i (omega (arith, small)))

none_of : (m : map.FinMap nat_cmp (List ℕ)) (k : ℕ) → ((x : List ℕ) → map.get m k ≡ Some x → ⊥) → map.get m k ≡ None
none_of m k never = by_case (map.get m k) never
  where
    by_case : (o : Option (List ℕ)) → ((x : List ℕ) → o ≡ Some x → ⊥) → o ≡ None
    by_case None never = refl
    by_case (Some x) never = absurd (never x refl)

-- one head more
pub front_more : (es : List (ℕ × List ℕ)) (i : ℕ) → IsStrictlySortedBy nat_cmp (keys_of es) → i < length es
    → map.from_entries {R = nat_cmp} (take (i + 1) es)
    ≡ map.insert (map.from_entries {R = nat_cmp} (take i es)) (slice_index_or es i (0, [])).0 (slice_index_or es i (0, [])).1
front_more es i sorted small =
    let k = (slice_index_or es i (0, [])).0 in
    let none : map.get (map.from_entries {R = nat_cmp} (take i es)) k ≡ None =
    none_of (map.from_entries {R = nat_cmp} (take i es)) k (λ x is. omega (arith, keys_under es i sorted small k x is)) in
    let e : i + 1 ≡ suc i = omega arith in
    ap (λ n. map.from_entries {R = nat_cmp} (take n es)) e ∙ ap (map.from_entries {R = nat_cmp}) (take_more es i small)
    ∙ map.from_entries_push nat_cmp_total nat_cmp-IsAntisymmetric (take i es) k (slice_index_or es i (0, [])).1
    (sym (map.get-from_entries nat_cmp_total (take i es) k) ∙ none)

-- ---- good heads, where a head with a greater id is put

module _ (s : Stored) (id : ℕ) (bytes : List ℕ) (newer : (q : ℕ) (x : List ℕ) → map.get s.heads q ≡ Some x → q < id) where
  abbrev more : Stored
  more = record { heads = map.insert s.heads id bytes; bodies = s.bodies }

  good_stays : (q : ℕ) (h : Head) (t : List ℕ) → IsGood s q h t → IsGood more q h t
  good_stays q h t g = record {
    head = put_off s.heads id bytes q (λ e. omega (arith, e, newer q (record_text h) g.head)) ∙ g.head;
    reads = g.reads;
    body = g.body;
    size = g.size;
  }

  good_was : (q : ℕ) (h : Head) (t : List ℕ) → q ≢ id → IsGood more q h t → IsGood s q h t
  good_was q h t not g = record { head = sym (put_off s.heads id bytes q not) ∙ g.head; reads = g.reads; body = g.body; size = g.size }

  -- at its own id
  fits : (h : Head) (t : List ℕ) → IsGood more id h t → FitsBody s.bodies id bytes h
  fits h t g = record {
    text = t;
    reads = g.reads;
    record_is = some_is (record_text h) bytes (sym g.head ∙ put_own s.heads id bytes);
    body = g.body;
    size = g.size;
  }

  -- a head that isn't good
  module _ (never : (h : Head) → FitsBody s.bodies id bytes h → ⊥) where
    old : (q : ℕ) (h : Head) (t : List ℕ) → IsGood more q h t → IsGood s q h t
    old q h t g = split q id (λ e. absurd (never h (fits h t (subst (λ n. IsGood more n h t) e g)))) (λ not. good_was q h t not g)

    skip_row : (path : List ℕ) (o : Option Whole) → IsRow s path o → IsRow more path o
    skip_row path None row = λ q h t g. row q h t (old q h t g)
    skip_row path (Some w) row = record {
      text = row.text;
      good = good_stays w.id (head_of path w) row.text row.good;
      most = λ q h t g at. row.most q h t (old q h t g) at;
    }

    skip_stands : (rows : Rows) → StandsFor rows s → StandsFor rows more
    skip_stands rows a = record { each = λ path. skip_row path (whole_at rows path) (a.each path) }

  -- a good head
  module _ (h : Head) (f : FitsBody s.bodies id bytes h) where
    mine : IsGood more id h f.text
    mine = record { head = put_own s.heads id bytes ∙ ap Some (sym f.record_is); reads = f.reads; body = f.body; size = f.size }

    same : (k : Head) (t : List ℕ) → IsGood more id k t → k ≡ h
    same k t g = record_same k h g.reads f.reads
        (some_is (record_text k) (record_text h) (sym g.head ∙ put_own s.heads id bytes ∙ ap Some (sym f.record_is)))

    most : (q : ℕ) (k : Head) (t : List ℕ) → IsGood more q k t → q ≤ id
    most q k t g = split q id (λ e. omega (arith, e))
        (λ not. let small : q < id = newer q (record_text k) (good_was q k t not g).head in omega (arith, small))

    other : (path : List ℕ) (o : Option Whole) → h.path ≢ path → IsRow s path o → IsRow more path o
    other path None apart row = λ q k t g at. split q id
        (λ e. apart (sym (ap (λ (x : Head). x.path) (same k t (subst (λ n. IsGood more n k t) e g))) ∙ at))
        (λ not. row q k t (good_was q k t not g) at)
    other path (Some w) apart row = record {
      text = row.text;
      good = good_stays w.id (head_of path w) row.text row.good;
      most = λ q k t g at. split q id
          (λ e. absurd (apart (sym (ap (λ (x : Head). x.path) (same k t (subst (λ n. IsGood more n k t) e g))) ∙ at)))
          (λ not. row.most q k t (good_was q k t not g) at);
    }

    put_row : (rows : Rows) (path : List ℕ) (b : Bool) → tie path h.path ≡ b → IsRow s path (whole_at rows path)
        → IsRow more path (cond b (Some (whole_of id h)) (whole_at rows path))
    put_row rows path true t row = record {
      text = f.text;
      good = subst (λ p. IsGood more id (head_of p (whole_of id h)) f.text) (sym (tied path h.path t)) mine;
      most = λ q k x g at. most q k x g;
    }
    put_row rows path false t row = other path (whole_at rows path) (λ e. untied path h.path t (sym e)) row

    put_stands : (rows : Rows) → StandsFor rows s → StandsFor (map.insert rows h.path (row_of id h)) more
    put_stands rows a = record {
      each = λ path. subst (IsRow more path) (sym (whole-insert rows h.path (row_of id h) path))
          (put_row rows path (tie path h.path) refl (a.each path));
    }

-- nothing stands for no heads
no_row : (rows : Rows) (path : List ℕ) → rows ≡ map.empty → map.get rows path ≡ None
no_row rows path is = ap (λ m. map.get m path) is ∙ map.get-empty {X = Row} (slice_cmp nat_cmp) path

no_good : (bodies : Store) (q : ℕ) (h : Head) (t : List ℕ) → IsGood (record { heads = map.empty; bodies = bodies }) q h t → ⊥
no_good bodies q h t g = true≢false (sym (ap is_some g.head) ∙ ap is_some (map.get-empty {X = List ℕ} nat_cmp q))

none_stand : (bodies : Store) (rows : Rows) → rows ≡ map.empty → StandsFor rows (record { heads = map.empty; bodies = bodies })
none_stand bodies rows is = record {
  each = λ path. subst (IsRow (record { heads = map.empty; bodies = bodies }) path) (sym (ap whole_in (no_row rows path is)))
      (λ q h t g at. no_good bodies q h t g);
}

pub none_loop : (heads : List (ℕ × List ℕ)) (bodies : Store) (rows : Rows) → rows ≡ map.empty → StandsFor rows (front heads bodies 0)
none_loop [] bodies rows is = none_stand bodies rows is
none_loop (e ∷ es) bodies rows is = none_stand bodies rows is

no_whole : {P : Type 0} (rows : Rows) (path : List ℕ) (w : Whole) → rows ≡ map.empty → whole_at rows path ≡ Some w → P
no_whole rows path w none some = absurd (true≢false (sym (ap is_some some) ∙ ap is_some (ap whole_in (no_row rows path none))))

pub none_found : (next : ℕ) (rows : Rows) → rows ≡ map.empty → AreFound next rows
none_found next rows is = record {
  heads = λ path w at. no_whole rows path w is at;
  below = λ path w at. no_whole rows path w is at;
  apart = λ path other w x at there same. no_whole rows path w is at;
  wholes = λ path. ap (λ o. is_some (whole_in o)) (no_row rows path is) ∙ sym (ap is_some (no_row rows path is));
  outs = λ path. ap out_in (no_row rows path is);
}

pub none_under : (n : ℕ) (rows : Rows) (path : List ℕ) (w : Whole) → rows ≡ map.empty → whole_at rows path ≡ Some w → w.id < n
none_under n rows path w is at = no_whole rows path w is at

-- ---- what is found of a head

module _ (next id : ℕ) (h : Head) (rows : Rows) (small : id < next) (reads : IsHead h) (a : AreFound next rows)
    (under : (path : List ℕ) (w : Whole) → whole_at rows path ≡ Some w → w.id < id) where
  abbrev grown : Rows
  grown = map.insert rows h.path (row_of id h)

  by : {P : Type 0} (q : List ℕ) (x : Whole) → whole_at grown q ≡ Some x → (q ≡ h.path → whole_of id h ≡ x → P)
      → (q ≢ h.path → whole_at rows q ≡ Some x → P) → P
  by q x at here there = by_case (at_put rows h.path (row_of id h) q x at) here there
    where
      by_case : {P : Type 0} → ((q ≡ h.path) × (Some (whole_of id h) ≡ Some x)) ⊎ ((q ≢ h.path) × (whole_at rows q ≡ Some x))
          → (q ≡ h.path → whole_of id h ≡ x → P) → (q ≢ h.path → whole_at rows q ≡ Some x → P) → P
      by_case (inl p) here there = here p.0 (some_is (whole_of id h) x p.1)
      by_case (inr p) here there = there p.0 p.1

  one_case : (b : Bool) (o : Option Whole) (p : Option Row) → is_some o ≡ is_some p
      → is_some (cond b (Some (whole_of id h)) o) ≡ is_some (cond b (Some (row_of id h)) p)
  one_case true o p is = refl
  one_case false o p is = is

  out_case : (b : Bool) (o : Option Load) → o ≡ None → cond b None o ≡ None
  out_case true o is = refl
  out_case false o is = is

  put_found : AreFound next grown
  put_found = record {
    heads = λ path w at. by path w at
        (λ e f. subst (λ (x : Whole). IsHead (head_of path x)) f (subst (λ p. IsHead (head_of p (whole_of id h))) (sym e) reads))
        (λ not was. a.heads path w was);
    below = λ path w at. by path w at (λ e f. subst (λ (x : Whole). x.id < next) f small) (λ not was. a.below path w was);
    apart = λ path other w x at there same.
        by path w at
        (λ e f. by other x there (λ g i. e ∙ sym g)
        (λ not was. let i : x.id < id = under other x was in let j : id ≡ w.id = ap (λ (y : Whole). y.id) f in absurd
        (omega (arith, i, j, same))))
        (λ not was. by other x there
        (λ g i. let k : w.id < id = under path w was in let j : id ≡ x.id = ap (λ (y : Whole). y.id) i in absurd
        (omega (arith, k, j, same)))
        (λ away had. a.apart path other w x was had same));
    wholes = λ path. ap is_some (whole-insert rows h.path (row_of id h) path)
        ∙ one_case (tie path h.path) (whole_at rows path) (map.get rows path) (a.wholes path)
        ∙ sym (ap is_some (got-insert rows h.path (row_of id h) path));
    outs = λ path. out-insert rows h.path (row_of id h) path ∙ out_case (tie path h.path) (out_at rows path) (a.outs path);
  }

  put_under : (n : ℕ) → id < n → (path : List ℕ) (w : Whole) → whole_at grown path ≡ Some w → w.id < n
  put_under n later path w at = by path w at (λ e f. subst (λ (x : Whole). x.id < n) f later)
      (λ not was. let i : w.id < id = under path w was in omega (arith, i, later))

pub enter_found : (next id : ℕ) (rows new : Rows) → id < next → AreFound next rows
    → ((path : List ℕ) (w : Whole) → whole_at rows path ≡ Some w → w.id < id) → Enters id rows new → AreFound next new
enter_found next id rows new small a under (inl is) = subst (AreFound next) (sym is) a
enter_found next id rows new small a under (inr p) = subst (AreFound next) (sym p.2) (put_found next id p.0 rows small p.1 a under)

pub enter_under : (next id n : ℕ) (rows new : Rows) → id < next → id < n → AreFound next rows
    → ((path : List ℕ) (w : Whole) → whole_at rows path ≡ Some w → w.id < id) → Enters id rows new
    → (path : List ℕ) (w : Whole) → whole_at new path ≡ Some w → w.id < n
enter_under next id n rows new small later a under (inl is) path w at =
    let i : w.id < id = under path w (ap (λ m. whole_at m path) (sym is) ∙ at) in omega (arith, i, later)
enter_under next id n rows new small later a under (inr p) path w at =
    put_under next id p.0 rows small p.1 a under n later path w (ap (λ m. whole_at m path) (sym p.2) ∙ at)

-- ---- one step

abbrev front_with : List (ℕ × List ℕ) → Store → ℕ → ℕ → List ℕ → Stored
front_with heads bodies i id bytes = record { heads = map.insert (map.from_entries {R = nat_cmp} (take i heads)) id bytes; bodies = bodies }

pub stepped : (heads : List (ℕ × List ℕ)) (bodies : Store) (i : ℕ) (id : ℕ) (bytes : List ℕ) (rows new : Rows)
    → IsStrictlySortedBy nat_cmp (keys_of heads) → i < length heads → (id, bytes) ≡ slice_index_or heads i (0, [])
    → Steps bodies id bytes rows new → StandsFor rows (front heads bodies i) → StandsFor new (front heads bodies (i + 1))
stepped heads bodies i id bytes rows new sorted small at step a =
    let key : (slice_index_or heads i (0, [])).0 ≡ id = sym (ap (λ p. p.0) at) in
    let value : (slice_index_or heads i (0, [])).1 ≡ bytes = sym (ap (λ p. p.1) at) in
    let m = map.from_entries {R = nat_cmp} (take i heads) in
    let more : map.from_entries {R = nat_cmp} (take (i + 1) heads) ≡ map.insert m id bytes =
    front_more heads i sorted small ∙ (λ j. map.insert m (key j) (value j)) in
    let P : map.FinMap nat_cmp (List ℕ) → Type 0 = λ hs. StandsFor new (record { heads = hs; bodies = bodies }) in
    subst P (sym more) (by_step step)
  where
    newer : (q : ℕ) (x : List ℕ) → map.get (map.from_entries {R = nat_cmp} (take i heads)) q ≡ Some x → q < id
    newer q x is = subst (λ n. q < n) (sym (ap (λ p. p.0) at)) (keys_under heads i sorted small q x is)

    by_step : Steps bodies id bytes rows new → StandsFor new (front_with heads bodies i id bytes)
    by_step (inl p) = subst (λ (r : Rows). StandsFor r (front_with heads bodies i id bytes)) (sym p.1)
        (skip_stands (front heads bodies i) id bytes newer p.0 rows a)
    by_step (inr p) = subst (λ (r : Rows). StandsFor r (front_with heads bodies i id bytes)) (sym p.2)
        (put_stands (front heads bodies i) id bytes newer p.0 p.1 rows a)

at_case : (q k : ℕ) (v w : List ℕ) (o : Option (List ℕ)) → k < q → o ≡ Some w → cond (eq_by_cmp nat_cmp q k) (Some v) o ≡ Some w
at_case q k v w o small is = let e : (q == k) ≡ false = grind (arith, small) in ap (λ b. cond b (Some v) o) (unsigned_tied q k ∙ e) ∙ is

own_case : (k : ℕ) (v : List ℕ) (o : Option (List ℕ)) → cond (eq_by_cmp nat_cmp k k) (Some v) o ≡ Some v
own_case k v o = let e : (k == k) ≡ true = grind arith in ap (λ b. cond b (Some v) o) (unsigned_tied k k ∙ e)

-- the entry at a place is in the map
got_at : (es : List (ℕ × List ℕ)) (i : ℕ) → IsStrictlySortedBy nat_cmp (keys_of es) → i < length es
    → map.get (map.from_entries {R = nat_cmp} es) (slice_index_or es i (0, [])).0 ≡ Some (slice_index_or es i (0, [])).1
unfolding IsStrictlySortedBy
got_at [] i sorted small = absurd (omega (arith, small))
got_at (e ∷ es) zero sorted small =
    map.get-insert nat_cmp_total (map.from_entries {R = nat_cmp} es) e.0 e.1 e.0
    ∙ own_case e.0 e.1 (map.get (map.from_entries {R = nat_cmp} es) e.0)
got_at (e ∷ es) (suc i) sorted small =
    let k = (slice_index_or es i (0, [])).0 in
    map.get-insert nat_cmp_total (map.from_entries {R = nat_cmp} es) e.0 e.1 k
    ∙ at_case k e.0 e.1 (slice_index_or es i (0, [])).1 (map.get (map.from_entries {R = nat_cmp} es) k)
    (key_after e.0 es i sorted.0 (omega (arith, small))) (got_at es i sorted.1 (omega (arith, small)))

pub got_entry : (es : List (ℕ × List ℕ)) (i id : ℕ) (bytes : List ℕ) → IsStrictlySortedBy nat_cmp (keys_of es) → i < length es
    → (id, bytes) ≡ slice_index_or es i (0, []) → map.get (map.from_entries {R = nat_cmp} es) id ≡ Some bytes
got_entry es i id bytes sorted small at =
    ap (λ p. map.get (map.from_entries {R = nat_cmp} es) p.0) at ∙ got_at es i sorted small ∙ ap (λ p. Some p.1) (sym at)

-- ---- rows that stand for what is there are held

row_held : (s : Stored) (path : List ℕ) (o : Option Whole) (w : Whole) → IsRow s path o → o ≡ Some w → HeldAs s path w
row_held s path None w row is = absurd (true≢false (sym (ap is_some is)))
row_held s path (Some x) w row is =
    subst (HeldAs s path) (some_is x w is) (record { head = head_of path x; text = row.text; good = row.good; alike = refl })

pub stands_held : (rows : Rows) (s : Stored) → StandsFor rows s → Holds rows s
stands_held rows s a = record { each = λ path w at. row_held s path (whole_at rows path) w (a.each path) at }

-- ---- the loop

pub same_trans : (a b c : Kept) → Same a b → Same b c → Same a c
same_trans a b c p q = record {
  stored_is = q.stored_is ∙ p.stored_is;
  loose_is = q.loose_is ∙ p.loose_is;
  trail_is = q.trail_is ∙ p.trail_is;
}

pub later_trans : (a b c : Faults) → Later a b → Later b c → Later a c
later_trans a b c p q = record { count = omega (arith, p.count, q.count); may_fail = q.may_fail ∙ p.may_fail }

all_taken : (es : List (ℕ × List ℕ)) (n : ℕ) → length es ≤ n → take n es ≡ es
all_taken [] zero le = refl
all_taken [] (suc n) le = refl
all_taken (e ∷ es) zero le = absurd (omega (arith, le))
all_taken (e ∷ es) (suc n) le = ap (λ xs. e ∷ xs) (all_taken es n (omega (arith, le)))

pub all_stand : (heads : List (ℕ × List ℕ)) (k : Kept) (n : ℕ) (rows : Rows) → length heads ≤ n
    → map.from_entries {R = nat_cmp} heads ≡ k.heads
    → StandsFor rows (front heads k.bodies n) → StandsFor rows (stored k)
all_stand heads k n rows le is a =
    let P : map.FinMap nat_cmp (List ℕ) → Type 0 = λ m. StandsFor rows (record { heads = m; bodies = k.bodies }) in
    subst P (ap (map.from_entries {R = nat_cmp}) (all_taken heads n le) ∙ is) a

key_at : (es : List (ℕ × List ℕ)) (i d : ℕ) → i < length es → slice_index_or (keys_of es) i d ≡ (slice_index_or es i (0, [])).0
key_at [] i d small = absurd (omega (arith, small))
key_at (e ∷ es) zero d small = refl
key_at (e ∷ es) (suc i) d small = key_at es i d (omega (arith, small))

-- the key at a place is below the bound of all
pub key_below : (n : ℕ) (es : List (ℕ × List ℕ)) (i id : ℕ) (bytes : List ℕ) → AllBelow n (keys_of es) → i < length es
    → (id, bytes) ≡ slice_index_or es i (0, []) → id < n
key_below n es i id bytes all small at =
    subst (λ k. k < n) (key_at es i 0 small ∙ sym (ap (λ p. p.0) at)) (all i 0 (omega (arith, small, length-keys_of es)))

-- the key at a place is below those after it
pub key_before : (es : List (ℕ × List ℕ)) (i id j : ℕ) (bytes : List ℕ) → IsStrictlySortedBy nat_cmp (keys_of es) → i < j → j < length es
    → (id, bytes) ≡ slice_index_or es i (0, []) → id < (slice_index_or es j (0, [])).0
key_before es i id j bytes sorted up small at =
    subst (λ k. k < (slice_index_or es j (0, [])).0) (sym (ap (λ p. p.0) at)) (keys_rise es i j sorted up small)

-- what was found of all heads is held
pub found_held : (tells : Bool) (next : ℕ) (rows : Rows) (k : Kept) → AreFound next rows → (tells ≡ true → StandsFor rows (stored k))
    → AreHeld tells next rows k
found_held tells next rows k a stands = record {
  heads = a.heads;
  below = a.below;
  apart = a.apart;
  holds = λ told. stands_held rows (stored k) (stands told);
}
