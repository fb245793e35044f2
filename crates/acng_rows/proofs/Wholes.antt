-- What a path has where one row is put in the place of another.
use Rattle.std.proofs.Common.{◌≡◌, ◌≢◌, ◌⊎◌, ℕ, Bool, true, false, List, Some, None, Option, is_some, cond, unwrap_or}
use Rattle.std.proofs.Common.{refl, sym, ap, ◌∙◌, inl, inr}
use mathlib.Core.Bool.{true≢false}
use Rattle.std.specs.FinMap as map
use Rattle.std.specs.FinMap.{slice_cmp-IsAntisymmetric, nat_cmp-IsAntisymmetric}
use Rattle.std.specs.Cmp.Lexicographic.{nat_list_cmp_total}
use Rattle.acng_rows.specs.declared.row.Whole.{Whole}
use Rattle.acng_rows.specs.Paths.{PathsTo}
use Rattle.acng_rows.specs.Rows.{Rows, Row, whole_in, out_in, whole_at, out_at, id_in_whole, with_whole, without_whole}
use Rattle.acng_rows.proofs.Points.{tie, tied, untied, tie_self, got-insert, got-remove}

whole_case : (b : Bool) (r : Row) (o : Option Row) → whole_in (cond b (Some r) o) ≡ cond b r.whole (whole_in o)
whole_case true r o = refl
whole_case false r o = refl

out_case : (b : Bool) (r : Row) (o : Option Row) → out_in (cond b (Some r) o) ≡ cond b r.out (out_in o)
out_case true r o = refl
out_case false r o = refl

no_whole_case : (b : Bool) (o : Option Row) → whole_in (cond b None o) ≡ cond b None (whole_in o)
no_whole_case true o = refl
no_whole_case false o = refl

no_out_case : (b : Bool) (o : Option Row) → out_in (cond b None o) ≡ cond b None (out_in o)
no_out_case true o = refl
no_out_case false o = refl

pub whole-insert : (rows : Rows) (k : List ℕ) (r : Row) (q : List ℕ) → whole_at (map.insert rows k r) q ≡ cond (tie q k) r.whole
    (whole_at rows q)
whole-insert rows k r q = ap whole_in (got-insert rows k r q) ∙ whole_case (tie q k) r (map.get rows q)

pub out-insert : (rows : Rows) (k : List ℕ) (r : Row) (q : List ℕ) → out_at (map.insert rows k r) q ≡ cond (tie q k) r.out (out_at rows q)
out-insert rows k r q = ap out_in (got-insert rows k r q) ∙ out_case (tie q k) r (map.get rows q)

pub whole-remove : (rows : Rows) (k q : List ℕ) → whole_at (map.remove rows k) q ≡ cond (tie q k) None (whole_at rows q)
whole-remove rows k q = ap whole_in (got-remove rows k q) ∙ no_whole_case (tie q k) (map.get rows q)

pub out-remove : (rows : Rows) (k q : List ℕ) → out_at (map.remove rows k) q ≡ cond (tie q k) None (out_at rows q)
out-remove rows k q = ap out_in (got-remove rows k q) ∙ no_out_case (tie q k) (map.get rows q)

same_case : {X : Type 0} (f : List ℕ → X) (b : Bool) (q k : List ℕ) (x : X) → tie q k ≡ b → x ≡ f k → cond b x (f q) ≡ f q
same_case f true q k x t is = is ∙ ap f (sym (tied q k t))
same_case f false q k x t is = refl

-- a row that keeps the whole body
pub same_wholes : (rows : Rows) (k : List ℕ) (r : Row) → r.whole ≡ whole_at rows k → (q : List ℕ)
    → whole_at (map.insert rows k r) q ≡ whole_at rows q
same_wholes rows k r is q = whole-insert rows k r q ∙ same_case (whole_at rows) (tie q k) q k r.whole refl is

-- a row that keeps the ticket
pub same_outs : (rows : Rows) (k : List ℕ) (r : Row) → r.out ≡ out_at rows k → (q : List ℕ) → out_at (map.insert rows k r) q ≡ out_at rows q
same_outs rows k r is q = out-insert rows k r q ∙ same_case (out_at rows) (tie q k) q k r.out refl is

-- ---- which whole bodies there are after a change of one path

some_is : {X : Type 0} (x y : X) → Some x ≡ Some y → x ≡ y
some_is x y is = ap (λ o. unwrap_or o x) is

at_case : (q k : List ℕ) (w o : Option Whole) (x : Whole) (b : Bool) → tie q k ≡ b → cond b w o ≡ Some x
    → ((q ≡ k) × (w ≡ Some x)) ⊎ ((q ≢ k) × (o ≡ Some x))
at_case q k w o x true t is = inl (tied q k t, is)
at_case q k w o x false t is = inr (untied q k t, is)

pub at_put : (rows : Rows) (k : List ℕ) (r : Row) (q : List ℕ) (x : Whole) → whole_at (map.insert rows k r) q ≡ Some x
    → ((q ≡ k) × (r.whole ≡ Some x)) ⊎ ((q ≢ k) × (whole_at rows q ≡ Some x))
at_put rows k r q x is = at_case q k r.whole (whole_at rows q) x (tie q k) refl (sym (whole-insert rows k r q) ∙ is)

less_case : (q k : List ℕ) (o : Option Whole) (x : Whole) (b : Bool) → tie q k ≡ b → cond b None o ≡ Some x → (q ≢ k) × (o ≡ Some x)
less_case q k o x true t is = absurd (true≢false (sym (ap is_some is)))
less_case q k o x false t is = (untied q k t, is)

pub at_less : (rows : Rows) (k q : List ℕ) (x : Whole) → whole_at (map.remove rows k) q ≡ Some x → (q ≢ k) × (whole_at rows q ≡ Some x)
at_less rows k q x is = less_case q k (whole_at rows q) x (tie q k) refl (sym (whole-remove rows k q) ∙ is)

-- its own path
pub own_whole : (rows : Rows) (k : List ℕ) (r : Row) → whole_at (map.insert rows k r) k ≡ r.whole
own_whole rows k r = whole-insert rows k r k ∙ ap (λ b. cond b r.whole (whole_at rows k)) (tie_self k)

off_case : {X : Type 0} (q k : List ℕ) (x o : X) (b : Bool) → tie q k ≡ b → q ≢ k → cond b x o ≡ o
off_case q k x o true t not = absurd (not (tied q k t))
off_case q k x o false t not = refl

-- another path
pub off_whole : (rows : Rows) (k : List ℕ) (r : Row) (q : List ℕ) → q ≢ k → whole_at (map.insert rows k r) q ≡ whole_at rows q
off_whole rows k r q not = whole-insert rows k r q ∙ off_case q k r.whole (whole_at rows q) (tie q k) refl not

-- ---- a row that was made to be taken back, or to be filled

pub none_is : {X : Type 0} (o : Option X) → is_some o ≡ false → o ≡ None
none_is None e = refl
none_is (Some x) e = absurd (true≢false e)

module _ {X : Type 0} (m : PathsTo X) (k : List ℕ) where
  undone_case : (v : X) (q : List ℕ) (b : Bool) → tie q k ≡ b → map.get m k ≡ None
      → cond b None (cond b (Some v) (map.get m q)) ≡ map.get m q
  undone_case v q true t none = sym none ∙ ap (map.get m) (sym (tied q k t))
  undone_case v q false t none = refl

  pub undone : (v : X) → map.get m k ≡ None → map.remove (map.insert m k v) k ≡ m
  undone v none = map.same_map nat_list_cmp_total (slice_cmp-IsAntisymmetric nat_cmp-IsAntisymmetric) _ _ (λ q.
      got-remove (map.insert m k v) k q ∙ ap (cond (tie q k) None) (got-insert m k v q) ∙ undone_case v q (tie q k) refl none)

  twice_case : (v w : X) (o : Option X) (b : Bool) → cond b (Some w) (cond b (Some v) o) ≡ cond b (Some w) o
  twice_case v w o true = refl
  twice_case v w o false = refl

  pub twice : (v w : X) → map.insert (map.insert m k v) k w ≡ map.insert m k w
  twice v w = map.same_map nat_list_cmp_total (slice_cmp-IsAntisymmetric nat_cmp-IsAntisymmetric) _ _ (λ q.
      got-insert (map.insert m k v) k w q ∙ ap (cond (tie q k) (Some w)) (got-insert m k v q)
      ∙ twice_case v w (map.get m q) (tie q k) ∙ sym (got-insert m k w q))

-- ---- a path without its whole body

pub off_less : (rows : Rows) (k q : List ℕ) → q ≢ k → whole_at (map.remove rows k) q ≡ whole_at rows q
off_less rows k q not = whole-remove rows k q ∙ off_case q k None (whole_at rows q) (tie q k) refl not

without_case : (rows : Rows) (k : List ℕ) (b : Bool) (q : List ℕ) (x : Whole) → whole_at
    (cond b (with_whole rows k None) (map.remove rows k)) q ≡ Some x
    → (q ≢ k) × (whole_at rows q ≡ Some x)
without_case rows k false q x is = at_less rows k q x is
without_case rows k true q x is = by (at_put rows k (record { whole = None; out = out_at rows k }) q x is)
  where
    by : ((q ≡ k) × (None ≡ Some x)) ⊎ ((q ≢ k) × (whole_at rows q ≡ Some x)) → (q ≢ k) × (whole_at rows q ≡ Some x)
    by (inl e) = absurd (true≢false (sym (ap is_some e.1)))
    by (inr e) = e

pub without_less : (rows : Rows) (k q : List ℕ) (x : Whole) → whole_at (without_whole rows k) q ≡ Some x
    → (q ≢ k) × (whole_at rows q ≡ Some x)
without_less rows k q x is = without_case rows k (is_some (out_at rows k)) q x is

others_case : (rows : Rows) (k : List ℕ) (b : Bool) (q : List ℕ) → q ≢ k → whole_at
    (cond b (with_whole rows k None) (map.remove rows k)) q ≡ whole_at rows q
others_case rows k true q not = off_whole rows k (record { whole = None; out = out_at rows k }) q not
others_case rows k false q not = off_less rows k q not

pub without_others : (rows : Rows) (k q : List ℕ) → q ≢ k → whole_at (without_whole rows k) q ≡ whole_at rows q
without_others rows k q not = others_case rows k (is_some (out_at rows k)) q not

-- a whole body that has an id is there
pub is_there : (o : Option Whole) → is_some (id_in_whole o) ≡ true → (w : Whole) × (o ≡ Some w)
is_there None is = absurd (true≢false (sym is))
is_there (Some w) is = (w, refl)
