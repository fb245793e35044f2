-- A map of paths with one entry more or less, path by path.
use Rattle.std.proofs.Common.{◌≡◌, ◌≢◌, ◌⊎◌, ℕ, Bool, true, false, List, Some, None, is_some, cond, unwrap_or, refl, sym, ap, subst, ◌∙◌}
use Rattle.std.proofs.Common.{inl, inr}
use mathlib.Core.Bool.{true≢false}
use Rattle.std.specs.Ordering.{nat_cmp, eq_by_cmp}
use Rattle.std.specs.Cmp.{Equal-is, eq_by_cmp_equiv}
use Rattle.std.specs.Cmp.Lexicographic.{slice_cmp, nat_list_cmp_total}
use Rattle.std.specs.FinMap as map
use Rattle.std.specs.FinMap.{slice_cmp-IsAntisymmetric, nat_cmp-IsAntisymmetric}
use Rattle.acng_rows.specs.Paths.{PathsTo}

abbrev pub tie : List ℕ → List ℕ → Bool
tie p q = eq_by_cmp (slice_cmp nat_cmp) p q

pub tied : (p q : List ℕ) → tie p q ≡ true → p ≡ q
tied p q is = slice_cmp-IsAntisymmetric nat_cmp-IsAntisymmetric p q ((Equal-is (slice_cmp nat_cmp p q)).0 is)

pub untied : (p q : List ℕ) → tie p q ≡ false → p ≢ q
untied p q is e = true≢false (sym (subst (λ x. tie p x ≡ true) e ((eq_by_cmp_equiv nat_list_cmp_total).refl p)) ∙ is)

pub tie_self : (p : List ℕ) → tie p p ≡ true
tie_self p = (eq_by_cmp_equiv nat_list_cmp_total).refl p

some_is : {X : Type 0} (x y : X) → Some x ≡ Some y → x ≡ y
some_is x y is = ap (λ o. unwrap_or o x) is

module _ {X : Type 0} (m : PathsTo X) (k : List ℕ) where
  pub got-insert : (v : X) (q : List ℕ) → map.get (map.insert m k v) q ≡ cond (tie q k) (Some v) (map.get m q)
  got-insert v q = map.get-insert nat_list_cmp_total m k v q

  pub got-remove : (q : List ℕ) → map.get (map.remove m k) q ≡ cond (tie q k) None (map.get m q)
  got-remove q = map.get-remove nat_list_cmp_total m k q

  pub got_own : (v : X) → map.get (map.insert m k v) k ≡ Some v
  got_own v = got-insert v k ∙ ap (λ b. cond b (Some v) (map.get m k)) (tie_self k)

  insert_case : (v : X) (q : List ℕ) (x : X) (b : Bool) → tie q k ≡ b → cond b (Some v) (map.get m q) ≡ Some x
      → ((q ≡ k) × (v ≡ x)) ⊎ (map.get m q ≡ Some x)
  insert_case v q x true t is = inl (tied q k t, some_is v x is)
  insert_case v q x false t is = inr is

  pub at_insert : (v : X) (q : List ℕ) (x : X) → map.get (map.insert m k v) q ≡ Some x → ((q ≡ k) × (v ≡ x)) ⊎ (map.get m q ≡ Some x)
  at_insert v q x is = insert_case v q x (tie q k) refl (sym (got-insert v q) ∙ is)

  remove_case : (q : List ℕ) (x : X) (b : Bool) → tie q k ≡ b → cond b None (map.get m q) ≡ Some x → (q ≢ k) × (map.get m q ≡ Some x)
  remove_case q x true t is = absurd (true≢false (sym (ap is_some is)))
  remove_case q x false t is = (untied q k t, is)

  pub at_remove : (q : List ℕ) (x : X) → map.get (map.remove m k) q ≡ Some x → (q ≢ k) × (map.get m q ≡ Some x)
  at_remove q x is = remove_case q x (tie q k) refl (sym (got-remove q) ∙ is)

  kept_case : (v : X) (q : List ℕ) (b : Bool) → (is_some (map.get m q) ≡ true) → is_some (cond b (Some v) (map.get m q)) ≡ true
  kept_case v q true has = refl
  kept_case v q false has = has

  pub has_insert : (v : X) (q : List ℕ) → map.contains_key m q ≡ true → map.contains_key (map.insert m k v) q ≡ true
  has_insert v q has = ap is_some (got-insert v q) ∙ kept_case v q (tie q k) has
