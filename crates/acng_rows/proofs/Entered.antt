-- A tree's entries with one more or one less, as a finite map.
use Rattle.std.proofs.Common.{◌≡◌, ◌+◌, List, [], ◌∷◌, Some, None, Option, sym, ap, ◌∙◌, cond, length, is_some, refl, arith, Ordering}
use Rattle.std.proofs.Common.{Bor, option_copied, IfSome, IfNone}
use Rattle.std.specs.Ordering.{is_eq}
use Rattle.std.specs.Cmp.{IsTotalOrder, eq_by_cmp_equiv}
use Rattle.std.specs.Map.{keys_of}
use Rattle.std.specs.List.{AllByRecursion}
use Rattle.std.specs.List.Sorted.{IsStrictlySortedBy}
use Rattle.std.specs.declared.cmp.Ordering.TheVariants.{Less}
use Rattle.std.specs.FinMap.{FinMap, IsAntisymmetric, get, len, find, insert, remove, from_entries, get-from_entries, get-insert}
use Rattle.std.specs.FinMap.{get-remove, len-insert, len-empty, same_map}
use Rattle.std.specs.BTreeMap.{is_at}

pub opened : {X : Type 0} (o : Option (Bor X)) → is_some o ≡ is_some (option_copied o)
opened None = refl
opened (Some x) = refl

module _ {K X : Type 0} {R : K → K → Ordering} (o : IsTotalOrder R) (same : IsAntisymmetric R) where
  pub entered : (es fs : List (K × X)) (k : K) (v : X) → ((q : K) → find R q fs ≡ cond (is_at (R k) q) (Some v) (find R q es))
      → from_entries {R = R} fs ≡ insert (from_entries {R = R} es) k v
  entered es fs k v h = same_map o same _ _ (λ q.
      get-from_entries o fs q ∙ h q ∙ ap (λ x. cond (is_at (R k) q) (Some v) x) (sym (get-from_entries o es q))
      ∙ ap (λ b. cond b (Some v) (get (from_entries {R = R} es) q)) ((eq_by_cmp_equiv o).symm k q)
      ∙ sym (get-insert o (from_entries es) k v q))

  pub removed : (es fs : List (K × X)) (k : K) → ((q : K) → find R q fs ≡ cond (is_at (R k) q) None (find R q es))
      → from_entries {R = R} fs ≡ remove (from_entries {R = R} es) k
  removed es fs k h = same_map o same _ _ (λ q.
      get-from_entries o fs q ∙ h q ∙ ap (λ x. cond (is_at (R k) q) None x) (sym (get-from_entries o es q))
      ∙ ap (λ b. cond b None (get (from_entries {R = R} es) q)) ((eq_by_cmp_equiv o).symm k q)
      ∙ sym (get-remove o (from_entries es) k q))

  pub found : (es : List (K × X)) (k : K) → find R k es ≡ get (from_entries {R = R} es) k
  found es k = sym (get-from_entries o es k)

  none_after : (k : K) (es : List (K × X)) → AllByRecursion (λ y. R k y ≡ Less) (keys_of es) → find R k es ≡ None
  none_after k [] h = refl
  none_after k (e ∷ es) h = ap (λ r. cond (is_eq r) (Some e.1) (find R k es)) h.0 ∙ none_after k es h.1

  one_more : (m : FinMap R X) (k : K) (v : X) → get m k ≡ None → len (insert m k v) ≡ len m + 1
  one_more m k v none = len-insert o m k v ∙ ap (λ x. cond (is_some x) (len m) (len m + 1)) none

  pub len-entries : (es : List (K × X)) → IsStrictlySortedBy R (keys_of es) → len (from_entries {R = R} es) ≡ length es
  unfolding IsStrictlySortedBy
  len-entries [] h = len-empty R X
  len-entries (e ∷ es) h = one_more (from_entries es) e.0 e.1 (get-from_entries o es e.0 ∙ none_after e.0 es h.0)
      ∙ ap (λ n. n + 1) (len-entries es h.1) ∙ (omega arith)

pub if_map : {X : Type 0} (P Q : X → Type 0) (o : Option X) → ((x : X) → P x → Q x) → IfSome o P → IfSome o Q
if_map P Q None more has = tt
if_map P Q (Some x) more has = more x has

pub if_none : {X : Type 0} (P Q : Type 0) (o : Option X) → (P → Q) → IfNone o P → IfNone o Q
if_none P Q None more has = more has
if_none P Q (Some x) more has = tt
