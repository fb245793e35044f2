-- A tree's entries with one more or one less, as a finite map.
use Rattle.std.proofs.Common.{◌≡◌, ℕ, List, Some, None, sym, ap, ◌∙◌, cond}
use Rattle.std.specs.Ordering.{nat_cmp}
use Rattle.std.specs.Cmp.{nat_cmp_total, eq_by_cmp_equiv}
use Rattle.std.specs.FinMap.{get, find, insert, remove, from_entries, get-from_entries, get-insert, get-remove}
use Rattle.std.specs.FinMap.{same_map, nat_cmp-IsAntisymmetric}
use Rattle.std.specs.BTreeMap.{is_at}

-- an entry was put
pub entered : {X : Type 0} (es fs : List (ℕ × X)) (k : ℕ) (v : X)
    → ((q : ℕ) → find nat_cmp q fs ≡ cond (is_at (nat_cmp k) q) (Some v) (find nat_cmp q es))
    → from_entries {R = nat_cmp} fs ≡ insert (from_entries {R = nat_cmp} es) k v
entered es fs k v h = same_map nat_cmp_total nat_cmp-IsAntisymmetric _ _ (λ q.
    get-from_entries nat_cmp_total fs q ∙ h q ∙ ap (λ o. cond (is_at (nat_cmp k) q) (Some v) o) (sym (get-from_entries nat_cmp_total es q))
    ∙ ap (λ b. cond b (Some v) (get (from_entries {R = nat_cmp} es) q)) ((eq_by_cmp_equiv nat_cmp_total).symm k q)
    ∙ sym (get-insert nat_cmp_total (from_entries es) k v q))

-- an entry was removed
pub removed : {X : Type 0} (es fs : List (ℕ × X)) (k : ℕ)
    → ((q : ℕ) → find nat_cmp q fs ≡ cond (is_at (nat_cmp k) q) None (find nat_cmp q es))
    → from_entries {R = nat_cmp} fs ≡ remove (from_entries {R = nat_cmp} es) k
removed es fs k h = same_map nat_cmp_total nat_cmp-IsAntisymmetric _ _ (λ q.
    get-from_entries nat_cmp_total fs q ∙ h q ∙ ap (λ o. cond (is_at (nat_cmp k) q) None o) (sym (get-from_entries nat_cmp_total es q))
    ∙ ap (λ b. cond b None (get (from_entries {R = nat_cmp} es) q)) ((eq_by_cmp_equiv nat_cmp_total).symm k q)
    ∙ sym (get-remove nat_cmp_total (from_entries es) k q))

-- what a look-up finds
pub found : {X : Type 0} (es : List (ℕ × X)) (k : ℕ) → find nat_cmp k es ≡ get (from_entries {R = nat_cmp} es) k
found es k = sym (get-from_entries nat_cmp_total es k)
