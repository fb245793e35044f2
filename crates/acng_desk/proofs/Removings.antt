-- What a desk keeps where the whole body of a path was removed.
use Rattle.std.proofs.Common.{Result, Ok, Err, OnOk, ◌≡◌, ℕ, Bool, true, false, None, Option, List, is_some, cond, sym, ap}
use Rattle.std.proofs.Common.{subst, ◌∙◌}
use mathlib.Core.Bool.{true≢false}
use Rattle.std.specs.Result.{IfErr}
use Rattle.std.specs.FinMap as map
use Rattle.acng_site.specs.declared.site.Site.{Ghosts as SiteGhosts}
use Rattle.acng_keeper.specs.Kept.{Kept, stored}
use Rattle.acng_keeper.specs.Slips.{Faults}
use Rattle.acng_grow.specs.Faithful.{IsFaithful}
use Rattle.acng_rows.specs.declared.fault.RowFault.{RowFault}
use Rattle.acng_rows.specs.declared.fault.RowFault.TheVariants as fault
use Rattle.acng_rows.specs.declared.row.Whole.{Whole}
use Rattle.acng_rows.specs.Calls.{RowRose, LeavesRow}
use Rattle.acng_rows.specs.Goods.{Holds}
use Rattle.acng_rows.specs.Removals.{KeepsLoose, both_of}
use Rattle.acng_rows.specs.Rows.{Rows, whole_at, without_whole, id_in_whole}
use Rattle.acng_desk.specs.House.{House, Plain}
use Rattle.acng_desk.specs.Keeps.{IsSound}
use Rattle.acng_desk.specs.Commands.{Remove, step}
use Rattle.acng_desk.proofs.Removes.{removed_plain, removed_loose}

not_none : (o : Option Whole) → is_some o ≡ true → o ≡ None → ⊥
not_none o has none = true≢false (sym has ∙ ap is_some none)

-- the rows are as after Ok, whatever the keeper refused
pub rows_gone : {P : Type 0} (r : Result (Unit {0}) (RowFault P)) (rows done new : Rows) (o : Option Whole) (f g : Faults)
    → is_some o ≡ true
    → OnOk r (new ≡ done) → IfErr r (λ e. LeavesRow e rows done new) → IfErr r (λ e. RowRose e o f g) → new ≡ done
rows_gone (Ok u) rows done new o f g has on left rose = on
rows_gone (Err fault.NotHeld) rows done new o f g has on left rose = absurd (not_none o has rose)
rows_gone (Err (fault.KeeperFault p)) rows done new o f g has on left rose = left
rows_gone (Err fault.NoMemory) rows done new o f g has on left rose = left

pub remove_sound : {S : Type 0} (s : SiteGhosts S) (tells : Bool) (h : House) (path : List ℕ) (k : Kept) (f : Faults) (m : Rows)
    (next : ℕ) → IsSound s tells h
    → m ≡ without_whole h.plain.rows path → next ≡ h.plain.next_id → (tells ≡ true → Holds m (stored k))
    → (tells ≡ true → KeepsLoose (both_of (id_in_whole (whole_at h.plain.rows path))) h.kept k) → (tells ≡ true → IsFaithful s k)
    → IsSound s tells (record {
      plain = record h.plain { rows = m; parts = map.remove h.plain.parts path; next_id = next };
      kept = k;
      faults = f;
    })
remove_sound s tells h path k f m next a is same holds loose faithful =
    let P : Rows → ℕ → Type 0 = λ n i. IsSound s tells
    (record { plain = record h.plain { rows = n; parts = map.remove h.plain.parts path; next_id = i }; kept = k; faults = f }) in
    subst (λ n. P n next) (sym is) (subst (P (without_whole h.plain.rows path)) (sym same) (record {
      told = a.told;
      plain = removed_plain h.plain path s tells a.plain;
      kept = λ told. record {
        holds = subst (λ n. Holds n (stored k)) is (holds told);
        loose = removed_loose h.plain path s tells a.plain h.kept k (a.kept told).loose (loose told);
        faithful = faithful told;
      };
    }))

-- what a removal makes of the desk's own part
pub remove_step : (p : Plain) (path : List ℕ) (m : Rows) (next : ℕ) → is_some (whole_at p.rows path) ≡ true
    → m ≡ without_whole p.rows path → next ≡ p.next_id
    → ◌≡◌ {A = Plain} (record p { rows = m; parts = map.remove p.parts path; next_id = next }) (step (Remove path) p)
remove_step p path m next has is same =
    let done : Plain = record p { rows = without_whole p.rows path; parts = map.remove p.parts path } in
    let Q : Rows → ℕ → Plain = λ n i. record p { rows = n; parts = map.remove p.parts path; next_id = i } in
    ap (λ n. Q n next) is ∙ ap (Q (without_whole p.rows path)) same ∙ sym (ap (λ b. cond b done p) has)

-- nothing happens where no whole body is held
pub remove_none : (p : Plain) (path : List ℕ) → is_some (whole_at p.rows path) ≡ false → p ≡ step (Remove path) p
remove_none p path none =
    let done : Plain = record p { rows = without_whole p.rows path; parts = map.remove p.parts path } in sym (ap (λ b. cond b done p) none)

-- what a removal makes of the desk's own part, where a whole body is held
pub remove_is : (p : Plain) (path : List ℕ) → is_some (whole_at p.rows path) ≡ true
    → ◌≡◌ {A = Plain} (step (Remove path) p) (record p { rows = without_whole p.rows path; parts = map.remove p.parts path })
remove_is p path has =
    let done : Plain = record p { rows = without_whole p.rows path; parts = map.remove p.parts path } in ap (λ b. cond b done p) has
