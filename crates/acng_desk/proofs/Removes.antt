-- What a desk keeps where the whole body of a path goes.
use Rattle.std.proofs.Common.{◌≡◌, ◌≢◌, ◌⊎◌, ℕ, ◌+◌, ◌-◌, ◌≤◌, Bool, true, false, List, Some, None, Option, is_some, cond}
use Rattle.std.proofs.Common.{refl, sym, ap, subst, ◌∙◌, inl, inr, arith}
use Rattle.std.specs.Option.{option_map, IfSome}
use mathlib.Core.Bool.{true≢false}
use Rattle.std.specs.FinMap as map
use Rattle.std.specs.Cmp.Lexicographic.{nat_list_cmp_total}
use Rattle.acng_site.specs.declared.site.Site.{Ghosts as SiteGhosts}
use Rattle.acng_keeper.specs.Kept.{Kept}
use Rattle.acng_rows.specs.declared.row.Whole.{Whole}
use Rattle.acng_rows.specs.Rows.{Rows, Row, Load, whole_in, out_in, whole_at, out_at, with_whole, without_whole, id_in_whole}
use Rattle.acng_rows.specs.Removals.{both_of, IsOff, KeepsLoose}
use Rattle.acng_rows.proofs.Points.{tie, got-insert, got-remove}
use Rattle.acng_desk.specs.House.{Parked, Parts, Plain, most_parts}
use Rattle.acng_desk.specs.Keeps.{Role, Held, Fresh, Carried, Resting, join, id_at, AreLoose, IsNobodys, IsPlain}
use Rattle.acng_desk.proofs.Changes.{no_some, id_in, Changes, FitsAt, Here, There, here_id, there_id, found, changed_plain}

-- the row that is left
abbrev row_after : Option Load → Option Row
row_after out = cond (is_some out) (Some (record { whole = None; out = out })) None

rows_by : (rows : Rows) (path : List ℕ) (b : Bool) (q : List ℕ)
    → map.get (cond b (with_whole rows path None) (map.remove rows path)) q ≡ cond (tie q path)
    (cond b (Some (record { whole = None; out = out_at rows path })) None) (map.get rows q)
rows_by rows path true q = got-insert rows path (record { whole = None; out = out_at rows path }) q
rows_by rows path false q = got-remove rows path q

whole_after : (o : Option Load) → whole_in (row_after o) ≡ None
whole_after None = refl
whole_after (Some l) = refl

out_after : (o : Option Load) → out_in (row_after o) ≡ o
out_after None = refl
out_after (Some l) = refl

there_case : (o : Option Row) → is_some (out_in o) ≡ true → is_some o ≡ true
there_case None has = has
there_case (Some r) has = refl

put_len : (b : Bool) (n limit : ℕ) → b ≡ true → n ≤ limit → cond b n (n + 1) ≤ limit
put_len true n limit is small = small
put_len false n limit is small = absurd (true≢false (sym is))

less_len : (b : Bool) (n limit : ℕ) → n ≤ limit → cond b (n - 1) n ≤ limit
less_len true n limit small = omega (arith, small)
less_len false n limit small = small

module _ (p : Plain) (path : List ℕ) where
  abbrev rows' : Rows
  rows' = without_whole p.rows path

  abbrev parts' : Parts
  parts' = map.remove p.parts path

  abbrev row' : Option Row
  row' = row_after (out_at p.rows path)

  changes : Changes p.rows rows' p.parts parts' path row' None
  changes = record { rows_at = rows_by p.rows path (is_some (out_at p.rows path)); parts_at = got-remove p.parts path }

  spot_of : (q : List ℕ) → Here rows' parts' path row' None q ⊎ There p.rows rows' p.parts parts' path q
  spot_of q = found p.rows rows' p.parts parts' path row' None changes q

  -- an id of the row that is left was the ticket's
  was_id : (r : Role) (id : ℕ) → id_in row' None r ≡ Some id → (id_at p.rows p.parts path r ≡ Some id) × (r ≢ Held) × (r ≢ Resting)
  was_id Held id at = no_some id (sym (ap (option_map (λ (w : Whole). w.id)) (whole_after (out_at p.rows path))) ∙ at)
  was_id Fresh id at = (sym (ap (option_map (λ (o : Load). o.fresh)) (out_after (out_at p.rows path))) ∙ at, (λ e. cc), (λ e. cc))
  was_id Carried id at = (sym (ap (λ (o : Option Load). join o (λ l. l.part)) (out_after (out_at p.rows path))) ∙ at, (λ e. cc), (λ e. cc))
  was_id Resting id at = no_some id at

  module _ {S : Type 0} (s : SiteGhosts S) (tells : Bool) (a : IsPlain s tells p) where
    fits : FitsAt s tells p.next_try p.next_id p.rows p.parts path row' None
    fits = record {
      heads = λ w at. no_some w (sym (whole_after (out_at p.rows path)) ∙ at);
      tries = λ w at. no_some w (sym (whole_after (out_at p.rows path)) ∙ at);
      part_tries = λ x at. no_some x at;
      out_tries = λ o at. a.tries.out path o (sym (out_after (out_at p.rows path)) ∙ at);
      below = λ r id at. a.below.each path r id (was_id r id at).0;
      foreign = λ r t q id off at other. off (sym (a.apart.each path q r t id (was_id r id at).0 other).0);
      own = λ r t id x y. (a.apart.each path path r t id (was_id r id x).0 (was_id t id y).0).1;
      parked = λ x at. no_some x at;
      rowed = λ x at. no_some x at;
      free = λ x at. no_some x at;
    }

    rows_len : (b : Bool) → is_some (out_at p.rows path) ≡ b → map.len (cond b (with_whole p.rows path None) (map.remove p.rows path)) ≤
        p.limit
    rows_len true is = subst (λ n. n ≤ p.limit)
        (sym (map.len-insert nat_list_cmp_total p.rows path (record { whole = None; out = out_at p.rows path })))
        (put_len (map.contains_key p.rows path) (map.len p.rows) p.limit (there_case (map.get p.rows path) is) a.few)
    rows_len false is = subst (λ n. n ≤ p.limit) (sym (map.len-remove nat_list_cmp_total p.rows path))
        (less_len (map.contains_key p.rows path) (map.len p.rows) p.limit a.few)

    pub removed_plain : IsPlain s tells (record p { rows = rows'; parts = parts' })
    removed_plain = changed_plain p.rows rows' p.parts parts' path row' None changes s tells p.limit p.rules p.next_try p.next_id p.next_try
        p.next_id fits a
        (omega arith) (omega arith) (rows_len (is_some (out_at p.rows path)) refl)
        (subst (λ n. n ≤ most_parts) (sym (map.len-remove nat_list_cmp_total p.parts path))
        (less_len (map.contains_key p.parts path) (map.len p.parts) most_parts a.few_parts))

    off_old : (q : List ℕ) (r : Role) (id : ℕ) (o : Option Whole) → whole_at p.rows path ≡ o → r ≢ Held → id_at p.rows p.parts q r ≡ Some id
        → IsOff id (both_of (id_in_whole o))
    off_old q r id None e not at = tt
    off_old q r id (Some w) e not at =
        let off : id ≢ w.id = λ same. not (a.apart.each q path r Held id at (ap (option_map (λ (x : Whole). x.id)) e
        ∙ ap (λ n. Some n) (sym same))).1 in
        (off, (off, tt))

    loose_by : (k l : Kept) (q : List ℕ) (r : Role) (id : ℕ) → AreLoose k p.rows p.parts
        → KeepsLoose (both_of (id_in_whole (whole_at p.rows path))) k l → r ≢ Held
        → Here rows' parts' path row' None q ⊎ There p.rows rows' p.parts parts' path q → id_at rows' parts' q r ≡ Some id
        → map.contains_key l.loose id ≡ true
    loose_by k l q r id loose others not (inl h) at =
        let was = (was_id r id (here_id p.rows rows' p.parts parts' path row' None q r id h at)).0 in
        others.each id (off_old path r id (whole_at p.rows path) refl not was) ∙ loose.each path r id not was
    loose_by k l q r id loose others not (inr t) at =
        let was = there_id p.rows rows' p.parts parts' path q r id t at in
        others.each id (off_old q r id (whole_at p.rows path) refl not was) ∙ loose.each q r id not was

    pub removed_loose : (k l : Kept) → AreLoose k p.rows p.parts → KeepsLoose (both_of (id_in_whole (whole_at p.rows path))) k l
        → AreLoose l rows' parts'
    removed_loose k l loose others = record { each = λ q r id not at. loose_by k l q r id loose others not (spot_of q) at }

    pub same_loose : (k l : Kept) → AreLoose k p.rows p.parts → KeepsLoose (both_of (id_in_whole (whole_at p.rows path))) k l
        → AreLoose l p.rows p.parts
    same_loose k l loose others = record {
      each = λ q r id not at. others.each id (off_old q r id (whole_at p.rows path) refl not at)
          ∙ loose.each q r id not at;
    }

    -- the partial body that rested is nobody's
    free_by : (q : List ℕ) (r : Role) (id : ℕ) → id_at p.rows p.parts path Resting ≡ Some id
        → Here rows' parts' path row' None q ⊎ There p.rows rows' p.parts parts' path q → id_at rows' parts' q r ≡ Some id → ⊥
    free_by q r id rest (inl h) at =
        let was = was_id r id (here_id p.rows rows' p.parts parts' path row' None q r id h at) in
        was.2 (a.apart.each path path r Resting id was.0 rest).1
    free_by q r id rest (inr t) at = t.isnt (a.apart.each q path r Resting id (there_id p.rows rows' p.parts parts' path q r id t at)
        rest).0

    part_by : (o : Option Parked) → map.get p.parts path ≡ o
        → IfSome (option_map (λ (x : Parked). x.handle.number) o) (IsNobodys rows' parts')
    part_by None e = tt
    part_by (Some x) e = record {
      each = λ q r at. free_by q r x.handle.number (ap (option_map (λ (y : Parked). y.handle.number)) e)
          (spot_of q) at;
    }

    pub part_freed : IfSome (option_map (λ (x : Parked). x.handle.number) (map.get p.parts path)) (IsNobodys rows' parts')
    part_freed = part_by (map.get p.parts path) refl
