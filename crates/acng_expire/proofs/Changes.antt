-- What one call on a path makes of every path.
use Rattle.std.proofs.Common.{◌≡◌, ℕ, Bool, true, false, List, Option, Some, None, is_some, option_map, cond, refl, sym, ap, subst, ◌∙◌}
use mathlib.Core.Bool.{true≢false}
use Rattle.std.specs.FinMap as map
use Rattle.std.proofs.lemmas.Map.Text.{is_eq-slice_cmp}
use Rattle.acng_base.specs.declared.clock.Moment.{Moment}
use Rattle.acng_rows.specs.declared.row.Whole.{Whole}
use Rattle.acng_rows.specs.declared.stamp.Stamp.TheVariants.{Mark}
use Rattle.acng_rows.specs.Rows.{Rows, Row, whole_in, out_in, whole_at, out_at, stamped_in, with_whole, without_whole, restamped}
use Rattle.acng_rows.proofs.Points.{tie, tied, got-insert, got-remove}
use Rattle.acng_desk.specs.House.{Plain, Parts}
use Rattle.acng_desk.specs.Commands.{marked, removed}
use Rattle.acng_reach.specs.Sets.{same}
use Rattle.acng_expire.specs.Runs.{new_mark}
use Rattle.acng_expire.specs.Places.{Place, place_at, whole_of, seconds, moment_of, remarked, remarked_row, remarked_place, is_due, emptied_row, emptied, cleared}
use Rattle.acng_expire.specs.Rounds.{HasPlaces, IsElseSame, changed_at}

no_some : {X : Type 0} {P : Type 0} (x : X) → None ≡ Some x → P
no_some x e = absurd (true≢false (sym (ap is_some e)))

tie_same : (q path : List ℕ) → tie q path ≡ same q path
tie_same q path = is_eq-slice_cmp q path

-- ---- nothing else changes

pub else_self : (p : Plain) → IsElseSame p p
else_self p = refl

pub else_same : (p mid new : Plain) → IsElseSame p mid → IsElseSame mid new → IsElseSame p new
else_same p mid new a b = b ∙ ap (λ (m : Plain). record m { rows = new.rows; parts = new.parts }) a

else_by : (p new : Plain) (rows : Rows) (parts : Parts) → new ≡ record p { rows = rows; parts = parts } → IsElseSame p new
else_by p new rows parts e = subst (λ (n : Plain). IsElseSame p n) (sym e) refl

-- ---- a change of one path

-- every path is as `changed_at` says where the path is changed so and each other one is as it was
module _ (f : Place → Place) (path : List ℕ) (p : Plain) where
  point : (q : List ℕ) (x : Place) (b : Bool) → tie q path ≡ b → x ≡ f (place_at p path)
      → cond b x (place_at p q) ≡ cond b (f (place_at p q)) (place_at p q)
  point q x true t is = is ∙ ap (λ r. f (place_at p r)) (sym (tied q path t))
  point q x false t is = refl

  pub at_point : (q : List ℕ) (x : Place) → x ≡ f (place_at p path) → cond (tie q path) x (place_at p q) ≡ changed_at f path p q
  at_point q x is =
      point q x (tie q path) refl is ∙ ap (λ b. cond b (f (place_at p q)) (place_at p q)) (tie_same q path)

  same_point : (q : List ℕ) (b : Bool) → tie q path ≡ b → place_at p path ≡ f (place_at p path)
      → place_at p q ≡ cond b (place_at p path) (place_at p q)
  same_point q true t is = ap (place_at p) (tied q path t)
  same_point q false t is = refl

  -- nothing changes where the path would stay as it is
  pub stays : f (place_at p path) ≡ place_at p path → HasPlaces (changed_at f path p) p p
  stays is = record {
    each = λ q. same_point q (tie q path) refl (sym is) ∙ at_point q (place_at p path) (sym is);
    others = refl;
  }

-- ---- marks

module _ (now : ℕ) (reached : Bool) where
  -- no whole body
  bare_row : (o : Option Row) → whole_in o ≡ None → remarked_row now reached o ≡ o
  bare_row None e = refl
  bare_row (Some r) e =
      ap (λ (w : Option Whole). Some (record { whole = option_map (remarked now reached) w; out = r.out })) e
      ∙ ap (λ (w : Option Whole). Some (record { whole = w; out = r.out })) (sym e)

  pub bare_place : (p : Place) → whole_of p ≡ None → remarked_place now reached p ≡ p
  bare_place p e = ap (λ r. record { row = r; part = p.part }) (bare_row p.row e)

  remarked_same : (w : Whole) → moment_of (new_mark reached now (seconds w.mark)) ≡ w.mark → remarked now reached w ≡ w
  remarked_same w e = ap (λ m. record w { mark = m }) e

  kept_row : (o : Option Row) (w : Whole) → whole_in o ≡ Some w → moment_of (new_mark reached now (seconds w.mark)) ≡ w.mark
      → remarked_row now reached o ≡ o
  kept_row None w e m = no_some w e
  kept_row (Some r) w e m =
      ap (λ (x : Option Whole). Some (record { whole = option_map (remarked now reached) x; out = r.out })) e
      ∙ ap (λ (x : Whole). Some (record { whole = Some x; out = r.out })) (remarked_same w m)
      ∙ ap (λ (x : Option Whole). Some (record { whole = x; out = r.out })) (sym e)

  put_row : (o : Option Row) (w : Whole) (m : Option Moment) → whole_in o ≡ Some w → m ≡ moment_of (new_mark reached now (seconds w.mark))
      → Some (record { whole = stamped_in (Mark m) (whole_in o); out = out_in o }) ≡ remarked_row now reached o
  put_row None w m e is = no_some w e
  put_row (Some r) w m e is =
      ap (λ (x : Option Whole). Some (record { whole = stamped_in (Mark m) x; out = r.out })) e
      ∙ ap (λ n. Some (record { whole = Some (record w { mark = n }); out = r.out })) is
      ∙ ap (λ (x : Option Whole). Some (record { whole = option_map (remarked now reached) x; out = r.out })) (sym e)

  module _ (p : Plain) (path : List ℕ) where
    -- the path has no whole body
    pub none_marked : whole_at p.rows path ≡ None → HasPlaces (changed_at (remarked_place now reached) path p) p p
    none_marked e = stays (remarked_place now reached) path p (bare_place (place_at p path) e)

    module _ (w : Whole) (at : whole_at p.rows path ≡ Some w) where
      -- its mark is that which it would get
      pub mark_stays : moment_of (new_mark reached now (seconds w.mark)) ≡ w.mark
          → HasPlaces (changed_at (remarked_place now reached) path p) p p
      mark_stays e =
          stays (remarked_place now reached) path p
          (ap (λ r. record { row = r; part = map.get p.parts path }) (kept_row (map.get p.rows path) w at e))

      module _ (m : Option Moment) (is : m ≡ moment_of (new_mark reached now (seconds w.mark))) where
        abbrev row : Row
        row = record { whole = stamped_in (Mark m) (whole_at p.rows path); out = out_at p.rows path }

        row_case : (q : List ℕ) (b : Bool) → tie q path ≡ b
            → record { row = cond b (Some row) (map.get p.rows q); part = map.get p.parts q }
            ≡ cond b (record { row = Some row; part = map.get p.parts path }) (place_at p q)
        row_case q true t = ap (λ x. record { row = Some row; part = map.get p.parts x }) (tied q path t)
        row_case q false t = refl

        abbrev stamped : Plain
        stamped = record p { rows = restamped (Mark m) p.rows path }

        stamped_places : HasPlaces (changed_at (remarked_place now reached) path p) p stamped
        stamped_places = record {
          each = λ q.
              ap (λ r. record { row = r; part = map.get p.parts q }) (got-insert p.rows path row q)
              ∙ row_case q (tie q path) refl
              ∙ at_point (remarked_place now reached) path p q (record { row = Some row; part = map.get p.parts path })
              (ap (λ r. record { row = r; part = map.get p.parts path }) (put_row (map.get p.rows path) w m at is));
          others = refl;
        }

        -- it gets that mark
        pub mark_put : (new : Plain) → new ≡ marked m path p → HasPlaces (changed_at (remarked_place now reached) path p) p new
        mark_put new e =
            subst (λ (n : Plain). HasPlaces (changed_at (remarked_place now reached) path p) p n)
            (sym (e ∙ ap (λ b. cond b stamped p) (ap is_some at))) stamped_places

-- ---- removals

module _ (limit now : ℕ) (p : Plain) (path : List ℕ) where
  not_due : (b : Bool) → b ≡ false → cond b (emptied (place_at p path)) (place_at p path) ≡ place_at p path
  not_due b e = ap (λ c. cond c (emptied (place_at p path)) (place_at p path)) e

  -- what isn't due stays
  pub due_stays : is_due limit now (whole_at p.rows path) ≡ false → HasPlaces (changed_at (cleared limit now) path p) p p
  due_stays e = stays (cleared limit now) path p (not_due (is_due limit now (whole_at p.rows path)) e)

  module _ (w : Whole) (at : whole_at p.rows path ≡ Some w) (due : is_due limit now (whole_at p.rows path) ≡ true) where
    abbrev gone : Plain
    gone = record p { rows = without_whole p.rows path; parts = map.remove p.parts path }

    -- the row of the path, where a ticket may be out
    gone_row : (o : Option Row) → whole_in o ≡ Some w
        → cond (is_some (out_in o)) (Some (record { whole = None; out = out_in o })) None ≡ emptied_row o
    gone_row None e = no_some w e
    gone_row (Some r) e = refl

    row_at : (q : List ℕ) (out : Bool) → map.get (cond out (with_whole p.rows path None) (map.remove p.rows path)) q
        ≡ cond (tie q path) (cond out (Some (record { whole = None; out = out_at p.rows path })) None) (map.get p.rows q)
    row_at q true = got-insert p.rows path (record { whole = None; out = out_at p.rows path }) q
    row_at q false = got-remove p.rows path q

    place_case : (q : List ℕ) (b : Bool) (o : Option Row)
        → record { row = cond b o (map.get p.rows q); part = cond b None (map.get p.parts q) }
        ≡ cond b (record { row = o; part = None }) (place_at p q)
    place_case q true o = refl
    place_case q false o = refl

    emptied_is :
        record { row = cond (is_some (out_at p.rows path)) (Some (record { whole = None; out = out_at p.rows path })) None; part = None }
        ≡ cleared limit now (place_at p path)
    emptied_is =
        ap (λ (r : Option Row). record { row = r; part = None }) (gone_row (map.get p.rows path) at)
        ∙ sym (ap (λ b. cond b (emptied (place_at p path)) (place_at p path)) due)

    gone_places : HasPlaces (changed_at (cleared limit now) path p) p gone
    gone_places = record {
      each = λ q.
          ap (λ r. record { row = r; part = map.get (map.remove p.parts path) q }) (row_at q (is_some (out_at p.rows path)))
          ∙ ap (λ x. record {
            row = cond (tie q path) (cond (is_some (out_at p.rows path)) (Some (record { whole = None; out = out_at p.rows path })) None)
                (map.get p.rows q);
            part = x;
          }) (got-remove p.parts path q)
          ∙ place_case q (tie q path) (cond (is_some (out_at p.rows path)) (Some (record { whole = None; out = out_at p.rows path })) None)
          ∙ at_point (cleared limit now) path p q (record {
            row = cond (is_some (out_at p.rows path)) (Some (record { whole = None; out = out_at p.rows path })) None;
            part = None;
          }) emptied_is;
      others = refl;
    }

    -- what is due goes
    pub due_goes : (new : Plain) → new ≡ removed path p → HasPlaces (changed_at (cleared limit now) path p) p new
    due_goes new e =
        subst (λ (n : Plain). HasPlaces (changed_at (cleared limit now) path p) p n)
        (sym (e ∙ ap (λ b. cond b gone p) (ap is_some at))) gone_places
