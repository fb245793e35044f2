-- What a desk keeps where a ticket is given out.
use Rattle.std.proofs.Common.{◌≡◌, ◌≢◌, ◌⊎◌, ℕ, ◌+◌, ◌-◌, ◌<◌, ◌≤◌, ◌^◌, Bool, true, false, not, ◌&&◌, nat_le, List, Some}
use Rattle.std.proofs.Common.{None, cond, unwrap_or, refl, sym, ap, subst, ◌∙◌, inl, inr, arith}
use Rattle.std.specs.FinMap as map
use Rattle.std.specs.Cmp.Lexicographic.{nat_list_cmp_total}
use Rattle.acng_site.specs.declared.site.Site.{Ghosts as SiteGhosts}
use Rattle.acng_rows.specs.Rows.{Row, Load}
use Rattle.acng_keeper.specs.Kept.{Kept, stored, with_loose, IdsBelow as KeysBelow}
use Rattle.acng_keeper.specs.Slips.{Faults}
use Rattle.acng_rows.specs.Goods.{Holds}
use Rattle.acng_rows.proofs.Points.{got-insert, got-remove}
use Rattle.acng_rows.proofs.Wholes.{same_wholes}
use Rattle.acng_desk.specs.House.{Plain, House, spot_at, most_parts}
use Rattle.acng_desk.specs.Keeps.{Role, Held, Fresh, Carried, Resting, id_at, AreLoose, IsPlain, IsKept, IsSound}
use Rattle.acng_desk.specs.Begins.{led, led_row, load_of, is_full, is_worn}
use Rattle.acng_desk.proofs.Changes.{no_some, later, id_in, Changes, FitsAt, Here, There, here_id, there_id, found, changed_plain}
use Rattle.acng_desk.proofs.Stores.{new_loose, still_loose, made_faithful}

some_is : {X : Type 0} (x y : X) → Some x ≡ Some y → x ≡ y
some_is x y is = ap (λ o. unwrap_or o x) is

-- sixteen tries are there
pub tries_there : (p : Plain) (path : List ℕ) → is_worn (spot_at p path) ≡ false → p.next_try ≤ 2 ^ 63 - 16
tries_there p path worn = grind (arith, worn)

pub ids_there : (p : Plain) (path : List ℕ) → is_worn (spot_at p path) ≡ false → p.next_id < 2 ^ 63
ids_there p path worn = grind (arith, worn)

module _ {S : Type 0} (s : SiteGhosts S) (tells : Bool) (p : Plain) (path : List ℕ) (a : IsPlain s tells p) where
  abbrev row : Row
  row = led_row (spot_at p path)

  changes : Changes p.rows (led path p).rows p.parts (led path p).parts path (Some row) None
  changes = record { rows_at = λ q. got-insert p.rows path row q; parts_at = λ q. got-remove p.parts path q }

  led_below : (r : Role) (id : ℕ) → id_in (Some row) None r ≡ Some id → id < p.next_id + 1
  led_below Held id is = omega (arith, a.below.each path Held id is)
  led_below Fresh id is = omega (arith, some_is p.next_id id is)
  led_below Carried id is = omega (arith, a.below.each path Resting id is)
  led_below Resting id is = no_some id is

  new_off : {P : Type 0} (q : List ℕ) (t : Role) (id : ℕ) → Some p.next_id ≡ Some id → id_at p.rows p.parts q t ≡ Some id → P
  new_off q t id is at = absurd (omega (arith, a.below.each q t id at, some_is p.next_id id is))

  led_foreign : (r t : Role) (q : List ℕ) (id : ℕ) → q ≢ path → id_in (Some row) None r ≡ Some id → id_at p.rows p.parts q t ≢ Some id
  led_foreign Held t q id off is at = off (sym (a.apart.each path q Held t id is at).0)
  led_foreign Fresh t q id off is at = new_off q t id is at
  led_foreign Carried t q id off is at = off (sym (a.apart.each path q Resting t id is at).0)
  led_foreign Resting t q id off is at = no_some id is

  held_resting : Held ≡ Resting → ⊥
  held_resting e = cc

  led_own : (r t : Role) (id : ℕ) → id_in (Some row) None r ≡ Some id → id_in (Some row) None t ≡ Some id → r ≡ t
  led_own Held Held id x y = refl
  led_own Held Fresh id x y = new_off path Held id y x
  led_own Held Carried id x y = absurd (held_resting (a.apart.each path path Held Resting id x y).1)
  led_own Held Resting id x y = no_some id y
  led_own Fresh Held id x y = new_off path Held id x y
  led_own Fresh Fresh id x y = refl
  led_own Fresh Carried id x y = new_off path Resting id x y
  led_own Fresh Resting id x y = no_some id y
  led_own Carried Held id x y = absurd (held_resting (a.apart.each path path Held Resting id y x).1)
  led_own Carried Fresh id x y = new_off path Resting id y x
  led_own Carried Carried id x y = refl
  led_own Carried Resting id x y = no_some id y
  led_own Resting t id x y = no_some id x

  led_fits : FitsAt s tells (p.next_try + 16) (p.next_id + 1) p.rows p.parts path (Some row) None
  led_fits = record {
    heads = λ w at. a.heads.each path w at;
    tries = λ w at. later p.next_try (p.next_try + 16) w.label (omega arith) (a.tries.whole path w at);
    part_tries = λ x is. no_some x is;
    out_tries = λ o is. let e : p.next_try ≡ o.first = ap (λ (l : Load). l.first) (some_is (load_of (spot_at p path)) o is) in
        omega (arith, e);
    below = led_below;
    foreign = led_foreign;
    own = led_own;
    parked = λ x is. no_some x is;
    rowed = λ x is. no_some x is;
    free = λ x is. no_some x is;
  }

  len_case : (b : Bool) (n limit : ℕ) → (not b && nat_le limit n) ≡ false → n ≤ limit → cond b n (n + 1) ≤ limit
  len_case true n limit room small = small
  len_case false n limit room small = grind (arith, room)

  less_case : (b : Bool) (n : ℕ) → n ≤ most_parts → cond b (n - 1) n ≤ most_parts
  less_case true n small = omega (arith, small)
  less_case false n small = small

  pub led_plain : is_full (spot_at p path) ≡ false → IsPlain s tells (led path p)
  led_plain room = changed_plain p.rows (led path p).rows p.parts (led path p).parts path (Some row) None changes s tells p.limit p.rules
      p.next_try p.next_id (p.next_try + 16) (p.next_id + 1) led_fits a (omega arith) (omega arith)
      (subst (λ n. n ≤ p.limit) (sym (map.len-insert nat_list_cmp_total p.rows path row))
      (len_case (map.contains_key p.rows path) (map.len p.rows) p.limit room a.few))
      (subst (λ n. n ≤ most_parts) (sym (map.len-remove nat_list_cmp_total p.parts path))
      (less_case (map.contains_key p.parts path) (map.len p.parts) a.few_parts))

  -- ---- what the keeper has

  led_loose_here : (k l : Kept) (r : Role) (id : ℕ) → l ≡ with_loose p.next_id k → AreLoose k p.rows p.parts → r ≢ Held
      → id_in (Some row) None r ≡ Some id → map.contains_key l.loose id ≡ true
  led_loose_here k l Held id is loose not at = absurd (not refl)
  led_loose_here k l Fresh id is loose not at = subst (λ n. map.contains_key l.loose n ≡ true) (some_is p.next_id id at)
      (new_loose k l p.next_id is)
  led_loose_here k l Carried id is loose not at = still_loose k l p.next_id is id (loose.each path Resting id (λ e. cc) at)
  led_loose_here k l Resting id is loose not at = no_some id at

  led_loose_by : (k l : Kept) (q : List ℕ) (r : Role) (id : ℕ) → l ≡ with_loose p.next_id k → AreLoose k p.rows p.parts → r ≢ Held
      → Here (led path p).rows (led path p).parts path (Some row) None q ⊎ There p.rows (led path p).rows p.parts (led path p).parts path q
      → id_at (led path p).rows (led path p).parts q r ≡ Some id → map.contains_key l.loose id ≡ true
  led_loose_by k l q r id is loose not (inl h) at = led_loose_here k l r id is loose not
      (here_id p.rows (led path p).rows p.parts (led path p).parts path (Some row) None q r id h at)
  led_loose_by k l q r id is loose not (inr t) at = still_loose k l p.next_id is id
      (loose.each q r id not (there_id p.rows (led path p).rows p.parts (led path p).parts path q r id t at))

  pub led_kept : (k l : Kept) → l ≡ with_loose p.next_id k → KeysBelow p.next_id k.heads → IsKept s p k → IsKept s (led path p) l
  led_kept k l is below a = record {
    holds = subst (Holds (led path p).rows) (sym (ap stored is))
        (record { each = λ q w at. a.holds.each q w (sym (same_wholes p.rows path row refl q) ∙ at) });
    loose = record {
      each = λ q r id not at. led_loose_by k l q r id is a.loose not
          (found p.rows (led path p).rows p.parts (led path p).parts path (Some row) None changes q) at;
    };
    faithful = made_faithful k l p.next_id is s below a.faithful;
  }

pub led_sound : {S : Type 0} (s : SiteGhosts S) (tells : Bool) (h : House) (path : List ℕ) (k : Kept) (f : Faults)
    → is_full (spot_at h.plain path) ≡ false
    → (tells ≡ true → k ≡ with_loose h.plain.next_id h.kept) → (tells ≡ true → KeysBelow h.plain.next_id h.kept.heads) → IsSound s tells h
    → IsSound s tells (record { plain = led path h.plain; kept = k; faults = f })
led_sound s tells h path k f room come below a = record {
  told = a.told;
  plain = led_plain s tells h.plain path a.plain room;
  kept = λ t. led_kept s tells h.plain path a.plain h.kept k (come t) (below t) (a.kept t);
}
