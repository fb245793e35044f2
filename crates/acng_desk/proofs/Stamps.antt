-- What a desk keeps where a whole body gets another moment.
use Rattle.std.proofs.Common.{◌≡◌, ◌≢◌, ◌⊎◌, ℕ, ◌+◌, ◌≤◌, Bool, true, false, List, Some, None, Option, is_some, cond, unwrap_or, refl}
use Rattle.std.proofs.Common.{sym, ap, subst, ◌∙◌, inl, inr, arith}
use Rattle.std.specs.Option.{option_map}
use mathlib.Core.Bool.{true≢false}
use Rattle.std.specs.FinMap as map
use Rattle.std.specs.Cmp.Lexicographic.{nat_list_cmp_total}
use Rattle.acng_site.specs.declared.site.Site.{Ghosts as SiteGhosts}
use Rattle.acng_head.specs.Records.{IsHead}
use Rattle.acng_keeper.specs.Kept.{Kept, stored}
use Rattle.acng_keeper.specs.Slips.{Faults}
use Rattle.acng_grow.specs.Faithful.{IsFaithful}
use Rattle.acng_rows.specs.declared.row.Whole.{Whole}
use Rattle.acng_rows.specs.declared.stamp.Stamp.{Stamp}
use Rattle.acng_rows.specs.declared.stamp.Stamp.TheVariants.{Checked, Mark}
use Rattle.acng_rows.specs.Rows.{Rows, Row, head_of, whole_in, whole_at, out_at, stamped_in, restamped}
use Rattle.acng_rows.specs.Goods.{AreHeld, Holds}
use Rattle.acng_rows.specs.Starts.{NamesBelow}
use Rattle.acng_rows.proofs.Points.{tie, tied, got-insert}
use Rattle.acng_rows.proofs.Wholes.{own_whole}
use Rattle.acng_desk.specs.House.{Parked, Parts, Plain, House}
use Rattle.acng_desk.specs.Keeps.{Role, Held, Fresh, Carried, Resting, id_at, AreLoose, IsPlain, IsSound}
use Rattle.acng_desk.proofs.Changes.{no_some, id_in, Changes, FitsAt, Here, There, here_id, there_id, found, changed_plain}

stamped_id : (stamp : Stamp) (o : Option Whole) → option_map (λ (w : Whole). w.id) (stamped_in stamp o) ≡ option_map (λ (w : Whole). w.id) o
stamped_id stamp None = refl
stamped_id (Checked now) (Some w) = refl
stamped_id (Mark mark) (Some w) = refl

-- a whole body that was stamped
record Was (stamp : Stamp) (o : Option Whole) (w : Whole) : Type 0 where
  was : Whole
  at : o ≡ Some was
  label : w.label ≡ was.label

was_of : (stamp : Stamp) (o : Option Whole) (w : Whole) → stamped_in stamp o ≡ Some w → Was stamp o w
was_of stamp None w is = no_some w is
was_of (Checked now) (Some v) w is = record { was = v; at = refl; label = sym (ap (λ (x : Option Whole). (unwrap_or x v).label) is) }
was_of (Mark mark) (Some v) w is = record { was = v; at = refl; label = sym (ap (λ (x : Option Whole). (unwrap_or x v).label) is) }

keep_case : (parts : Parts) (path q : List ℕ) (b : Bool) → tie q path ≡ b → map.get parts q ≡ cond b (map.get parts path) (map.get parts q)
keep_case parts path q true t = ap (map.get parts) (tied q path t)
keep_case parts path q false t = refl

row_there : (o : Option Row) → is_some (whole_in o) ≡ true → is_some o ≡ true
row_there None has = has
row_there (Some r) has = refl

put_len : (b : Bool) (n limit : ℕ) → b ≡ true → n ≤ limit → cond b n (n + 1) ≤ limit
put_len true n limit is small = small
put_len false n limit is small = absurd (true≢false (sym is))

module _ (p : Plain) (path : List ℕ) (stamp : Stamp) where
  abbrev row : Row
  row = record { whole = stamped_in stamp (whole_at p.rows path); out = out_at p.rows path }

  abbrev part : Option Parked
  part = map.get p.parts path

  changes : Changes p.rows (restamped stamp p.rows path) p.parts p.parts path (Some row) part
  changes = record { rows_at = λ q. got-insert p.rows path row q; parts_at = λ q. keep_case p.parts path q (tie q path) refl }

  same_id : (r : Role) → id_in (Some row) part r ≡ id_at p.rows p.parts path r
  same_id Held = stamped_id stamp (whole_at p.rows path)
  same_id Fresh = refl
  same_id Carried = refl
  same_id Resting = refl

  module _ {S : Type 0} (s : SiteGhosts S) (tells : Bool) (a : IsPlain s tells p) (heads : (w : Whole) → row.whole ≡ Some w
      → IsHead (head_of path w)) where
    named : (w : Whole) → Was stamp (whole_at p.rows path) w → NamesBelow p.next_try w.label
    named w was = subst (NamesBelow p.next_try) (sym was.label) (a.tries.whole path was.was was.at)

    fits : FitsAt s tells p.next_try p.next_id p.rows p.parts path (Some row) part
    fits = record {
      heads = heads;
      tries = λ w at. named w (was_of stamp (whole_at p.rows path) w at);
      part_tries = λ x at. a.tries.part path x at;
      out_tries = λ o at. a.tries.out path o at;
      below = λ r id at. a.below.each path r id (sym (same_id r) ∙ at);
      foreign = λ r t q id off at other. off (sym (a.apart.each path q r t id (sym (same_id r) ∙ at) other).0);
      own = λ r t id x y. (a.apart.each path path r t id (sym (same_id r) ∙ x) (sym (same_id t) ∙ y)).1;
      parked = λ x at. a.stand.parked path x at;
      rowed = λ x at. refl;
      free = λ x at. a.stand.free path x at;
    }

    pub stamp_plain : is_some (whole_at p.rows path) ≡ true → IsPlain s tells (record p { rows = restamped stamp p.rows path })
    stamp_plain has = changed_plain p.rows (restamped stamp p.rows path) p.parts p.parts path (Some row) part changes s tells p.limit
        p.rules
        p.next_try p.next_id p.next_try p.next_id fits a (omega arith) (omega arith)
        (subst (λ n. n ≤ p.limit) (sym (map.len-insert nat_list_cmp_total p.rows path row))
        (put_len (map.contains_key p.rows path) (map.len p.rows) p.limit (row_there (map.get p.rows path) has) a.few))
        a.few_parts

  loose_by : (k : Kept) (q : List ℕ) (r : Role) (id : ℕ) → AreLoose k p.rows p.parts → r ≢ Held
      → Here (restamped stamp p.rows path) p.parts path (Some row) part q
      ⊎ There p.rows (restamped stamp p.rows path) p.parts p.parts path q
      → id_at (restamped stamp p.rows path) p.parts q r ≡ Some id → map.contains_key k.loose id ≡ true
  loose_by k q r id a not (inl h) at = a.each path r id not (sym (same_id r)
      ∙ here_id p.rows (restamped stamp p.rows path) p.parts p.parts path (Some row) part q r id h at)
  loose_by k q r id a not (inr t) at = a.each q r id not (there_id p.rows (restamped stamp p.rows path) p.parts p.parts path q r id t at)

  pub stamp_loose : (k : Kept) → AreLoose k p.rows p.parts → AreLoose k (restamped stamp p.rows path) p.parts
  stamp_loose k a = record {
    each = λ q r id not at. loose_by k q r id a not
        (found p.rows (restamped stamp p.rows path) p.parts p.parts path (Some row) part changes q) at;
  }

-- the row is stamped, or as it was
pub stamp_sound : {S : Type 0} (s : SiteGhosts S) (tells : Bool) (h : House) (path : List ℕ) (stamp : Stamp) (k : Kept) (f : Faults)
    (m : Rows) (n : ℕ)
    → IsSound s tells h → AreHeld tells n m k → n ≡ h.plain.next_id → (tells ≡ true → k.loose ≡ h.kept.loose)
    → (tells ≡ true → IsFaithful s k)
    → ((m ≡ restamped stamp h.plain.rows path) × (is_some (whole_at h.plain.rows path) ≡ true)) ⊎ (m ≡ h.plain.rows)
    → IsSound s tells (record { plain = record h.plain { rows = m; next_id = n }; kept = k; faults = f })
stamp_sound s tells h path stamp k f m n a held next loose faithful (inl is) =
    let r : Row = record { whole = stamped_in stamp (whole_at h.plain.rows path); out = out_at h.plain.rows path } in
    let now : Rows = restamped stamp h.plain.rows path in
    let P : Rows → ℕ → Type 0 = λ x i. IsSound s tells (record { plain = record h.plain { rows = x; next_id = i }; kept = k; faults = f })
    in
    subst (λ x. P x n) (sym is.0) (subst (P now) (sym next) (record {
      told = a.told;
      plain = stamp_plain h.plain path stamp s tells a.plain (λ w at. held.heads path w (ap (λ x. whole_at x path) is.0
          ∙ own_whole h.plain.rows path r ∙ at)) is.1;
      kept = λ told. record {
        holds = subst (λ x. Holds x (stored k)) is.0 (held.holds told);
        loose = stamp_loose h.plain path stamp k (record {
          each = λ q t id not at. ap (λ x. map.contains_key x id) (loose told)
              ∙ (a.kept told).loose.each q t id not at;
        });
        faithful = faithful told;
      };
    }))
stamp_sound s tells h path stamp k f m n a held next loose faithful (inr is) =
    let P : Rows → ℕ → Type 0 = λ x i. IsSound s tells (record { plain = record h.plain { rows = x; next_id = i }; kept = k; faults = f })
    in
    subst (λ x. P x n) (sym is) (subst (P h.plain.rows) (sym next) (record {
      told = a.told;
      plain = a.plain;
      kept = λ told. record {
        holds = subst (λ x. Holds x (stored k)) is (held.holds told);
        loose = record { each = λ q t id not at. ap (λ x. map.contains_key x id) (loose told) ∙ (a.kept told).loose.each q t id not at };
        faithful = faithful told;
      };
    }))
