-- What a desk keeps where a ticket comes in.
use Rattle.std.proofs.Common.{◌≡◌, ◌≢◌, ◌⊎◌, ℕ, ◌+◌, ◌-◌, ◌<◌, ◌≤◌, Bool, true, false, ◌||◌, List, Some, None, Option, is_some, cond}
use Rattle.std.proofs.Common.{unwrap_or, refl, sym, ap, subst, ◌∙◌, inl, inr, arith}
use Rattle.std.specs.Option.{option_map}
use mathlib.Core.Bool.{true≢false}
use Rattle.std.specs.FinMap as map
use Rattle.std.specs.Cmp.Lexicographic.{nat_list_cmp_total}
use Rattle.acng_site.specs.declared.site.Site.{Ghosts as SiteGhosts}
use Rattle.acng_head.specs.Records.{IsHead}
use Rattle.acng_keeper.specs.Kept.{Kept, Stored, stored}
use Rattle.acng_rows.specs.declared.row.Whole.{Whole}
use Rattle.acng_rows.specs.Rows.{Rows, Row, Load, head_of, whole_in, out_in, whole_at, out_at}
use Rattle.acng_rows.specs.Goods.{HeldAs, Holds}
use Rattle.acng_rows.specs.Starts.{NamesBelow}
use Rattle.acng_rows.proofs.Points.{tie, tied, got-insert, got-remove}
use Rattle.acng_desk.specs.House.{Parked, Parts, Plain, House, most_parts}
use Rattle.acng_desk.specs.Keeps.{Role, Held, Fresh, Carried, Resting, join, id_at, AreLoose, IsPlain, IsParked, IsNobodys, IsSound}
use Rattle.acng_desk.specs.Settles.{left_rows, left_parts, left_with, HasOwn}
use Rattle.acng_desk.proofs.Changes.{no_some, id_in, Changes, FitsAt, Here, There, here_id, there_id, found, changed_plain}

-- the row that is left
abbrev pub row_left : Option Whole → Option Parked → Option Row
row_left w part = cond (is_some part || is_some w) (Some (record { whole = w; out = None })) None

rows_by : (rows : Rows) (path : List ℕ) (w : Option Whole) (b : Bool) (q : List ℕ)
    → map.get (cond b (map.insert rows path (record { whole = w; out = None })) (map.remove rows path)) q
    ≡ cond (tie q path) (cond b (Some (record { whole = w; out = None })) None) (map.get rows q)
rows_by rows path w true q = got-insert rows path (record { whole = w; out = None }) q
rows_by rows path w false q = got-remove rows path q

none_case : (parts : Parts) (path q : List ℕ) (b : Bool) → tie q path ≡ b → map.get parts path ≡ None
    → map.get parts q ≡ cond b None (map.get parts q)
none_case parts path q true t bare = ap (map.get parts) (tied q path t) ∙ bare
none_case parts path q false t bare = refl

parts_by : (parts : Parts) (path : List ℕ) (part : Option Parked) → map.get parts path ≡ None → (q : List ℕ)
    → map.get (left_parts parts path part) q ≡ cond (tie q path) part (map.get parts q)
parts_by parts path None bare q = none_case parts path q (tie q path) refl bare
parts_by parts path (Some p) bare q = got-insert parts path p q

pub left_changes : (p : Plain) (path : List ℕ) (w : Option Whole) (part : Option Parked) → map.get p.parts path ≡ None
    → Changes p.rows (left_rows p.rows path w (is_some part)) p.parts (left_parts p.parts path part) path (row_left w part) part
left_changes p path w part bare = record {
  rows_at = rows_by p.rows path w (is_some part || is_some w);
  parts_at = parts_by p.parts path part bare;
}

-- where a ticket is out, no partial body rests
bare_case : {P : Type 0} (o : Option Load) → is_some o ≡ true → o ≡ None → P
bare_case o out none = absurd (true≢false (sym out ∙ ap is_some none))

bare_by : (p : Plain) (path : List ℕ) (o : Option Parked) → ((x : Parked) → o ≡ Some x → out_at p.rows path ≡ None)
    → is_some (out_at p.rows path) ≡ true → o ≡ None
bare_by p path None free out = refl
bare_by p path (Some x) free out = bare_case (out_at p.rows path) out (free x refl)

pub bare_out : {S : Type 0} (s : SiteGhosts S) (tells : Bool) (p : Plain) (path : List ℕ) → IsPlain s tells p
    → is_some (out_at p.rows path) ≡ true → map.get p.parts path ≡ None
bare_out s tells p path a out = bare_by p path (map.get p.parts path) (λ x is. a.stand.free path x is) out

there_case : (o : Option Row) → is_some (out_in o) ≡ true → is_some o ≡ true
there_case None out = out
there_case (Some r) out = refl

pub row_out : (rows : Rows) (path : List ℕ) → is_some (out_at rows path) ≡ true → map.contains_key rows path ≡ true
row_out rows path out = there_case (map.get rows path) out

-- ---- what is left fits

-- an id that the path had
pub record Had (p : Plain) (path : List ℕ) (id : ℕ) : Type 0 where
  pub role : Role
  pub at : id_at p.rows p.parts path role ≡ Some id

own_case : (o : Option Load) (id : ℕ) → HasOwn o id → (option_map (λ (l : Load). l.fresh) o ≡ Some id) ⊎ (join o (λ l. l.part) ≡ Some id)
own_case None id own = absurd own
own_case (Some o) id (inl is) = inl (ap (λ n. Some n) is)
own_case (Some o) id (inr is) = inr is

own_by : (p : Plain) (path : List ℕ) (id : ℕ) → (option_map (λ (l : Load). l.fresh) (out_at p.rows path) ≡ Some id)
    ⊎ (join (out_at p.rows path) (λ l. l.part) ≡ Some id) → Had p path id
own_by p path id (inl is) = record { role = Fresh; at = is }
own_by p path id (inr is) = record { role = Carried; at = is }

pub own_had : (p : Plain) (path : List ℕ) (id : ℕ) → HasOwn (out_at p.rows path) id → Had p path id
own_had p path id own = own_by p path id (own_case (out_at p.rows path) id own)

pub record Leaving {S : Type 0} (s : SiteGhosts S) (tells : Bool) (p : Plain) (path : List ℕ) (w : Option Whole) (part : Option Parked) :
    Type 0 where
  pub out : is_some (out_at p.rows path) ≡ true
  pub heads : (x : Whole) → w ≡ Some x → IsHead (head_of path x)
  pub tries : (x : Whole) → w ≡ Some x → NamesBelow p.next_try x.label
  pub whole_had : (x : Whole) → w ≡ Some x → Had p path x.id
  pub part_had : (x : Parked) → part ≡ Some x → Had p path x.handle.number
  pub part_tries : (x : Parked) → part ≡ Some x → NamesBelow p.next_try x.label
  pub parked : (x : Parked) → part ≡ Some x → IsParked s tells path x
  pub differ : (x : Whole) (y : Parked) → w ≡ Some x → part ≡ Some y → x.id ≢ y.handle.number
  pub room : (x : Parked) → part ≡ Some x → map.len p.parts < most_parts

some_row : (b : Bool) (v x : Row) → cond b (Some v) None ≡ Some x → v ≡ x
some_row true v x is = ap (λ o. unwrap_or o v) is
some_row false v x is = no_some x is

whole_left : (b : Bool) (w : Option Whole) (x : Whole) → whole_in (cond b (Some (record { whole = w; out = None })) None) ≡ Some x
    → w ≡ Some x
whole_left true w x is = is
whole_left false w x is = no_some x is

out_left : (b : Bool) (w : Option Whole) → out_in (cond b (Some (record { whole = w; out = None })) None) ≡ None
out_left true w = refl
out_left false w = refl

id_some : (w : Option Whole) (id : ℕ) → option_map (λ (x : Whole). x.id) w ≡ Some id → (x : Whole) × (w ≡ Some x) × (x.id ≡ id)
id_some None id is = no_some id is
id_some (Some x) id is = (x, refl, ap (λ o. unwrap_or o id) is)

part_some : (o : Option Parked) (id : ℕ) → option_map (λ (x : Parked). x.handle.number) o ≡ Some id → (x : Parked) × (o ≡ Some x)
    × (x.handle.number ≡ id)
part_some None id is = no_some id is
part_some (Some x) id is = (x, refl, ap (λ o. unwrap_or o id) is)

-- ids in the row that is left: its whole body's and its partial body's
pub record Kind (w : Option Whole) (part : Option Parked) (r : Role) (id : ℕ) : Type 0 where
  pub of : ((x : Whole) × (w ≡ Some x) × (x.id ≡ id) × (r ≡ Held)) ⊎ ((x : Parked) × (part ≡ Some x) × (x.handle.number ≡ id)
      × (r ≡ Resting))

kind_held : (b : Bool) (w : Option Whole) (part : Option Parked) (id : ℕ)
    → option_map (λ (x : Whole). x.id) (whole_in (cond b (Some (record { whole = w; out = None })) None)) ≡ Some id → Kind w part Held id
kind_held true w part id is = let k = id_some w id is in record { of = inl (k.0, k.1, k.2, refl) }
kind_held false w part id is = no_some id is

kind_fresh : (b : Bool) (w : Option Whole) (part : Option Parked) (id : ℕ)
    → option_map (λ (o : Load). o.fresh) (out_in (cond b (Some (record { whole = w; out = None })) None)) ≡ Some id → Kind w part Fresh id
kind_fresh true w part id is = no_some id is
kind_fresh false w part id is = no_some id is

kind_carried : (b : Bool) (w : Option Whole) (part : Option Parked) (id : ℕ)
    → join (out_in (cond b (Some (record { whole = w; out = None })) None)) (λ (o : Load). o.part) ≡ Some id → Kind w part Carried id
kind_carried true w part id is = no_some id is
kind_carried false w part id is = no_some id is

pub kind_of : (w : Option Whole) (part : Option Parked) (r : Role) (id : ℕ) → id_in (row_left w part) part r ≡ Some id → Kind w part r id
kind_of w part Held id is = kind_held (is_some part || is_some w) w part id is
kind_of w part Fresh id is = kind_fresh (is_some part || is_some w) w part id is
kind_of w part Carried id is = kind_carried (is_some part || is_some w) w part id is
kind_of w part Resting id is = let k = part_some part id is in record { of = inr (k.0, k.1, k.2, refl) }

module _ {S : Type 0} (s : SiteGhosts S) (tells : Bool) (p : Plain) (path : List ℕ) (w : Option Whole) (part : Option Parked)
    (a : IsPlain s tells p) (l : Leaving s tells p path w part) where
  had_case : (r : Role) (id : ℕ) → ((x : Whole) × (w ≡ Some x) × (x.id ≡ id) × (r ≡ Held))
      ⊎ ((x : Parked) × (part ≡ Some x) × (x.handle.number ≡ id) × (r ≡ Resting)) → Had p path id
  had_case r id (inl k) = subst (Had p path) k.2 (l.whole_had k.0 k.1)
  had_case r id (inr k) = subst (Had p path) k.2 (l.part_had k.0 k.1)

  had : (r : Role) (id : ℕ) → id_in (row_left w part) part r ≡ Some id → Had p path id
  had r id is = had_case r id (kind_of w part r id is).of

  foreign_by : (q : List ℕ) (t : Role) (id : ℕ) → q ≢ path → Had p path id → id_at p.rows p.parts q t ≢ Some id
  foreign_by q t id off h at = off (sym (a.apart.each path q h.role t id h.at at).0)

  below_by : (id : ℕ) → Had p path id → id < p.next_id
  below_by id h = a.below.each path h.role id h.at

  own_case2 : (r t : Role) (id : ℕ) → ((x : Whole) × (w ≡ Some x) × (x.id ≡ id) × (r ≡ Held))
      ⊎ ((x : Parked) × (part ≡ Some x) × (x.handle.number ≡ id) × (r ≡ Resting))
      → ((x : Whole) × (w ≡ Some x) × (x.id ≡ id) × (t ≡ Held)) ⊎ ((x : Parked) × (part ≡ Some x) × (x.handle.number ≡ id) × (t ≡ Resting))
      → r ≡ t
  own_case2 r t id (inl k) (inl m) = k.3 ∙ sym m.3
  own_case2 r t id (inl k) (inr m) = absurd (l.differ k.0 m.0 k.1 m.1 (k.2 ∙ sym m.2))
  own_case2 r t id (inr k) (inl m) = absurd (l.differ m.0 k.0 m.1 k.1 (m.2 ∙ sym k.2))
  own_case2 r t id (inr k) (inr m) = k.3 ∙ sym m.3

  rowed_case : (o : Option Parked) (b : Bool) (v : Row) (x : Parked) → o ≡ Some x → is_some (cond (is_some o || b) (Some v) None) ≡ true
  rowed_case None b v x is = no_some x is
  rowed_case (Some y) b v x is = refl

  fits : FitsAt s tells p.next_try p.next_id p.rows p.parts path (row_left w part) part
  fits = record {
    heads = λ x at. l.heads x (whole_left (is_some part || is_some w) w x at);
    tries = λ x at. l.tries x (whole_left (is_some part || is_some w) w x at);
    part_tries = l.part_tries;
    out_tries = λ o at. no_some o (sym (out_left (is_some part || is_some w) w) ∙ at);
    below = λ r id is. below_by id (had r id is);
    foreign = λ r t q id off is. foreign_by q t id off (had r id is);
    own = λ r t id x y. own_case2 r t id (kind_of w part r id x).of (kind_of w part t id y).of;
    parked = l.parked;
    rowed = λ x is. rowed_case part (is_some w) (record { whole = w; out = None }) x is;
    free = λ x is. out_left (is_some part || is_some w) w;
  }

  put_len : (b : Bool) (n limit : ℕ) → b ≡ true → n ≤ limit → cond b n (n + 1) ≤ limit
  put_len true n limit is small = small
  put_len false n limit is small = absurd (true≢false (sym is))

  less_len : (b : Bool) (n limit : ℕ) → n ≤ limit → cond b (n - 1) n ≤ limit
  less_len true n limit small = omega (arith, small)
  less_len false n limit small = small

  rows_len : (b : Bool) → map.len (cond b (map.insert p.rows path (record { whole = w; out = None })) (map.remove p.rows path)) ≤ p.limit
  rows_len true = subst (λ n. n ≤ p.limit) (sym (map.len-insert nat_list_cmp_total p.rows path (record { whole = w; out = None })))
      (put_len (map.contains_key p.rows path) (map.len p.rows) p.limit (row_out p.rows path l.out) a.few)
  rows_len false = subst (λ n. n ≤ p.limit) (sym (map.len-remove nat_list_cmp_total p.rows path))
      (less_len (map.contains_key p.rows path) (map.len p.rows) p.limit a.few)

  more_len : (b : Bool) (n : ℕ) → n < most_parts → cond b n (n + 1) ≤ most_parts
  more_len true n small = omega (arith, small)
  more_len false n small = omega (arith, small)

  parts_len : (o : Option Parked) → part ≡ o → map.len (left_parts p.parts path o) ≤ most_parts
  parts_len None is = a.few_parts
  parts_len (Some x) is = subst (λ n. n ≤ most_parts) (sym (map.len-insert nat_list_cmp_total p.parts path x))
      (more_len (map.contains_key p.parts path) (map.len p.parts) (l.room x is))

  pub left_plain : IsPlain s tells (left_with path w part p)
  left_plain = changed_plain p.rows (left_rows p.rows path w (is_some part)) p.parts (left_parts p.parts path part) path (row_left w part)
      part
      (left_changes p path w part (bare_out s tells p path a l.out)) s tells p.limit p.rules p.next_try p.next_id p.next_try p.next_id fits
      a
      (omega arith) (omega arith) (rows_len (is_some part || is_some w)) (parts_len part refl)

-- ---- ids that are nobody's from then on

module _ {S : Type 0} (s : SiteGhosts S) (tells : Bool) (p : Plain) (path : List ℕ) (w : Option Whole) (part : Option Parked)
    (a : IsPlain s tells p) (bare : map.get p.parts path ≡ None) (id : ℕ) (h : Had p path id) where
  here_case : (t : Role) → ((x : Whole) → w ≡ Some x → x.id ≢ id) → ((x : Parked) → part ≡ Some x → x.handle.number ≢ id)
      → ((x : Whole) × (w ≡ Some x) × (x.id ≡ id) × (t ≡ Held)) ⊎ ((x : Parked) × (part ≡ Some x) × (x.handle.number ≡ id) × (t ≡ Resting))
      → ⊥
  here_case t off off_part (inl k) = off k.0 k.1 k.2
  here_case t off off_part (inr k) = off_part k.0 k.1 k.2

  freed_by : (q : List ℕ) (t : Role) → ((x : Whole) → w ≡ Some x → x.id ≢ id) → ((x : Parked) → part ≡ Some x → x.handle.number ≢ id)
      → Here (left_rows p.rows path w (is_some part)) (left_parts p.parts path part) path (row_left w part) part q
      ⊎ There p.rows (left_rows p.rows path w (is_some part)) p.parts (left_parts p.parts path part) path q
      → id_at (left_rows p.rows path w (is_some part)) (left_parts p.parts path part) q t ≡ Some id → ⊥
  freed_by q t off off_part (inl k) at = here_case t off off_part
      (kind_of w part t id (here_id p.rows (left_rows p.rows path w (is_some part)) p.parts (left_parts p.parts path part) path
      (row_left w part) part q t id k at)).of
  freed_by q t off off_part (inr k) at = k.isnt (a.apart.each q path t h.role id
      (there_id p.rows (left_rows p.rows path w (is_some part)) p.parts (left_parts p.parts path part) path q t id k at) h.at).0

  pub freed : ((x : Whole) → w ≡ Some x → x.id ≢ id) → ((x : Parked) → part ≡ Some x → x.handle.number ≢ id)
      → IsNobodys (left_with path w part p).rows (left_with path w part p).parts id
  freed off off_part = record {
    each = λ q t at. freed_by q t off off_part
        (found p.rows (left_rows p.rows path w (is_some part)) p.parts (left_parts p.parts path part) path (row_left w part) part
        (left_changes p path w part bare) q) at;
  }

-- ---- what the keeper has

module _ (p : Plain) (path : List ℕ) (w : Option Whole) (part : Option Parked) (bare : map.get p.parts path ≡ None) where
  abbrev rows' : Rows
  rows' = left_rows p.rows path w (is_some part)

  abbrev parts' : Parts
  parts' = left_parts p.parts path part

  spot_of : (q : List ℕ) → Here rows' parts' path (row_left w part) part q ⊎ There p.rows rows' p.parts parts' path q
  spot_of q = found p.rows rows' p.parts parts' path (row_left w part) part (left_changes p path w part bare) q

  loose_kind : (k : Kept) (r : Role) (id : ℕ) → r ≢ Held → ((x : Parked) → part ≡ Some x → map.contains_key k.loose x.handle.number ≡ true)
      → ((x : Whole) × (w ≡ Some x) × (x.id ≡ id) × (r ≡ Held)) ⊎ ((x : Parked) × (part ≡ Some x) × (x.handle.number ≡ id) × (r ≡ Resting))
      → map.contains_key k.loose id ≡ true
  loose_kind k r id not may (inl x) = absurd (not x.3)
  loose_kind k r id not may (inr x) = subst (λ n. map.contains_key k.loose n ≡ true) x.2 (may x.0 x.1)

  loose_by : (k : Kept) → AreLoose k p.rows p.parts → ((x : Parked) → part ≡ Some x → map.contains_key k.loose x.handle.number ≡ true)
      → (q : List ℕ) (r : Role) (id : ℕ) → r ≢ Held → Here rows' parts' path (row_left w part) part q
      ⊎ There p.rows rows' p.parts parts' path q
      → id_at rows' parts' q r ≡ Some id → map.contains_key k.loose id ≡ true
  loose_by k a may q r id not (inl h) at = loose_kind k r id not may
      (kind_of w part r id (here_id p.rows rows' p.parts parts' path (row_left w part) part q r id h at)).of
  loose_by k a may q r id not (inr t) at = a.each q r id not (there_id p.rows rows' p.parts parts' path q r id t at)

  pub left_loose : (k : Kept) → AreLoose k p.rows p.parts → ((x : Parked) → part ≡ Some x → map.contains_key k.loose x.handle.number ≡ true)
      → AreLoose k rows' parts'
  left_loose k a may = record { each = λ q r id not at. loose_by k a may q r id not (spot_of q) at }

  holds_by : (s : Stored) → Holds p.rows s → ((x : Whole) → w ≡ Some x → HeldAs s path x) → (q : List ℕ) (x : Whole)
      → Here rows' parts' path (row_left w part) part q ⊎ There p.rows rows' p.parts parts' path q → whole_at rows' q ≡ Some x
      → HeldAs s q x
  holds_by s a own q x (inl h) at = subst (λ o. HeldAs s o x) (sym h.is)
      (own x (whole_left (is_some part || is_some w) w x (sym (ap whole_in h.row_is) ∙ at)))
  holds_by s a own q x (inr t) at = a.each q x (sym (ap whole_in t.row_is) ∙ at)

  pub left_holds : (s : Stored) → Holds p.rows s → ((x : Whole) → w ≡ Some x → HeldAs s path x) → Holds rows' s
  left_holds s a own = record { each = λ q x at. holds_by s a own q x (spot_of q) at }

-- a row that stays as it is, but for the ticket
pub close_leaving : {S : Type 0} (s : SiteGhosts S) (tells : Bool) (p : Plain) (path : List ℕ) → IsPlain s tells p
    → is_some (out_at p.rows path) ≡ true
    → Leaving s tells p path (whole_at p.rows path) None
close_leaving s tells p path a out = record {
  out = out;
  heads = λ x at. a.heads.each path x at;
  tries = λ x at. a.tries.whole path x at;
  whole_had = λ x at. record { role = Held; at = ap (option_map (λ (w : Whole). w.id)) at };
  part_had = λ x is. no_some x is;
  part_tries = λ x is. no_some x is;
  parked = λ x is. no_some x is;
  differ = λ x y at is. no_some y is;
  room = λ x is. no_some x is;
}

pub close_sound : {S : Type 0} (s : SiteGhosts S) (tells : Bool) (h : House) (path : List ℕ) → is_some (out_at h.plain.rows path) ≡ true
    → IsSound s tells h
    → IsSound s tells (record h { plain = left_with path (whole_at h.plain.rows path) None h.plain })
close_sound s tells h path out a =
    let bare : map.get h.plain.parts path ≡ None = bare_out s tells h.plain path a.plain out in
    record {
      told = a.told;
      plain = left_plain s tells h.plain path (whole_at h.plain.rows path) None a.plain (close_leaving s tells h.plain path a.plain out);
      kept = λ told. record {
        holds = left_holds h.plain path (whole_at h.plain.rows path) None bare (stored h.kept) (a.kept told).holds
            (λ x at. (a.kept told).holds.each path x at);
        loose = left_loose h.plain path (whole_at h.plain.rows path) None bare h.kept (a.kept told).loose (λ x is. no_some x is);
        faithful = (a.kept told).faithful;
      };
    }

-- a partial body of the ticket that comes to rest
loose_had : (k : Kept) (p : Plain) (path : List ℕ) (id : ℕ) → AreLoose k p.rows p.parts → HasOwn (out_at p.rows path) id
    → map.contains_key k.loose id ≡ true
loose_had k p path id a own = by (own_case (out_at p.rows path) id own)
  where
    by : (option_map (λ (l : Load). l.fresh) (out_at p.rows path) ≡ Some id) ⊎ (join (out_at p.rows path) (λ (l : Load). l.part) ≡ Some id)
        → map.contains_key k.loose id ≡ true
    by (inl is) = a.each path Fresh id (λ e. cc) is
    by (inr is) = a.each path Carried id (λ e. cc) is

pub held_own : {S : Type 0} (s : SiteGhosts S) (tells : Bool) (p : Plain) (path : List ℕ) (x : Whole) (id : ℕ) → IsPlain s tells p
    → whole_at p.rows path ≡ Some x → HasOwn (out_at p.rows path) id → x.id ≢ id
held_own s tells p path x id a at own same = by (own_case (out_at p.rows path) id own)
  where
    at_held : id_at p.rows p.parts path Held ≡ Some id
    at_held = ap (option_map (λ (w : Whole). w.id)) at ∙ ap (λ n. Some n) same

    not_fresh : Held ≡ Fresh → ⊥
    not_fresh e = cc

    not_carried : Held ≡ Carried → ⊥
    not_carried e = cc

    by : (option_map (λ (l : Load). l.fresh) (out_at p.rows path) ≡ Some id) ⊎ (join (out_at p.rows path) (λ (l : Load). l.part) ≡ Some id)
        → ⊥
    by (inl is) = not_fresh (a.apart.each path path Held Fresh id at_held is).1
    by (inr is) = not_carried (a.apart.each path path Held Carried id at_held is).1

pub out_own : (o : Option Load) (id : ℕ) → HasOwn o id → is_some o ≡ true
out_own None id own = absurd own
out_own (Some o) id own = refl

pub rest_sound : {S : Type 0} (s : SiteGhosts S) (tells : Bool) (h : House) (path : List ℕ) (x : Parked)
    → HasOwn (out_at h.plain.rows path) x.handle.number
    → IsParked s tells path x → NamesBelow h.plain.next_try x.label → map.len h.plain.parts < most_parts → IsSound s tells h
    → IsSound s tells (record h { plain = left_with path (whole_at h.plain.rows path) (Some x) h.plain })
rest_sound s tells h path x own parked below room a =
    let out : is_some (out_at h.plain.rows path) ≡ true = out_own (out_at h.plain.rows path) x.handle.number own in
    let bare : map.get h.plain.parts path ≡ None = bare_out s tells h.plain path a.plain out in
    record {
      told = a.told;
      plain = left_plain s tells h.plain path (whole_at h.plain.rows path) (Some x) a.plain (record {
        out = out;
        heads = λ w at. a.plain.heads.each path w at;
        tries = λ w at. a.plain.tries.whole path w at;
        whole_had = λ w at. record { role = Held; at = ap (option_map (λ (w : Whole). w.id)) at };
        part_had = λ y is. subst (λ (z : Parked). Had h.plain path z.handle.number) (ap (λ o. unwrap_or o x) is)
            (own_had h.plain path x.handle.number own);
        part_tries = λ y is. subst (λ (z : Parked). NamesBelow h.plain.next_try z.label) (ap (λ o. unwrap_or o x) is) below;
        parked = λ y is. subst (IsParked s tells path) (ap (λ o. unwrap_or o x) is) parked;
        differ = λ w y at is. subst (λ (z : Parked). w.id ≢ z.handle.number) (ap (λ o. unwrap_or o x) is)
            (held_own s tells h.plain path w x.handle.number a.plain at own);
        room = λ y is. room;
      });
      kept = λ told. record {
        holds = left_holds h.plain path (whole_at h.plain.rows path) (Some x) bare (stored h.kept) (a.kept told).holds
            (λ w at. (a.kept told).holds.each path w at);
        loose = left_loose h.plain path (whole_at h.plain.rows path) (Some x) bare h.kept (a.kept told).loose
            (λ y is. subst (λ (z : Parked). map.contains_key h.kept.loose z.handle.number ≡ true) (ap (λ o. unwrap_or o x) is)
            (loose_had h.kept h.plain path x.handle.number (a.kept told).loose own));
        faithful = (a.kept told).faithful;
      };
    }
