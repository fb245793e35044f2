-- What a desk keeps where an import is put.
use Rattle.std.proofs.Common.{◌≡◌, ◌≢◌, ◌⊎◌, ℕ, ◌+◌, ◌<◌, ◌≤◌, ◌^◌, ◌&&◌, Bool, true, false, not, List}
use Rattle.std.proofs.Common.{Some, None, Option, is_some}
use Rattle.std.proofs.Common.{cond, nat_le, unwrap_or, refl, sym, ap, subst, ◌∙◌, inl, inr, arith}
use Rattle.std.specs.Option.{option_map}
use mathlib.Core.Bool.{true≢false}
use Rattle.std.specs.FinMap as map
use Rattle.std.specs.Cmp.Lexicographic.{nat_list_cmp_total}
use Rattle.acng_base.specs.Paths.{path_refusal}
use Rattle.acng_base.specs.declared.clock.Moment.{Moment}
use Rattle.acng_base.specs.declared.hash.Hash.{Hash}
use Rattle.acng_site.specs.declared.site.Site.{Ghosts as SiteGhosts}
use Rattle.acng_head.specs.Records.{IsHead, IsHash}
use Rattle.acng_keeper.specs.declared.effect.Effect.TheVariants.{Sealed}
use Rattle.acng_keeper.specs.Images.{LeavesOnly}
use Rattle.acng_keeper.specs.Kept.{Kept, Stored, stored, MayCome, Comes}
use Rattle.acng_keeper.specs.Slips.{Faults}
use Rattle.acng_grow.specs.Faithful.{IsFaithful}
use Rattle.acng_grow.specs.Stands.{IsImport}
use Rattle.acng_rows.specs.declared.row.Whole.{Whole}
use Rattle.acng_rows.specs.Rows.{Rows, Row, Load, bare, head_of, whole_in, out_in, whole_at, out_at, id_in_whole, with_whole, reserved}
use Rattle.acng_rows.specs.Rows.{released}
use Rattle.acng_rows.specs.Goods.{AreSealed, Core, core_of, HasBody, Holds, IsBetween, IsExact, whole_comes}
use Rattle.acng_rows.specs.Removals.{KeepsLoose, both_of}
use Rattle.acng_rows.specs.Starts.{NamesBelow}
use Rattle.acng_rows.proofs.Faithful.{faithful_between}
use Rattle.acng_rows.proofs.Points.{tie, tied, got-insert, got_own}
use Rattle.acng_rows.proofs.Wholes.{same_wholes, same_outs, whole-insert, own_whole, none_is, twice, undone}
use Rattle.acng_rows.proofs.Seals.{alike_exact, seal_stops, mid_exact, stops_alike}
use Rattle.acng_desk.specs.House.{Parts, Plain, House, spot_at}
use Rattle.acng_desk.specs.Keeps.{Role, Held, Fresh, Carried, Resting, join, id_at, AreLoose, IsNobodys, IsPlain, IsSound}
use Rattle.acng_desk.specs.Begins.{is_full}
use Rattle.acng_desk.specs.Commands.{imported, put_in}
use Rattle.acng_desk.specs.Imports.{HasImport}
use Rattle.acng_desk.proofs.Discards.{nobodys_unnamed}
use Rattle.acng_desk.proofs.Changes.{id_in, Changes, FitsAt, changed_plain}
use Rattle.acng_desk.proofs.Kepts.{sealed_of, to_so, from_so}
use Rattle.acng_desk.specs.Stops.{IsFile, KeepsFiles}
use Rattle.acng_desk.proofs.Removes.{same_loose}
use Rattle.acng_desk.proofs.Seals.{may_faithful, may_holds, may_loose, body_there}

-- ---- a body that nobody has is sealed

pub seal_sound : {S : Type 0} (s : SiteGhosts S) (tells : Bool) (h : House) (id : ℕ) (text : List ℕ) (k : Kept) (f : Faults) (next : ℕ)
    → next ≡ h.plain.next_id
    → IsNobodys h.plain.rows h.plain.parts id → (tells ≡ true → map.contains_key h.kept.loose id ≡ true)
    → (tells ≡ true → MayCome (Sealed id text) h.kept k)
    → IsSound s tells h → IsSound s tells (record { plain = record h.plain { next_id = next }; kept = k; faults = f })
seal_sound s tells h id text k f next same n loose may a =
    subst (λ i. IsSound s tells (record { plain = record h.plain { next_id = i }; kept = k; faults = f })) (sym same) (record {
      told = a.told;
      plain = a.plain;
      kept = λ told. record {
        holds = may_holds h.plain.rows h.kept k id text (may told) (nobodys_unnamed h.plain.rows h.plain.parts id n) (a.kept told).holds;
        loose = record {
          each = λ path r i not at.
              may_loose h.kept k id text i (may told) (λ e. n.each path r (at ∙ ap (λ j. Some j) e))
              ((a.kept told).loose.each path r i not at);
        };
        faithful = may_faithful s h.kept k id text (may told) (a.kept told).faithful (loose told);
      };
    })

pub sealed_there : (k l : Kept) (id : ℕ) (text : List ℕ) → Comes (Sealed id text) k l → map.get l.bodies id ≡ Some text
sealed_there k l id text is = ap (λ (x : Kept). map.get x.bodies id) is ∙ body_there k id text

-- the rows have their files
pub seal_files : {S : Type 0} (s : SiteGhosts S) (tells : Bool) (h new : House) (id : ℕ) (text : List ℕ) → IsSound s tells h
    → tells ≡ true → map.contains_key h.kept.loose id ≡ true → new.plain.rows ≡ h.plain.rows → MayCome (Sealed id text) h.kept new.kept
    → KeepsFiles s h new
seal_files s tells h new id text a told loose same may =
    let sealed = sealed_of s h.kept (a.kept told).faithful in (
      seal_stops h.kept id text sealed loose new.kept may (IsFile s) h.plain.rows h.plain.rows,
      λ f. subst (λ m. IsExact m (stored new.kept)) (sym same) (mid_exact h.kept id text sealed loose new.kept may h.plain.rows f),
    )

-- ---- the head of an import

pub import_head : (path : List ℕ) (id : ℕ) (hash : Hash) (size : ℕ) (now : Moment) → path_refusal path ≡ None → IsHash hash
    → now.0 < 2 ^ 64 → size ≤ 2 ^ 41
    → IsHead (head_of path (imported id hash size now))
import_head path id hash size now good typed moment small = record {
  typed = record { path = good; label = typed; tag = tt; checked = moment; mark = tt };
  bounded = record { label = refl; size = small; modified = tt };
}

pub import_file : {S : Type 0} (s : SiteGhosts S) (path : List ℕ) (id : ℕ) (hash : Hash) (size : ℕ) (now : Moment) (text : List ℕ)
    → IsImport hash size text
    → IsFile s (core_of (head_of path (imported id hash size now))) text
import_file s path id hash size now text is = (is, record { total = refl; from = record { tag = refl; modified = refl; total = refl } })

pub import_body : (k : Kept) (id : ℕ) (hash : Hash) (size : ℕ) (now : Moment) → HasImport k id hash size
    → HasBody k (imported id hash size now)
import_body k id hash size now i = record { text = i.text; body = i.body; size = i.file.sized }

-- ---- room for the row

reserved_case : (rows : Rows) (path : List ℕ) (made : Bool) → made ≡ not (map.contains_key rows path) → (q : List ℕ)
    → whole_at (reserved made rows path) q ≡ whole_at rows q
reserved_case rows path false is q = refl
reserved_case rows path true is q = same_wholes rows path bare (sym (ap whole_in (none_at rows path is))) q
  where
    not_true : (b : Bool) → true ≡ not b → b ≡ false
    not_true true e = absurd (true≢false e)
    not_true false e = refl

    none_at : (m : Rows) (k : List ℕ) → true ≡ not (map.contains_key m k) → map.get m k ≡ None
    none_at m k e = none_is (map.get m k) (not_true (map.contains_key m k) e)

pub reserved_same : (rows m : Rows) (path : List ℕ) (made : Bool) → m ≡ reserved made rows path → made ≡ not (map.contains_key rows path)
    → (q : List ℕ) → whole_at m q ≡ whole_at rows q
reserved_same rows m path made is made_is q = ap (λ n. whole_at n q) is ∙ reserved_case rows path made made_is q

not_true : (b : Bool) → true ≡ not b → b ≡ false
not_true true e = absurd (true≢false e)
not_true false e = refl

not_false : (b : Bool) → false ≡ not b → b ≡ true
not_false true e = refl
not_false false e = absurd (true≢false (sym e))

-- it is there
row_case : (rows : Rows) (path : List ℕ) (made : Bool) → made ≡ not (map.contains_key rows path)
    → map.contains_key (reserved made rows path) path ≡ true
row_case rows path true is = ap is_some (got_own rows path bare)
row_case rows path false is = not_false (map.contains_key rows path) is

pub reserved_row : (rows m : Rows) (path : List ℕ) (made : Bool) → m ≡ reserved made rows path → made ≡ not (map.contains_key rows path)
    → map.contains_key m path ≡ true
reserved_row rows m path made is made_is = ap (λ n. map.contains_key n path) is ∙ row_case rows path made made_is

-- filled, it is as if there had been no room to make
with_case : (rows : Rows) (path : List ℕ) (w : Whole) (made : Bool) → made ≡ not (map.contains_key rows path)
    → with_whole (reserved made rows path) path (Some w) ≡ with_whole rows path (Some w)
with_case rows path w false is = refl
with_case rows path w true is =
    let none : map.get rows path ≡ None = none_is (map.get rows path) (not_true (map.contains_key rows path) is) in
    let own : out_at (map.insert rows path bare) path ≡ None = ap out_in (got_own rows path bare) in
    let m = map.insert rows path bare in
    ap (λ o. map.insert m path (record { whole = Some w; out = o })) (own ∙ sym (ap out_in none))
    ∙ twice rows path bare (record { whole = Some w; out = out_at rows path })

-- ---- what is left once room that wasn't filled is taken back

back_case : (rows : Rows) (path : List ℕ) (made : Bool) → made ≡ not (map.contains_key rows path)
    → released (made && not (is_some (whole_at (reserved made rows path) path))) (reserved made rows path) path ≡ rows
back_case rows path false is = refl
back_case rows path true is =
    let none : map.get rows path ≡ None = none_is (map.get rows path) (not_true (map.contains_key rows path) is) in
    let m = map.insert rows path bare in
    let empty : is_some (whole_at m path) ≡ false = ap is_some (own_whole rows path bare) in
    ap (λ b. cond (not b) (map.remove m path) m) empty ∙ undone rows path bare none

filled_case : (made : Bool) (m : Rows) (path : List ℕ) → is_some (whole_at m path) ≡ true → released
    (made && not (is_some (whole_at m path))) m path ≡ m
filled_case false m path has = refl
filled_case true m path has = ap (λ b. cond (not b) (map.remove m path) m) has

pub left_old : (rows m new : Rows) (path : List ℕ) (made go : Bool) → made ≡ not (map.contains_key rows path) → m ≡ reserved made rows path
    → go ≡ (made && not (is_some (whole_at m path))) → new ≡ released go m path → new ≡ rows
left_old rows m new path made go made_is is going done =
    done ∙ ap (λ b. released b m path) going ∙ ap (λ n. released (made && not (is_some (whole_at n path))) n path) is
    ∙ back_case rows path made made_is

pub left_new : (rows mid m new : Rows) (path : List ℕ) (w : Whole) (made go : Bool) → made ≡ not (map.contains_key rows path)
    → mid ≡ reserved made rows path
    → m ≡ with_whole mid path (Some w) → go ≡ (made && not (is_some (whole_at m path))) → new ≡ released go m path
    → new ≡ with_whole rows path (Some w)
left_new rows mid m new path w made go made_is mid_is is going done =
    let has : is_some (whole_at m path) ≡ true = ap (λ n. is_some (whole_at n path)) is ∙ ap is_some
    (own_whole mid path (record { whole = Some w; out = out_at mid path })) in
    done ∙ ap (λ b. released b m path) going ∙ filled_case made m path has ∙ is ∙ ap (λ n. with_whole n path (Some w)) mid_is
    ∙ with_case rows path w made made_is

-- ---- what is kept

keep_case : (parts : Parts) (path q : List ℕ) (b : Bool) → tie q path ≡ b → map.get parts q ≡ cond b (map.get parts path) (map.get parts q)
keep_case parts path q true t = ap (map.get parts) (tied q path t)
keep_case parts path q false t = refl

len_case : (b : Bool) (n limit : ℕ) → (not b && nat_le limit n) ≡ false → n ≤ limit → cond b n (n + 1) ≤ limit
len_case true n limit room few = few
len_case false n limit room few = let e : nat_le limit n ≡ false = room in grind (arith, e)

module _ {S : Type 0} (s : SiteGhosts S) (tells : Bool) (p : Plain) (path : List ℕ) (id : ℕ) (hash : Hash) (size : ℕ) (now : Moment)
    (a : IsPlain s tells p)
    (n : IsNobodys p.rows p.parts id) (low : id < p.next_id) (head : IsHead (head_of path (imported id hash size now)))
    (room : is_full (spot_at p path) ≡ false) where
  abbrev w : Whole
  w = imported id hash size now

  abbrev row : Row
  row = record { whole = Some w; out = out_at p.rows path }

  changes : Changes p.rows (with_whole p.rows path (Some w)) p.parts p.parts path (Some row) (map.get p.parts path)
  changes = record { rows_at = λ q. got-insert p.rows path row q; parts_at = λ q. keep_case p.parts path q (tie q path) refl }

  some_is : {X : Type 0} (x y : X) → Some x ≡ Some y → x ≡ y
  some_is x y is = ap (λ o. unwrap_or o x) is

  -- an id of the new row is the import's, or was there in the same role
  kind : (r : Role) (i : ℕ) → id_in (Some row) (map.get p.parts path) r ≡ Some i → ((r ≡ Held) × (id ≡ i)) ⊎
      (id_at p.rows p.parts path r ≡ Some i)
  kind Held i at = inl (refl, some_is id i at)
  kind Fresh i at = inr at
  kind Carried i at = inr at
  kind Resting i at = inr at

  below_by : (r : Role) (i : ℕ) → ((r ≡ Held) × (id ≡ i)) ⊎ (id_at p.rows p.parts path r ≡ Some i) → i < p.next_id
  below_by r i (inl e) = subst (λ j. j < p.next_id) e.1 low
  below_by r i (inr at) = a.below.each path r i at

  foreign_by : (r t : Role) (q : List ℕ) (i : ℕ) → q ≢ path → ((r ≡ Held) × (id ≡ i)) ⊎ (id_at p.rows p.parts path r ≡ Some i)
      → id_at p.rows p.parts q t ≢ Some i
  foreign_by r t q i off (inl e) at = n.each q t (at ∙ ap (λ j. Some j) (sym e.1))
  foreign_by r t q i off (inr at) bt = off (a.apart.each q path t r i bt at).0

  own_by : (r t : Role) (i : ℕ) → ((r ≡ Held) × (id ≡ i)) ⊎ (id_at p.rows p.parts path r ≡ Some i)
      → ((t ≡ Held) × (id ≡ i)) ⊎ (id_at p.rows p.parts path t ≡ Some i) → r ≡ t
  own_by r t i (inl e) (inl f) = e.0 ∙ sym f.0
  own_by r t i (inl e) (inr at) = absurd (n.each path t (at ∙ ap (λ j. Some j) (sym e.1)))
  own_by r t i (inr at) (inl f) = absurd (n.each path r (at ∙ ap (λ j. Some j) (sym f.1)))
  own_by r t i (inr at) (inr bt) = (a.apart.each path path r t i at bt).1

  fits : FitsAt s tells p.next_try p.next_id p.rows p.parts path (Some row) (map.get p.parts path)
  fits = record {
    heads = λ x is. subst (λ v. IsHead (head_of path v)) (some_is w x is) head;
    tries = λ x is. subst (λ (v : Whole). NamesBelow p.next_try v.label) (some_is w x is) tt;
    part_tries = λ x is. a.tries.part path x is;
    out_tries = λ o is. a.tries.out path o is;
    below = λ r i at. below_by r i (kind r i at);
    foreign = λ r t q i off at. foreign_by r t q i off (kind r i at);
    own = λ r t i x y. own_by r t i (kind r i x) (kind t i y);
    parked = λ x is. a.stand.parked path x is;
    rowed = λ x is. refl;
    free = λ x is. a.stand.free path x is;
  }

  put_plain : IsPlain s tells (put_in path w p)
  put_plain = changed_plain p.rows (with_whole p.rows path (Some w)) p.parts p.parts path (Some row)
      (map.get p.parts path) changes s tells p.limit p.rules
      p.next_try p.next_id p.next_try p.next_id fits a (omega arith) (omega arith)
      (subst (λ m. m ≤ p.limit) (sym (map.len-insert nat_list_cmp_total p.rows path row))
      (len_case (map.contains_key p.rows path) (map.len p.rows) p.limit room a.few))
      a.few_parts

  id_same : (q : List ℕ) (r : Role) → r ≢ Held → id_at (with_whole p.rows path (Some w)) p.parts q r ≡ id_at p.rows p.parts q r
  id_same q Held not = absurd (not refl)
  id_same q Fresh not = ap (option_map (λ (o : Load). o.fresh)) (same_outs p.rows path row refl q)
  id_same q Carried not = ap (λ (o : Option Load). join o (λ l. l.part)) (same_outs p.rows path row refl q)
  id_same q Resting not = refl

  put_loose : (k : Kept) → AreLoose k p.rows p.parts → AreLoose k (with_whole p.rows path (Some w)) p.parts
  put_loose k loose = record { each = λ q r i not at. loose.each q r i not (sym (id_same q r not) ∙ at) }

-- the rows are the old ones or the new ones
pub put_sound : {S : Type 0} (s : SiteGhosts S) (tells : Bool) (h : House) (path : List ℕ) (id : ℕ) (hash : Hash) (size : ℕ)
    (now : Moment) (k : Kept) (f : Faults)
    (m : Rows) (next : ℕ) → IsSound s tells h → IsNobodys h.plain.rows h.plain.parts id → id < h.plain.next_id
    → IsHead (head_of path (imported id hash size now))
    → is_full (spot_at h.plain path) ≡ false → next ≡ h.plain.next_id → (tells ≡ true → Holds m (stored k))
    → (tells ≡ true → KeepsLoose (both_of (id_in_whole (whole_at h.plain.rows path))) h.kept k) → (tells ≡ true → IsFaithful s k)
    → (m ≡ h.plain.rows) ⊎ (m ≡ with_whole h.plain.rows path (Some (imported id hash size now)))
    → IsSound s tells (record { plain = record h.plain { rows = m; next_id = next }; kept = k; faults = f })
put_sound s tells h path id hash size now k f m next a n low head room same holds loose faithful (inl is) =
    let P : Rows → ℕ → Type 0 = λ x i. IsSound s tells
    (record { plain = record h.plain { rows = x; next_id = i }; kept = k; faults = f }) in
    subst (λ x. P x next) (sym is) (subst (P h.plain.rows) (sym same) (record {
      told = a.told;
      plain = a.plain;
      kept = λ told. record {
        holds = subst (λ x. Holds x (stored k)) is (holds told);
        loose = same_loose h.plain path s tells a.plain h.kept k (a.kept told).loose (loose told);
        faithful = faithful told;
      };
    }))
put_sound s tells h path id hash size now k f m next a n low head room same holds loose faithful (inr is) =
    let new : Rows = with_whole h.plain.rows path (Some (imported id hash size now)) in
    let P : Rows → ℕ → Type 0 = λ x i. IsSound s tells
    (record { plain = record h.plain { rows = x; next_id = i }; kept = k; faults = f }) in
    subst (λ x. P x next) (sym is) (subst (P new) (sym same) (record {
      told = a.told;
      plain = put_plain s tells h.plain path id hash size now a.plain n low head room;
      kept = λ told. record {
        holds = subst (λ x. Holds x (stored k)) is (holds told);
        loose = put_loose s tells h.plain path id hash size now a.plain n low head room k
            (same_loose h.plain path s tells a.plain h.kept k (a.kept told).loose (loose told));
        faithful = faithful told;
      };
    }))

-- the import is as its head says
came_file : {S : Type 0} (s : SiteGhosts S) (path : List ℕ) (id : ℕ) (hash : Hash) (size : ℕ) (now : Moment) (k : Kept)
    → HasImport k id hash size → (core : Core) (text : List ℕ) → whole_comes path (imported id hash size now) k core text
    → IsFile s core text
came_file s path id hash size now k i core other comes =
    let same : i.text ≡ other = ap (λ o. unwrap_or o i.text) (sym i.body ∙ comes.1) in
    subst (λ x. IsFile s x other) (sym comes.0)
    (subst (IsFile s (core_of (head_of path (imported id hash size now)))) same (import_file s path id hash size now i.text i.file))

with_same : (rows mid : Rows) (path : List ℕ) (w : Whole) → ((q : List ℕ) → whole_at mid q ≡ whole_at rows q) → (q : List ℕ)
    → whole_at (with_whole rows path (Some w)) q ≡ whole_at (with_whole mid path (Some w)) q
with_same rows mid path w same q = whole-insert rows path (record { whole = Some w; out = out_at rows path }) q
    ∙ ap (cond (tie q path) (Some w)) (sym (same q)) ∙ sym (whole-insert mid path (record { whole = Some w; out = out_at mid path }) q)

-- at any stop
pub put_stops : {S : Type 0} (s : SiteGhosts S) (path : List ℕ) (id : ℕ) (hash : Hash) (size : ℕ) (now : Moment) (rows mid : Rows)
    (k l : Kept)
    → HasImport k id hash size → ((q : List ℕ) → whole_at mid q ≡ whole_at rows q)
    → LeavesOnly (IsBetween (whole_comes path (imported id hash size now) k) mid (with_whole mid path (Some (imported id hash size now)))
    (stored k)) k l
    → LeavesOnly (IsBetween (IsFile s) rows (with_whole rows path (Some (imported id hash size now))) (stored k)) k l
put_stops s path id hash size now rows mid k l i same left =
    let w = imported id hash size now in
    stops_alike (whole_comes path w k) (IsFile s) mid rows (with_whole mid path (Some w)) (with_whole rows path (Some w)) (stored k) k l
    (λ q. sym (same q)) (with_same rows mid path w same) (came_file s path id hash size now k i) left

-- a start finds the new rows
pub put_found : (path : List ℕ) (w : Whole) (rows mid m new : Rows) (k l : Kept) → ((q : List ℕ) → whole_at mid q ≡ whole_at rows q)
    → new ≡ with_whole rows path (Some w) → m ≡ with_whole mid path (Some w) → (IsExact mid (stored k) → IsExact m (stored l))
    → IsExact rows (stored k) → IsExact new (stored l)
put_found path w rows mid m new k l same done is exact found =
    subst (λ n. IsExact n (stored l)) (sym done)
    (alike_exact (with_whole mid path (Some w)) (with_whole rows path (Some w)) (with_same rows mid path w same) (stored l)
    (subst (λ n. IsExact n (stored l)) is (exact (alike_exact rows mid same (stored k) found))))

pub put_faithful : {S : Type 0} (s : SiteGhosts S) (path : List ℕ) (id : ℕ) (hash : Hash) (size : ℕ) (now : Moment) (rows new : Rows)
    (k l : Kept)
    → IsFaithful s k → HasImport k id hash size → LeavesOnly (IsBetween (whole_comes path (imported id hash size now) k) rows new
    (stored k)) k l
    → (AreSealed k → AreSealed l) → IsFaithful s l
put_faithful s path id hash size now rows new k l f i left sealed =
    from_so s l (faithful_between (IsFile s) (whole_comes path (imported id hash size now) k) rows new k l left
    (came_file s path id hash size now k i) (sealed (sealed_of s k f)) (to_so s k f))

-- ---- the rows that are left in the end

module _ (rows mid m new : Rows) (path : List ℕ) (w : Whole) (made go : Bool) (made_is : made ≡ not (map.contains_key rows path))
    (mid_is : mid ≡ reserved made rows path)
    (going : go ≡ (made && not (is_some (whole_at m path)))) (done : new ≡ released go m path) where
  pub final : (m ≡ mid) ⊎ (m ≡ with_whole mid path (Some w)) → (new ≡ rows) ⊎ (new ≡ with_whole rows path (Some w))
  final (inl is) = inl (left_old rows m new path made go made_is (is ∙ mid_is) going done)
  final (inr is) = inr (left_new rows mid m new path w made go made_is mid_is is going done)

  pub final_ok : m ≡ with_whole mid path (Some w) → new ≡ with_whole rows path (Some w)
  final_ok is = left_new rows mid m new path w made go made_is mid_is is going done

  pub final_holds : (t : Stored) → (m ≡ mid) ⊎ (m ≡ with_whole mid path (Some w)) → Holds m t → Holds new t
  final_holds t (inl is) a = subst (λ n. Holds n t) (sym (left_old rows m new path made go made_is (is ∙ mid_is) going done))
      (record { each = λ p x at. (subst (λ n. Holds n t) is a).each p x (reserved_same rows mid path made mid_is made_is p ∙ at) })
  final_holds t (inr is) a = subst (λ n. Holds n t)
      (is ∙ ap (λ n. with_whole n path (Some w)) mid_is ∙ with_case rows path w made made_is
      ∙ sym (left_new rows mid m new path w made go made_is mid_is is going done)) a

pub put_right : {X : Type 0} {m mid a b : X} → a ≡ b → (m ≡ mid) ⊎ (m ≡ a) → (m ≡ mid) ⊎ (m ≡ b)
put_right into (inl is) = inl is
put_right into (inr is) = inr (is ∙ into)

pub either_as : {A B C D : Type 0} → A ⊎ B → (A → C) → (B → D) → C ⊎ D
either_as (inl a) f g = inl (f a)
either_as (inr b) f g = inr (g b)

-- the desk's own part with other rows
pub put_as : (p : Plain) (m : Rows) (next : ℕ) (new : Rows) → m ≡ new → next ≡ p.next_id → ◌≡◌ {A = Plain}
    (record p { rows = m; next_id = next }) (record p { rows = new })
put_as p m next new is same =
    let Q : Rows → ℕ → Plain = λ x i. record p { rows = x; next_id = i } in ap (λ x. Q x next) is ∙ ap (Q new) same
