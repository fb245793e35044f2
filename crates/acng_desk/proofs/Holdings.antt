-- What a desk keeps where a new whole body comes to be held.
use Rattle.std.proofs.Common.{◌≡◌, ◌≢◌, ◌⊎◌, ℕ, Bool, true, false, List, Some, None, Option, is_some, cond}
use Rattle.std.proofs.Common.{unwrap_or, refl, sym, ap, subst, ◌∙◌, inl, inr}
use Rattle.std.specs.Option.{option_map}
use Rattle.std.specs.FinMap as map
use Rattle.acng_site.specs.declared.site.Site.{Ghosts as SiteGhosts}
use Rattle.acng_head.specs.Records.{IsHead}
use Rattle.acng_keeper.specs.declared.effect.Effect.TheVariants.{Sealed}
use Rattle.acng_keeper.specs.Kept.{Kept, Stored, stored, MayCome}
use Rattle.acng_keeper.specs.Slips.{Faults}
use Rattle.acng_grow.specs.Faithful.{IsFaithful}
use Rattle.acng_rows.specs.declared.row.Whole.{Whole}
use Rattle.acng_rows.specs.Rows.{Rows, Load, head_of, whole_at, out_at, with_whole, with_out, closed, id_in_whole}
use Rattle.acng_rows.specs.Goods.{Holds, IsExact}
use Rattle.acng_rows.specs.Removals.{both_of, IsOff, KeepsLoose}
use Rattle.acng_rows.specs.Starts.{NamesBelow}
use Rattle.acng_rows.proofs.Points.{tie, tied, got_own}
use Rattle.acng_rows.proofs.Wholes.{same_wholes, own_whole, twice, none_is, whole-remove}
use Rattle.acng_rows.proofs.Seals.{alike_exact}
use Rattle.acng_desk.specs.House.{Parked, Parts, Plain, House}
use Rattle.acng_desk.specs.Keeps.{Role, Held, Fresh, Carried, Resting, join, id_at, AreLoose, IsPlain, IsSound}
use Rattle.acng_desk.specs.Settles.{left_rows, left_with, HasOwn}
use Rattle.acng_desk.proofs.Discards.{nobodys_unnamed}
use Rattle.acng_desk.proofs.Changes.{no_some, Here, There, here_id, there_id, found}
use Rattle.acng_desk.proofs.Lefts.{row_left, left_changes, left_plain, bare_out, out_own, own_had, Leaving, close_sound, kind_of}
use Rattle.acng_desk.proofs.Owns.{close_freed}
use Rattle.acng_desk.proofs.Seals.{may_faithful, may_holds, may_loose}

pub own_loose : (k : Kept) (rows : Rows) (parts : Parts) (path : List ℕ) (id : ℕ) → AreLoose k rows parts → HasOwn (out_at rows path) id
    → map.contains_key k.loose id ≡ true
own_loose k rows parts path id a own = by (out_at rows path) refl own
  where
    by : (o : Option Load) → out_at rows path ≡ o → HasOwn o id → map.contains_key k.loose id ≡ true
    by None e none = absurd none
    by (Some o) e (inl is) = a.each path Fresh id (λ q. cc) (ap (option_map (λ (l : Load). l.fresh)) e ∙ ap (λ n. Some n) is)
    by (Some o) e (inr is) = a.each path Carried id (λ q. cc) (ap (λ (x : Option Load). join x (λ (l : Load). l.part)) e ∙ is)

-- a body of the ticket may have been sealed, and the ticket comes in
pub close_sealed : {S : Type 0} (s : SiteGhosts S) (tells : Bool) (h : House) (path : List ℕ) (id : ℕ) (text : List ℕ) (k : Kept)
    (f : Faults)
    → HasOwn (out_at h.plain.rows path) id → (tells ≡ true → MayCome (Sealed id text) h.kept k) → IsSound s tells h
    → IsSound s tells (record { plain = left_with path (whole_at h.plain.rows path) None h.plain; kept = k; faults = f })
close_sealed s tells h path id text k f own may a =
    let out : is_some (out_at h.plain.rows path) ≡ true = out_own (out_at h.plain.rows path) id own in
    let c = close_sound s tells h path out a in
    let n = close_freed s tells h path id a own in
    record {
      told = a.told;
      plain = c.plain;
      kept = λ told. record {
        holds = may_holds (left_with path (whole_at h.plain.rows path) None h.plain).rows h.kept k id text (may told)
            (nobodys_unnamed (left_with path (whole_at h.plain.rows path) None h.plain).rows
            (left_with path (whole_at h.plain.rows path) None h.plain).parts id n) (c.kept told).holds;
        loose = record {
          each = λ q r i not at. may_loose h.kept k id text i (may told) (λ e. n.each q r (at ∙ ap (λ m. Some m) e))
              ((c.kept told).loose.each q r i not at);
        };
        faithful = may_faithful s h.kept k id text (may told) (a.kept told).faithful (own_loose h.kept h.plain.rows h.plain.parts path id
            (a.kept told).loose own);
      };
    }

-- ---- the row of the new whole body

-- taken in after it was filled
pub closed_with : (rows : Rows) (path : List ℕ) (w : Whole) → closed (with_whole rows path (Some w)) path false ≡ left_rows rows path
    (Some w) false
closed_with rows path w =
    let m = with_whole rows path (Some w) in
    let own : whole_at m path ≡ Some w = own_whole rows path (record { whole = Some w; out = out_at rows path }) in
    let there : is_some (whole_at m path) ≡ true = ap is_some own in
    ap (λ b. cond b (with_out m path None) (map.remove m path)) there
    ∙ ap (λ x. map.insert m path (record { whole = x; out = None })) own
    ∙ twice rows path (record { whole = Some w; out = out_at rows path }) (record { whole = Some w; out = None })

none_case : (rows : Rows) (path q : List ℕ) (b : Bool) → tie q path ≡ b → whole_at rows path ≡ None
    → cond b None (whole_at rows q) ≡ whole_at rows q
none_case rows path q true t none = sym none ∙ ap (whole_at rows) (sym (tied q path t))
none_case rows path q false t none = refl

pub wholes_by : (m : Rows) (path q : List ℕ) (b : Bool) → is_some (whole_at m path) ≡ b
    → whole_at (cond b (with_out m path None) (map.remove m path)) q ≡ whole_at m q
wholes_by m path q true is = same_wholes m path (record { whole = whole_at m path; out = None }) refl q
wholes_by m path q false is = whole-remove m path q ∙ none_case m path q (tie q path) refl (none_is (whole_at m path) is)

pub closed_holds : (m : Rows) (path : List ℕ) (t : Stored) → Holds m t → Holds (closed m path false) t
closed_holds m path t a = record { each = λ q w at. a.each q w (sym (wholes_by m path q (is_some (whole_at m path)) refl) ∙ at) }

pub exact_closed : (m : Rows) (path : List ℕ) (t : Stored) → IsExact m t → IsExact (closed m path false) t
exact_closed m path t a = alike_exact m (closed m path false) (λ q. wholes_by m path q (is_some (whole_at m path)) refl) t a

-- an id of another path is off the old one
off_both : (o : Option Whole) (id : ℕ) → ((w : Whole) → o ≡ Some w → w.id ≢ id) → IsOff id (both_of (id_in_whole o))
off_both None id off = tt
off_both (Some w) id off = ((λ e. off w refl (sym e)), ((λ e. off w refl (sym e)), tt))

module _ {S : Type 0} (s : SiteGhosts S) (tells : Bool) (h : House) (path : List ℕ) (w : Option Whole) (id : ℕ) (text : List ℕ) (k l : Kept)
    (a : IsSound s tells h) (own : HasOwn (out_at h.plain.rows path) id) (told : tells ≡ true) (may : MayCome (Sealed id text) h.kept k)
    (others : KeepsLoose (both_of (id_in_whole (whole_at h.plain.rows path))) k l) where
  abbrev p : Plain
  p = h.plain

  out : is_some (out_at p.rows path) ≡ true
  out = out_own (out_at p.rows path) id own

  bare : map.get p.parts path ≡ None
  bare = bare_out s tells p path a.plain out

  there_loose : (q : List ℕ) (r : Role) (i : ℕ) → q ≢ path → r ≢ Held → id_at p.rows p.parts q r ≡ Some i
      → map.contains_key l.loose i ≡ true
  there_loose q r i off not at =
      let was : map.contains_key h.kept.loose i ≡ true = (a.kept told).loose.each q r i not at in
      let had = own_had p path id own in
      let other : i ≢ id = λ e. off (a.plain.apart.each q path r had.role i at (had.at ∙ ap (λ n. Some n) (sym e))).0 in
      let here : map.contains_key k.loose i ≡ true = may_loose h.kept k id text i may other was in
      others.each i (off_both (whole_at p.rows path) i
      (λ x is e. off (a.plain.apart.each q path r Held i at (ap (option_map (λ (v : Whole). v.id)) is ∙ ap (λ n. Some n) e)).0)) ∙ here

  loose_by : (q : List ℕ) (r : Role) (i : ℕ) → r ≢ Held
      → Here (left_rows p.rows path w false) p.parts path (row_left w None) None q
      ⊎ There p.rows (left_rows p.rows path w false) p.parts p.parts path q
      → id_at (left_rows p.rows path w false) p.parts q r ≡ Some i → map.contains_key l.loose i ≡ true
  loose_by q r i not (inl x) at = here_by (kind_of w None r i (here_id p.rows (left_rows p.rows path w false) p.parts p.parts path
      (row_left w None) None q r i x at)).of
    where
      here_by : ((v : Whole) × (w ≡ Some v) × (v.id ≡ i) × (r ≡ Held)) ⊎ ((v : Parked) × (None ≡ Some v) × (v.handle.number ≡ i)
          × (r ≡ Resting)) → map.contains_key l.loose i ≡ true
      here_by (inl y) = absurd (not y.3)
      here_by (inr y) = no_some y.0 y.1
  loose_by q r i not (inr x) at = there_loose q r i x.isnt not (there_id p.rows (left_rows p.rows path w false) p.parts p.parts path q r i x
      at)

  pub held_loose : AreLoose l (left_rows p.rows path w false) p.parts
  held_loose = record {
    each = λ q r i not at. loose_by q r i not
        (found p.rows (left_rows p.rows path w false) p.parts p.parts path (row_left w None) None (left_changes p path w None bare) q) at;
  }

pub held_leaving : {S : Type 0} (s : SiteGhosts S) (tells : Bool) (p : Plain) (path : List ℕ) (w : Whole) → IsPlain s tells p
    → HasOwn (out_at p.rows path) w.id
    → IsHead (head_of path w) → NamesBelow p.next_try w.label → Leaving s tells p path (Some w) None
held_leaving s tells p path w a own head below = record {
  out = out_own (out_at p.rows path) w.id own;
  heads = λ x is. subst (λ v. IsHead (head_of path v)) (ap (λ o. unwrap_or o w) is) head;
  tries = λ x is. subst (λ (v : Whole). NamesBelow p.next_try v.label) (ap (λ o. unwrap_or o w) is) below;
  whole_had = λ x is. own_had p path x.id (subst (λ (v : Whole). HasOwn (out_at p.rows path) v.id) (ap (λ o. unwrap_or o w) is) own);
  part_had = λ x is. no_some x is;
  part_tries = λ x is. no_some x is;
  parked = λ x is. no_some x is;
  differ = λ x y at is. no_some y is;
  room = λ x is. no_some x is;
}

-- the row is the old one or the new one
pub hold_sound : {S : Type 0} (s : SiteGhosts S) (tells : Bool) (h : House) (path : List ℕ) (w : Whole) (text : List ℕ) (k l : Kept)
    (f : Faults) (m : Rows)
    → IsSound s tells h → HasOwn (out_at h.plain.rows path) w.id → IsHead (head_of path w) → NamesBelow h.plain.next_try w.label
    → (tells ≡ true → MayCome (Sealed w.id text) h.kept k)
    → (tells ≡ true → KeepsLoose (both_of (id_in_whole (whole_at h.plain.rows path))) k l)
    → (tells ≡ true → Holds m (stored l)) → (tells ≡ true → IsFaithful s l)
    → (m ≡ h.plain.rows) ⊎ (m ≡ with_whole h.plain.rows path (Some w))
    → IsSound s tells (record { plain = record h.plain { rows = closed m path false }; kept = l; faults = f })
hold_sound s tells h path w text k l f m a own head below may others holds faithful (inl is) =
    let out : is_some (out_at h.plain.rows path) ≡ true = out_own (out_at h.plain.rows path) w.id own in
    let c = close_sound s tells h path out a in
    let P : Rows → Type 0 = λ n. IsSound s tells (record { plain = record h.plain { rows = closed n path false }; kept = l; faults = f }) in
    subst P (sym is) (record {
      told = a.told;
      plain = c.plain;
      kept = λ told. record {
        holds = closed_holds h.plain.rows path (stored l) (subst (λ n. Holds n (stored l)) is (holds told));
        loose = held_loose s tells h path (whole_at h.plain.rows path) w.id text k l a own told (may told) (others told);
        faithful = faithful told;
      };
    })
hold_sound s tells h path w text k l f m a own head below may others holds faithful (inr is) =
    let P : Rows → Type 0 = λ n. IsSound s tells (record { plain = record h.plain { rows = n }; kept = l; faults = f }) in
    let rows : closed m path false ≡ left_rows h.plain.rows path (Some w) false = ap (λ n. closed n path false) is
    ∙ closed_with h.plain.rows path w in
    subst P (sym rows) (record {
      told = a.told;
      plain = left_plain s tells h.plain path (Some w) None a.plain (held_leaving s tells h.plain path w a.plain own head below);
      kept = λ told. record {
        holds = subst (λ n. Holds n (stored l)) rows (closed_holds m path (stored l) (holds told));
        loose = held_loose s tells h path (Some w) w.id text k l a own told (may told) (others told);
        faithful = faithful told;
      };
    })

pub row_held : (rows m : Rows) (path : List ℕ) (w : Whole) → map.contains_key rows path ≡ true → (m ≡ rows)
    ⊎ (m ≡ with_whole rows path (Some w)) → map.contains_key m path ≡ true
row_held rows m path w there (inl is) = ap (λ n. map.contains_key n path) is ∙ there
row_held rows m path w there (inr is) = ap (λ n. map.contains_key n path) is
    ∙ ap is_some (got_own rows path (record { whole = Some w; out = out_at rows path }))
