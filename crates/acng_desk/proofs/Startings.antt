-- What a desk keeps as it is started.
use Rattle.std.proofs.Common.{◌≡◌, ℕ, ◌<◌, ◌≤◌, Bool, true, List, [], ◌∷◌, Some, None, Option, unwrap_or, refl, sym}
use Rattle.std.proofs.Common.{ap, subst, ◌∙◌}
use Rattle.std.specs.Option.{option_map}
use Rattle.std.specs.FinMap as map
use Rattle.acng_site.specs.declared.site.Site.{Ghosts as SiteGhosts}
use Rattle.acng_conf.specs.Settings.{Rules}
use Rattle.acng_head.specs.declared.head.Head.{Head}
use Rattle.acng_head.specs.Records.{record_text}
use Rattle.acng_keeper.specs.Kept.{Kept, Stored, stored, changed_by}
use Rattle.acng_keeper.specs.Images.{Along, IsAlong, LeavesOnly}
use Rattle.acng_keeper.specs.Slips.{Faults}
use Rattle.acng_keeper.specs.Stops.{at_rest, both, last, leaves_along}
use Rattle.acng_grow.specs.Faithful.{IsFaithful}
use Rattle.acng_rows.specs.declared.row.Whole.{Whole}
use Rattle.acng_rows.specs.declared.removal.Removal.{Removal}
use Rattle.acng_rows.specs.Rows.{Rows, Load, whole_at, out_at}
use Rattle.acng_rows.specs.Goods.{Holds, StandsFor, IsGood, WasGood, GoodsStay}
use Rattle.acng_rows.specs.Removals.{effect_of, effects_of, AreUnnamed, KeepsLoose}
use Rattle.acng_rows.specs.Starts.{AreFound, Covers, IsFree, Same}
use Rattle.acng_rows.proofs.Faithful.{faithful_stays}
use Rattle.acng_rows.proofs.Changes.{one_house}
use Rattle.acng_rows.proofs.Removals.{holds_left, stand_along, stand_off, had_head, good_less, goods_left, sealed_left}
use Rattle.acng_rows.proofs.Seals.{alike_list}
use Rattle.acng_rows.proofs.Starts.{stands_held}
use Rattle.acng_desk.specs.House.{Parked, Parts, most_parts}
use Rattle.acng_desk.specs.Keeps.{Role, Held, Fresh, Carried, Resting, join, id_at, IsPlain, IsKept, IsSound}
use Rattle.acng_desk.proofs.Changes.{no_some, later}
use Rattle.acng_desk.proofs.Kepts.{from_so, to_so, sealed_of}
use Rattle.acng_desk.specs.Starts.{IsCleared, ClearsOnly}
use Rattle.acng_desk.specs.Stops.{IsFile}
use Rattle.acng_desk.proofs.Stores.{faithful_same}

-- reading leaves a keeper faithful
pub read_faithful : {S : Type 0} (s : SiteGhosts S) (k l : Kept) → Same k l → IsFaithful s k → IsFaithful s l
read_faithful s k l same f = faithful_same s k l same.stored_is (λ id has. ap (λ m. map.contains_key m id) same.loose_is) f

-- and removals do
pub gone_faithful : {S : Type 0} (s : SiteGhosts S) (list : List Removal) (k l : Kept)
    → LeavesOnly (IsAlong (effects_of list) (stored k)) k l → KeepsLoose list k l
    → IsFaithful s k → IsFaithful s l
gone_faithful s list k l left others f = from_so s l (faithful_stays (IsFile s) k l (goods_left list k l left)
    (sealed_left list k l left others (sealed_of s k f)) (to_so s k f))

module _ (next : ℕ) (rows : Rows) (parts : Parts) (found : AreFound next rows) (empty : (q : List ℕ) → map.get parts q ≡ None) where
  no_out : {P : Type 0} (q : List ℕ) (o : Load) → out_at rows q ≡ Some o → P
  no_out q o at = no_some o (sym (found.outs q) ∙ at)

  no_part : {P : Type 0} (q : List ℕ) (x : Parked) → map.get parts q ≡ Some x → P
  no_part q x at = no_some x (sym (empty q) ∙ at)

  -- the ids are those of whole bodies
  record Own (q : List ℕ) (r : Role) (id : ℕ) : Type 0 where
    whole : Whole
    at : whole_at rows q ≡ Some whole
    is : whole.id ≡ id
    held : r ≡ Held

  own_by : (q : List ℕ) (o : Option Whole) (id : ℕ) → whole_at rows q ≡ o → option_map (λ (w : Whole). w.id) o ≡ Some id → Own q Held id
  own_by q None id e at = no_some id at
  own_by q (Some w) id e at = record { whole = w; at = e; is = ap (λ (o : Option ℕ). unwrap_or o id) at; held = refl }

  own : (q : List ℕ) (r : Role) (id : ℕ) → id_at rows parts q r ≡ Some id → Own q r id
  own q Held id at = own_by q (whole_at rows q) id refl at
  own q Fresh id at = no_some id (sym (ap (option_map (λ (o : Load). o.fresh)) (found.outs q)) ∙ at)
  own q Carried id at = no_some id (sym (ap (λ (o : Option Load). join o (λ l. l.part)) (found.outs q)) ∙ at)
  own q Resting id at = no_some id (sym (ap (option_map (λ (x : Parked). x.handle.number)) (empty q)) ∙ at)

  pub start_plain : {S : Type 0} (s : SiteGhosts S) (tells : Bool) (free next_try limit : ℕ) (rules : Rules) → IsFree rows free
      → free ≤ next_try → map.len rows ≤ limit
      → map.len parts ≤ most_parts
      → IsPlain s tells (record { rows = rows; parts = parts; next_try = next_try; next_id = next; limit = limit; rules = rules })
  start_plain s tells free next_try limit rules is more few few_parts = record {
    heads = record { each = found.heads };
    tries = record {
      whole = λ q w at. later free next_try w.label more (is.above q w at);
      part = λ q x at. no_part q x at;
      out = λ q o at. no_out q o at;
    };
    below = record { each = λ q r id at. let o = own q r id at in subst (λ n. n < next) o.is (found.below q o.whole o.at) };
    apart = record {
      each = λ p q r t id x y. let a = own p r id x in let b = own q t id y in
          (found.apart p q a.whole b.whole a.at b.at (a.is ∙ sym b.is), a.held ∙ sym b.held);
    };
    stand = record { parked = λ q x at. no_part q x at; rowed = λ q x at. no_part q x at; free = λ q x at. no_part q x at };
    few = few;
    few_parts = few_parts;
  }

  pub start_kept : {S : Type 0} (s : SiteGhosts S) (free next_try limit : ℕ) (rules : Rules) (k l : Kept) → Holds rows (stored l)
      → IsFaithful s l
      → IsKept s (record { rows = rows; parts = parts; next_try = next_try; next_id = next; limit = limit; rules = rules }) l
  start_kept s free next_try limit rules k l holds f = record {
    holds = holds;
    loose = record { each = λ q r id not at. absurd (not (own q r id at).held) };
    faithful = f;
  }

-- rows stand for what is there while what they don't name goes
pub still_stands : (rows : Rows) (list : List Removal) (k l : Kept) → AreUnnamed rows list → StandsFor rows (stored k)
    → LeavesOnly (IsAlong (effects_of list) (stored k)) k l
    → StandsFor rows (stored l)
still_stands rows list k l none stands left =
    last (StandsFor rows) k l (leaves_along (StandsFor rows) (effects_of list) k l (stand_along rows list (stored k) none stands) left)

pub start_sound : {S : Type 0} (s : SiteGhosts S) (tells : Bool) (next : ℕ) (rows : Rows) (parts : Parts) (free next_try limit : ℕ)
    (rules : Rules) (list : List Removal)
    (k l : Kept) (f : Faults) (n : ℕ) → n ≡ next → (s.tells ≡ true → tells ≡ true) → AreFound next rows
    → ((q : List ℕ) → map.get parts q ≡ None) → map.len parts ≤ most_parts
    → IsFree rows free → free ≤ next_try → map.len rows ≤ limit → AreUnnamed rows list → (tells ≡ true → StandsFor rows (stored k))
    → (tells ≡ true → LeavesOnly (IsAlong (effects_of list) (stored k)) k l) → (tells ≡ true → KeepsLoose list k l)
    → (tells ≡ true → IsFaithful s k)
    → IsSound s tells (record {
      plain = record { rows = rows; parts = parts; next_try = next_try; next_id = n; limit = limit; rules = rules };
      kept = l;
      faults = f;
    })
start_sound s tells next rows parts free next_try limit rules list k l f n is told found empty few_parts free_is more few none stands left
    others faithful =
    subst (λ i. IsSound s tells (record {
      plain = record {
        rows = rows;
        parts = parts;
        next_try = next_try;
        next_id = i;
        limit =
            limit;
        rules = rules;
      };
      kept = l;
      faults = f;
    })) (sym is)
    (record {
      told = told;
      plain = start_plain next rows parts found empty s tells free next_try limit rules free_is more few few_parts;
      kept = λ t. start_kept next rows parts found empty s free next_try limit rules k l
          (holds_left rows list k l none (stands_held rows (stored k) (stands t)) (left t))
          (gone_faithful s list k l (left t) (others t) (faithful t));
    })

-- what isn't the rows' is listed, after the reading too
pub covers_same : (rows : Rows) (list : List Removal) (k l : Kept) → Same k l → Covers rows list k → Covers rows list l
covers_same rows list k l same a = record {
  heads = λ id has. a.heads id (sym (ap (λ (t : Stored). map.contains_key t.heads id) same.stored_is) ∙ has);
  bodies = λ id has. a.bodies id (sym (ap (λ (t : Stored). map.contains_key t.bodies id) same.stored_is) ∙ has);
  loose = λ id has. a.loose id (sym (ap (λ m. map.contains_key m id) same.loose_is) ∙ has);
}

-- ---- at any stop

cleared_self : (rows : Rows) (s t : Stored) → t ≡ s → StandsFor rows s → IsCleared rows s t
cleared_self rows s t is stands = subst (IsCleared rows s) (sym is) (record {
  goods = record { each = λ id h x g. record { was = h; good = g; alike = refl } };
  heads = λ id h. h;
  stands = stands;
})

pub rest_clears : (k : Kept) → ClearsOnly k k
rest_clears k rows stands = at_rest (IsCleared rows (stored k)) k (cleared_self rows (stored k) (stored k) refl stands)

pub read_clears : (k l : Kept) → Same k l → ClearsOnly k l
read_clears k l same rows stands =
    let rest = at_rest (IsCleared rows (stored k)) k (cleared_self rows (stored k) (stored k) refl stands) in record {
      since = rest.since;
      trail = same.trail_is ∙ rest.trail;
      now = same.stored_is ∙ rest.now;
      each = rest.each;
    }

good_then : (s t : Stored) (id : ℕ) (h : Head) (x : List ℕ) (r : Removal) → GoodsStay s t → IsGood (changed_by (effect_of r) t) id h x
    → WasGood s id h x
good_then s t id h x r a g = a.each id h x (good_less r t id h x g)

cleared_along : (rows : Rows) (list : List Removal) (s t : Stored) → AreUnnamed rows list → IsCleared rows s t
    → Along (IsCleared rows s) (effects_of list) t
unfolding AreUnnamed
cleared_along rows [] s t none a = a
cleared_along rows (r ∷ rs) s t none a = (
  a,
  cleared_along rows rs s (changed_by (effect_of r) t) none.1 (record {
    goods = record { each = λ id h x g. good_then s t id h x r a.goods g };
    heads = λ id h. a.heads id (record { head = h.head; at = had_head r t id (record_text h.head) h.at; reads = h.reads });
    stands = stand_off rows r t none.0 a.stands;
  }),
)

-- what the rows that were found don't name goes
pub gone_clears : (found : Rows) (list : List Removal) (k mid l : Kept) → Same k mid → StandsFor found (stored k) → AreUnnamed found list
    → LeavesOnly (IsAlong (effects_of list) (stored mid)) mid l → ClearsOnly k l
gone_clears found list k mid l same stands none left rows is =
    let unnamed = alike_list found rows (one_house rows found (stored k) is stands) list none in
    both (IsCleared rows (stored k)) k mid l (read_clears k mid same rows is)
    (leaves_along (IsCleared rows (stored k)) (effects_of list) mid l
    (cleared_along rows list (stored k) (stored mid) unnamed (cleared_self rows (stored k) (stored mid) same.stored_is is)) left)
