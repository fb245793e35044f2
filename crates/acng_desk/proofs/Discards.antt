-- What a desk keeps where what is nobody's is removed.
use Rattle.std.proofs.Common.{◌≡◌, ℕ, Bool, true, false, ◌||◌, List, [], ◌∷◌, Some, is_some, sym, ap, subst}
use Rattle.std.proofs.Common.{◌∙◌}
use Rattle.std.specs.Option.{option_map}
use Rattle.std.specs.FinMap as map
use Rattle.acng_site.specs.declared.site.Site.{Ghosts as SiteGhosts}
use Rattle.acng_keeper.specs.declared.effect.Effect.TheVariants.{BodyRemoved}
use Rattle.acng_keeper.specs.Kept.{Kept, Stored, stored, has_body}
use Rattle.acng_keeper.specs.Images.{IsAlong, LeavesOnly, changed}
use Rattle.acng_keeper.specs.Slips.{Faults}
use Rattle.acng_rows.specs.declared.row.Whole.{Whole}
use Rattle.acng_rows.specs.declared.removal.Removal.{Removal}
use Rattle.acng_rows.specs.Rows.{Rows}
use Rattle.acng_rows.specs.Goods.{IsExact, IsUnnamed}
use Rattle.acng_rows.specs.Removals.{effects_of, id_in, loose_by, AreUnnamed, IsOff, KeepsLoose}
use Rattle.acng_rows.proofs.Ids.{less_own}
use Rattle.acng_rows.proofs.Faithful.{faithful_stays}
use Rattle.acng_rows.proofs.Removals.{holds_left, goods_left, sealed_left}
use Rattle.acng_rows.proofs.Seals.{unnamed_stops, exact_left}
use Rattle.acng_desk.specs.House.{Parts, Plain, House}
use Rattle.acng_desk.specs.Keeps.{Role, Held, id_at, AreNobodys, IsNobodys, IsSound, IsKept}
use Rattle.acng_desk.proofs.Kepts.{from_so, to_so, sealed_of}
use Rattle.acng_desk.specs.Stops.{IsFile, KeepsFiles}

pub nobodys_unnamed : (rows : Rows) (parts : Parts) (id : ℕ) → IsNobodys rows parts id → IsUnnamed rows id
nobodys_unnamed rows parts id n = record {
  each = λ path w at same. n.each path Held (ap (option_map (λ (x : Whole). x.id)) at ∙ ap (λ n. Some n) same);
}

pub are_unnamed : (rows : Rows) (parts : Parts) (list : List Removal) → AreNobodys rows parts list → AreUnnamed rows list
unfolding AreUnnamed
are_unnamed rows parts [] n = tt
are_unnamed rows parts (r ∷ rs) n = (nobodys_unnamed rows parts (id_in r) n.0, are_unnamed rows parts rs n.1)

pub is_off : (rows : Rows) (parts : Parts) (list : List Removal) (path : List ℕ) (t : Role) (id : ℕ) → AreNobodys rows parts list
    → id_at rows parts path t ≡ Some id → IsOff id list
is_off rows parts [] path t id n at = tt
is_off rows parts (r ∷ rs) path t id n at = ((λ same. n.0.each path t (at ∙ ap (λ n. Some n) same)), is_off rows parts rs path t id n.1 at)

pub discard_kept : {S : Type 0} (s : SiteGhosts S) (p : Plain) (list : List Removal) (k l : Kept) → AreNobodys p.rows p.parts list
    → LeavesOnly (IsAlong (effects_of list) (stored k)) k l → KeepsLoose list k l → IsKept s p k → IsKept s p l
discard_kept s p list k l n left others a = record {
  holds = holds_left p.rows list k l (are_unnamed p.rows p.parts list n) a.holds left;
  loose = record { each = λ path r id not at. others.each id (is_off p.rows p.parts list path r id n at) ∙ a.loose.each path r id not at };
  faithful = from_so s l (faithful_stays (IsFile s) k l (goods_left list k l left)
      (sealed_left list k l left others (sealed_of s k a.faithful)) (to_so s k a.faithful));
}

pub discard_sound : {S : Type 0} (s : SiteGhosts S) (tells : Bool) (p : Plain) (list : List Removal) (k l : Kept) (f g : Faults)
    → AreNobodys p.rows p.parts list
    → (tells ≡ true → LeavesOnly (IsAlong (effects_of list) (stored k)) k l) → (tells ≡ true → KeepsLoose list k l)
    → IsSound s tells (record { plain = p; kept = k; faults = f }) → IsSound s tells (record { plain = p; kept = l; faults = g })
discard_sound s tells p list k l f g n left others a = record {
  told = a.told;
  plain = a.plain;
  kept = λ told. discard_kept s p list k l n (left told) (others told) (a.kept told);
}

-- at any stop, and in the end, the rows have their files
pub discard_files : {S : Type 0} (s : SiteGhosts S) (h new : House) (list : List Removal) → AreNobodys h.plain.rows h.plain.parts list
    → new.plain.rows ≡ h.plain.rows → LeavesOnly (IsAlong (effects_of list) (stored h.kept)) h.kept new.kept → KeepsFiles s h new
discard_files s h new list n same left =
    let none = are_unnamed h.plain.rows h.plain.parts list n in (
      unnamed_stops (IsFile s) h.plain.rows list h.kept new.kept none left,
      λ f. subst (λ m. IsExact m (stored new.kept)) (sym same) (exact_left h.plain.rows list h.kept new.kept none left f),
    )

neither : (a b : Bool) → a ≡ false → b ≡ false → (a || b) ≡ false
neither true b is none = is
neither false b is none = none

-- a body that was removed isn't there, sealed or not
pub body_gone : (k l : Kept) (id : ℕ) → stored l ≡ changed (BodyRemoved id ∷ []) (stored k)
    → l.loose ≡ loose_by (BodyRemoved id ∷ []) k.loose
    → has_body l id ≡ false
body_gone k l id made loose = neither (map.contains_key l.bodies id) (map.contains_key l.loose id)
    (ap (λ (t : Stored). map.contains_key t.bodies id) made ∙ ap is_some (less_own k.bodies id))
    (ap (λ m. map.contains_key m id) loose ∙ ap is_some (less_own k.loose id))
