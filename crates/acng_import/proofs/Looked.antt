-- A desk that was read and not changed.
use Rattle.std.proofs.Common.{◌≡◌, ℕ, ◌<◌, Bool, true, refl, sym, ap, subst, ◌∙◌}
use Rattle.std.specs.FinMap as map
use Rattle.acng_desk.specs.House.{Plain, House}
use Rattle.acng_desk.specs.Calls.{IsSpare}
use Rattle.acng_desk.specs.Keeps.{IsNobodys}
use Rattle.acng_import.specs.Looks.{shelf_of, HasRead}

-- nothing was read
pub read_nothing : (tells : Bool) (h : House) → HasRead tells h h
read_nothing tells h = record { plain = refl; stored_is = λ t. refl; loose = λ t. refl }

-- one reading, and then another
pub read_both : {tells : Bool} {a b c : House} → HasRead tells a b → HasRead tells b c → HasRead tells a c
read_both r s = record {
  plain = s.plain ∙ r.plain;
  stored_is = λ t. s.stored_is t ∙ r.stored_is t;
  loose = λ t. s.loose t ∙ r.loose t;
}

pub same_shelf : {tells : Bool} {old new : House} → HasRead tells old new → tells ≡ true → shelf_of new ≡ shelf_of old
same_shelf {tells} {old} {new} r t =
    let one : shelf_of new ≡ (record { plain = old.plain; bodies = new.kept.bodies })
    = ap (λ (p : Plain). record { plain = p; bodies = new.kept.bodies }) r.plain in
    one ∙ ap (λ s. record { plain = old.plain; bodies = s.bodies }) (r.stored_is t)

-- a body that nobody has stays so
pub spare_read : {tells : Bool} {old new : House} {id : ℕ} → HasRead tells old new → IsSpare tells old id → IsSpare tells new id
spare_read {tells} {old} {new} {id} r s = record {
  nobodys = subst (λ (p : Plain). IsNobodys p.rows p.parts id) (sym r.plain) s.nobodys;
  below = subst (λ (p : Plain). id < p.next_id) (sym r.plain) s.below;
  loose = λ t. subst (λ l. map.contains_key l id ≡ true) (sym (r.loose t)) (s.loose t);
}
