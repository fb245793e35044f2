-- Codes of effects, of what is kept, of handles and of faults, by which a `Model` may hold them.
use Rattle.std.specs.Prelude.{◌≡◌, ℕ, zero, suc, Bool, List, []}
use mathlib.Core.Path.{refl}
use Rattle.std.specs.Coded.{Coded, code_by, coded×, coded_ℕ, coded_bool, coded_list}
use Rattle.std.specs.FinMap as map
use base.Stored.{coded_unit}
use Rattle.acng_keeper.specs.declared.effect.Effect.{Effect}
use Rattle.acng_keeper.specs.declared.effect.Effect.TheVariants.{Sealed, HeadPut, HeadRemoved, BodyRemoved}
use Rattle.acng_keeper.specs.Handles.{Handle}
use Rattle.acng_keeper.specs.Kept.{Store, IdSet, Kept}
use Rattle.acng_keeper.specs.Slips.{Faults}

abbrev parts : Effect → ℕ × (ℕ × List ℕ)
parts (Sealed id bytes) = (0, (id, bytes))
parts (HeadPut id bytes) = (1, (id, bytes))
parts (HeadRemoved id) = (2, (id, []))
parts (BodyRemoved id) = (3, (id, []))

abbrev whole_of : ℕ → ℕ → List ℕ → Effect
whole_of zero id bytes = Sealed id bytes
whole_of (suc zero) id bytes = HeadPut id bytes
whole_of (suc (suc zero)) id bytes = HeadRemoved id
whole_of (suc (suc (suc n))) id bytes = BodyRemoved id

abbrev same : (e : Effect) → whole_of (parts e).0 (parts e).1.0 (parts e).1.1 ≡ e
same (Sealed id bytes) = refl
same (HeadPut id bytes) = refl
same (HeadRemoved id) = refl
same (BodyRemoved id) = refl

abbrev text : Coded (List ℕ)
text = coded_list coded_ℕ

abbrev store : Coded Store
store = map.code coded_ℕ text

abbrev pub coded_effect : Coded Effect
coded_effect = code_by (ℕ × (ℕ × List ℕ)) (coded× coded_ℕ (coded× coded_ℕ text)) parts (λ p. whole_of p.0 p.1.0 p.1.1) same

-- the heads, the sealed bodies, the other ids, the bytes given and the trail, one after the other
abbrev pub coded_kept : Coded Kept
coded_kept = code_by (Store × (Store × (IdSet × (ℕ × List Effect))))
    (coded× store (coded× store (coded× (map.code coded_ℕ coded_unit) (coded× coded_ℕ (coded_list coded_effect)))))
    (λ k. (k.heads, (k.bodies, (k.loose, (k.taken, k.trail)))))
    (λ p. record { heads = p.0; bodies = p.1.0; loose = p.1.1.0; taken = p.1.1.1.0; trail = p.1.1.1.1 })
    (λ _. refl)

abbrev pub coded_handle : Coded Handle
coded_handle = code_by (ℕ × (ℕ × (List ℕ × Bool))) (coded× coded_ℕ (coded× coded_ℕ (coded× text coded_bool)))
    (λ h. (h.number, (h.size, (h.bytes, h.writable))))
    (λ p. record { number = p.0; size = p.1.0; bytes = p.1.1.0; writable = p.1.1.1 })
    (λ _. refl)

abbrev pub coded_faults : Coded Faults
coded_faults = code_by (ℕ × Bool) (coded× coded_ℕ coded_bool)
    (λ f. (f.count, f.may_fail)) (λ p. record { count = p.0; may_fail = p.1 }) (λ _. refl)
