-- A site whose places of a path are its origins serves each target.
use Rattle.std.proofs.Common.{◌≡◌, ℕ, Bool, true, false, ◌||◌, List, Ok, refl, subst}
use Rattle.std.specs.List.{list_any, Contains}
use Rattle.std.specs.Str.{bytes_eq}
use Rattle.std.specs.Cmp.{IsEquivalence}
use Rattle.std.proofs.lemmas.Grind.{common_steps}
use Rattle.std.proofs.lemmas.Map.Views.{list_any-from_Contains}
use Rattle.std.proofs.lemmas.Slice.Eq.{bytes_eq-Decides}
use Rattle.std.proofs.Common.{arith}
use Rattle.acng_conf.specs.Readings.{are_names}
use Rattle.acng_conf.specs.Settings.{Settings}
use Rattle.acng_remap.specs.Readings.{reading}
use Rattle.acng_remap.specs.Origins.{ServesTargets, is_orphan, is_place, origins_of}
use Rattle.acng_remap.specs.declared.target.Target.TheVariants.{File}
use Rattle.acng_remap.proofs.Following.{by_path}

itself : (x : List ℕ) → bytes_eq x x ≡ true
itself x = grind (arith, common_steps, bytes_eq-Decides)

either_way : (x y : List ℕ) → bytes_eq x y ≡ bytes_eq y x
either_way x y = grind (arith, common_steps, bytes_eq-Decides)

alike : (x y z : List ℕ) → bytes_eq x y ≡ true → bytes_eq x z ≡ bytes_eq y z
alike x y z h = grind (arith, common_steps, bytes_eq-Decides)

equal_texts : IsEquivalence bytes_eq
equal_texts = record { refl = itself; symm = either_way; congr = alike }

pub serves_targets : (s : Settings) → are_names s.groups ≡ true → ServesTargets s (is_place s.groups)
serves_targets s names = record { served = λ method target path url origins read among. cases method target path url origins read among (is_orphan s.groups path) refl }
  where
    cases : (method target path url : List ℕ) (origins : List (List ℕ)) → reading s method target ≡ Ok (File path origins) → Contains origins url
        → (b : Bool) → is_orphan s.groups path ≡ b → (b || list_any (bytes_eq url) (origins_of s.groups path)) ≡ true
    cases method target path url origins read among true orphan = refl
    cases method target path url origins read among false orphan =
        let same : origins ≡ origins_of s.groups path = by_path s method target path origins names read orphan in
        subst (λ (us : List (List ℕ)). list_any (bytes_eq url) us ≡ true) same (list_any-from_Contains equal_texts url origins among)
