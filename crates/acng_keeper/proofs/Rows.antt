-- Names, effects and what stops leave, held against literal ones.
use Rattle.std.proofs.Common.{◌≡◌, ◌^◌, ◌-◌, true, false, List, ℕ, [], ◌∷◌, Some, None, codes, take, refl, ◌∙◌}
use Rattle.std.specs.List.{list_any}
use Rattle.std.specs.Cmp.{nat_cmp_total}
use Rattle.std.specs.Ordering.{nat_cmp}
use Rattle.std.specs.FinMap.{get, get-insert, get-remove, get-empty}
use Rattle.hex.specs.Hex.{encode_with}
use Rattle.acng_keeper.specs.declared.effect.Effect.{Effect}
use Rattle.acng_keeper.specs.declared.effect.Effect.TheVariants.{Sealed, HeadPut, HeadRemoved, BodyRemoved}
use Rattle.acng_keeper.specs.declared.names.Kind.TheVariants.{Body, Head}
use Rattle.acng_keeper.specs.Names.{name_of}
use Rattle.acng_keeper.specs.Kept.{Kept, nothing, after, with_loose, stored}
use Rattle.acng_keeper.specs.Images.{changed, seals}

-- ---- names

first_body : name_of Body 0 ≡ codes "b-0000000000000000"
unfolding encode_with
first_body = refl

a_head : name_of Head 26 ≡ codes "h-000000000000001a"
unfolding encode_with
a_head = refl

last_body : name_of Body (2 ^ 63 - 1) ≡ codes "b-7fffffffffffffff"
unfolding encode_with
last_body = refl

-- ---- effects

-- the bodies 4 and 5, unsealed
abbrev two : Kept
two = with_loose 5 (with_loose 4 nothing)

abbrev seal : Effect
seal = Sealed 4 (codes "abc")

abbrev put : Effect
put = HeadPut 4 (codes "h")

sealed : get (after seal two).bodies 4 ≡ Some (codes "abc")
sealed = get-insert nat_cmp_total two.bodies 4 (codes "abc") 4

not_loose : get (after seal two).loose 4 ≡ None
not_loose = get-remove nat_cmp_total two.loose 4 4

other_loose : get (after seal two).loose 5 ≡ Some tt
other_loose = get-remove nat_cmp_total two.loose 4 5 ∙ get-insert nat_cmp_total (with_loose 4 nothing).loose 5 tt 5

no_head : get (after (HeadRemoved 4) (after put two)).heads 4 ≡ None
no_head = get-remove nat_cmp_total (after put two).heads 4 4

-- ---- stops

-- stopped between the seal and the head: the body is there and no head
abbrev between : List Effect
between = take 1 (seal ∷ put ∷ [])

head_missing : get (changed between (stored two)).heads 4 ≡ None
head_missing = get-empty nat_cmp 4

body_there : get (changed between (stored two)).bodies 4 ≡ Some (codes "abc")
body_there = sealed

seals_it : list_any (seals 4) between ≡ true
seals_it = refl

seals_no_other : list_any (seals 5) (seal ∷ put ∷ HeadRemoved 5 ∷ BodyRemoved 5 ∷ []) ≡ false
seals_no_other = refl
