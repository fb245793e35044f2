-- The calls of expiration and import.
use Rattle.std.specs.Prelude.{◌≡◌, ℕ, ◌^◌, ◌<◌, Bool, true, Option, None, Some, Result, Ok, Err, ⊤}
use Rattle.std.specs.FinMap as map
use Rattle.acng_keeper.specs.Handles.{Handle}
use Rattle.acng_keeper.specs.Kept.{Kept}
use Rattle.acng_keeper.specs.Slips.{Faults, HasFailed}
use Rattle.acng_keeper.specs.declared.slip.KeepFault.{KeepFault}
use Rattle.acng_keeper.specs.declared.slip.KeepFault.TheVariants as keep
use Rattle.acng_rows.specs.declared.row.Whole.{Whole}
use Rattle.acng_desk.specs.declared.calls.PutFault.{PutFault}
use Rattle.acng_desk.specs.declared.calls.PutFault.TheVariants as put
use Rattle.acng_desk.specs.declared.entry.Held.{Held}
use Rattle.acng_desk.specs.House.{Plain, House}
use Rattle.acng_desk.specs.Keeps.{IsNobodys}
use Rattle.acng_desk.specs.Begins.{HoldsAs}

-- the whole body of a row, which it has
abbrev pub HoldsRow : {F : Type 0} → (F → Handle) → Bool → Kept → Option Whole → Held F → Type 0
HoldsRow handle tells k None held = ⊥
HoldsRow handle tells k (Some w) held = HoldsAs handle tells k w held

abbrev pub put_fault : {P : Type 0} → KeepFault P → PutFault P
put_fault (keep.Slip p) = put.KeeperFault p
put_fault keep.NoMemory = put.NoMemory

abbrev pub put_result : {X P : Type 0} → Result X (KeepFault P) → Result X (PutFault P)
put_result (Ok x) = Ok x
put_result (Err f) = Err (put_fault f)

-- nobody has the id, which is below the next one; where the keeper tells, it is of an unsealed body
pub record IsSpare (tells : Bool) (h : House) (id : ℕ) : Type 0 where
  pub nobodys : IsNobodys h.plain.rows h.plain.parts id
  pub below : id < h.plain.next_id
  pub loose : tells ≡ true → map.contains_key h.kept.loose id ≡ true

-- no id is left, or a call of the keeper failed; want of memory is free. Nothing is full where a body is made.
abbrev pub PutRose : {P : Type 0} → PutFault P → Plain → Faults → Faults → Type 0
PutRose put.Full p old new = ⊥
PutRose put.Worn p old new = p.next_id ≡ 2 ^ 63
PutRose (put.KeeperFault q) p old new = HasFailed old new
PutRose put.NoMemory p old new = ⊤
