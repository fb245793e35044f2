-- What calls on a row make of heads and bodies, and when they are refused.
use Rattle.std.specs.Prelude.{◌≡◌, ℕ, true, is_some, List, [], ◌∷◌, Option, None, Some}
use Rattle.acng_keeper.specs.Slips.{Faults, HasFailed}
use Rattle.acng_keeper.specs.declared.slip.KeepFault.{KeepFault}
use Rattle.acng_keeper.specs.declared.slip.KeepFault.TheVariants as keep
use Rattle.acng_rows.specs.declared.row.Whole.{Whole}
use Rattle.acng_head.specs.Records.{record_text}
use Rattle.acng_keeper.specs.declared.effect.Effect.{Effect}
use Rattle.acng_keeper.specs.declared.effect.Effect.TheVariants.{HeadPut}
use Rattle.acng_rows.specs.declared.stamp.Stamp.{Stamp}
use Rattle.acng_rows.specs.Removals.{effects_of, both_of}
use Rattle.acng_rows.specs.Rows.{Rows, head_of, stamped, id_in_whole}
use Rattle.acng_rows.specs.declared.fault.RowFault.{RowFault}
use Rattle.acng_rows.specs.declared.fault.RowFault.TheVariants as fault

-- the fault of a call of the keeper, as that of a call on a row
abbrev pub row_fault : {P : Type 0} → KeepFault P → RowFault P
row_fault (keep.Slip p) = fault.KeeperFault p
row_fault keep.NoMemory = fault.NoMemory

-- The path has no whole body, or a call of the keeper failed; want of memory is free. But for NotHeld it has one.
abbrev pub RowRose : {P : Type 0} → RowFault P → Option Whole → Faults → Faults → Type 0
RowRose fault.NotHeld whole old new = whole ≡ None
RowRose (fault.KeeperFault p) whole old new = HasFailed old new × (is_some whole ≡ true)
RowRose fault.NoMemory whole old new = is_some whole ≡ true

-- the rows are as they were where the path had no whole body, and else as after Ok
abbrev pub LeavesRow : {P : Type 0} → RowFault P → Rows → Rows → Rows → Type 0
LeavesRow fault.NotHeld rows done new = new ≡ rows
LeavesRow (fault.KeeperFault p) rows done new = new ≡ done
LeavesRow fault.NoMemory rows done new = new ≡ done

-- ---- the effects of calls

-- the head of the whole body, with another moment
abbrev pub stamp_plan : Stamp → List ℕ → Option Whole → List Effect
stamp_plan stamp path None = []
stamp_plan stamp path (Some w) = HeadPut w.id (record_text (head_of path (stamped stamp w))) ∷ []

-- the head of the new whole body, and then the old head and body go
abbrev pub hold_plan : List ℕ → Whole → Option Whole → List Effect
hold_plan path w old = HeadPut w.id (record_text (head_of path w)) ∷ effects_of (both_of (id_in_whole old))

-- the head and the body go
abbrev pub go_plan : Option Whole → List Effect
go_plan old = effects_of (both_of (id_in_whole old))
