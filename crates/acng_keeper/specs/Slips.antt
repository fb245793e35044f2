-- When a call of a keeper or a body may answer that it failed.
use Rattle.std.specs.Prelude.{ℕ, List, ◌≡◌, ◌≤◌, Bool, true}
use Rattle.acng_base.specs.Causes.{Rose}
use Rattle.acng_keeper.specs.declared.slip.KeepFault.{KeepFault}
use Rattle.acng_keeper.specs.declared.slip.KeepFault.TheVariants.{Slip, NoMemory}

-- how often a call failed, and whether any call may fail
pub record Faults : Type 0 where
  pub count : ℕ
  pub may_fail : Bool

-- no call failed yet
abbrev pub none_yet : Bool → Faults
none_yet may_fail = record { count = 0; may_fail = may_fail }

-- the numbers of the calls that fail, and the faults of one object that makes some of them
pub record Plan : Type 0 where
  pub list : List ℕ
  pub faults : Faults

-- the count never falls, and whether calls may fail stays
pub record Later (old new : Faults) : Type 0 where
  pub count : old.count ≤ new.count
  pub may_fail : new.may_fail ≡ old.may_fail

-- a call failed in between
pub record HasFailed (old new : Faults) : Type 0 where
  pub rose : Rose old.count new.count
  pub could : old.may_fail ≡ true

-- a slip comes only where a call failed; want of memory is free
abbrev pub SlipRose : {P : Type 0} → KeepFault P → Faults → Faults → Type 0
SlipRose (Slip p) old new = HasFailed old new
SlipRose NoMemory old new = Unit {0}
