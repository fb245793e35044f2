-- Why work on a file stopped.
use Rattle.std.specs.Prelude.{◌≡◌, Bool, true, ⊤}
use Rattle.acng_keeper.specs.declared.slip.KeepFault.{KeepFault}
use Rattle.acng_keeper.specs.declared.slip.KeepFault.TheVariants as keep
use Rattle.acng_import.specs.declared.ending.Halt.{Halt}
use Rattle.acng_import.specs.declared.ending.Halt.TheVariants as halt

abbrev pub halt_of : {P : Type 0} → KeepFault P → Halt P
halt_of (keep.Slip p) = halt.Slip p
halt_of keep.NoMemory = halt.NoMemory

-- a slip comes only where calls may fail; want of memory is free
abbrev pub MayHalt : {P : Type 0} → Bool → Halt P → Type 0
MayHalt may halt.Worn = ⊤
MayHalt may (halt.Slip p) = may ≡ true
MayHalt may halt.NoMemory = ⊤
