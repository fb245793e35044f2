use Rattle.std.proofs.Common.{◌≡◌, ◌++◌, take}
use Rattle.acng_rows.specs.Starts.{off}
use Rattle.acng_rows.specs.declared.removal.Removal.TheVariants as removal
use Rattle.acng_rows.proofs.find.bodies_off.Given as goal

abbrev pub invariant-loop-i : goal.invariant-loop-i
invariant-loop-i l = l.list.items ≡ l.fn.list.items ++ off removal.Body l.ids (take l.i l.all)
