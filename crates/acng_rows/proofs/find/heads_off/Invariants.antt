use Rattle.std.proofs.Common.{◌≡◌, ◌++◌, [], take}
use Rattle.std.specs.Map.{keys_of}
use Rattle.acng_rows.specs.Starts.{off}
use Rattle.acng_rows.specs.declared.removal.Removal.TheVariants as removal
use Rattle.acng_rows.proofs.find.heads_off.Given as goal

abbrev pub invariant-loop-i : goal.invariant-loop-i
invariant-loop-i l = l.list.items ≡ [] ++ off removal.Head l.ids (take l.i (keys_of l.heads))
