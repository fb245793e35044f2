use Rattle.std.proofs.Common.{◌≤◌, ◌^◌}
use Rattle.acng_keeper.proofs.folder_scan.next_in.Given as goal

abbrev pub invariant-loop-entry : goal.invariant-loop-entry
invariant-loop-entry g l = l.next ≤ 2 ^ 63
