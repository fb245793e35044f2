use Rattle.std.proofs.Common.{◌≡◌}
use Rattle.std.specs.Io.KnownBytes.{Keeps}
use Rattle.acng_base.proofs.stdio.write_some.Given as goal

abbrev pub invariant-loop : goal.invariant-loop
invariant-loop g l = record {
  bytes : Keeps (g.W.Write.contents l.fn.output) (g.W.Write.contents l.output);
  count : l.faults ≡ l.fn.faults;
}
