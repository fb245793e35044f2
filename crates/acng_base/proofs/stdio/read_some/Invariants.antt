use Rattle.std.proofs.Common.{◌≡◌}
use Rattle.std.specs.Io.KnownBytes.{Keeps}
use Rattle.acng_base.proofs.stdio.read_some.Given as goal

abbrev pub invariant-loop : goal.invariant-loop
invariant-loop g l = record {
  bytes : Keeps (g.R.Read.remaining l.fn.input) (g.R.Read.remaining l.input);
  count : l.faults ≡ l.fn.faults;
}
