use Rattle.std.proofs.Common.{◌≡◌}
use Rattle.acng_cli.specs.Repository.{packages_below, stanzas_below}
use Rattle.acng_cli.proofs.repository.repository.Given as goal

abbrev pub invariant-loop-k : goal.invariant-loop-k
invariant-loop-k l = record {
  files : l.files.items ≡ packages_below l.k;
  names : l.names.items ≡ stanzas_below l.k;
}
