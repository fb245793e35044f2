use Rattle.std.proofs.Common.{◌≡◌, drop, length}
use Rattle.acng_conf.specs.Readings.{merge_all}
use Rattle.acng_conf.proofs.conf.Conf.merge_all.Given as goal

abbrev pub invariant-loop-i : goal.invariant-loop-i
invariant-loop-i l = record {
  same : merge_all l.k l.fn.self l.entries ≡ merge_all l.k l.conf (drop l.i l.entries);
  groups : length l.conf.groups ≡ length l.fn.self.groups;
}
