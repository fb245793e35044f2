use Rattle.std.proofs.Common.{◌≡◌, ◌≤◌, ◌+◌, true, drop, length}
use Rattle.acng_conf.specs.Globs.{fits, some_end}
use Rattle.acng_conf.proofs.glob.equal_bytes.Given as goal

abbrev pub invariant-loop-i : goal.invariant-loop-i
invariant-loop-i l = record {
  within : l.i ≤ length l.name;
  same : fits l.pattern l.name ≡ fits (drop l.i l.pattern) (drop l.i l.name);
  later : some_end (fits l.pattern) (drop 1 l.name) ≡ true → some_end (fits (drop l.i l.pattern)) (drop (l.i + 1) l.name) ≡ true;
}
