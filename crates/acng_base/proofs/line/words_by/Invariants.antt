use Rattle.std.proofs.Common.{◌≡◌, ◌-◌, ◌≤◌, ◌++◌, drop, length}
use Rattle.acng_base.specs.Cuts.{words_by}
use Rattle.acng_base.proofs.line.words_by.Given as goal

abbrev pub invariant-loop-len : goal.invariant-loop-len
invariant-loop-len g l = record {
  within : l.start ≤ length l.line;
  same : words_by g.K.Kind.passes l.line ≡ l.found.items ++ words_by g.K.Kind.passes (drop l.start l.line);
}

abbrev pub decreases-loop-len : goal.decreases-loop-len
decreases-loop-len g l = length l.line - l.start
