use Rattle.std.proofs.Common.{◌≡◌, take}
use Rattle.acng_site.proofs.memory.copies.Given as goal

abbrev pub invariant-loop-rule : goal.invariant-loop-rule
invariant-loop-rule l = l.copied.items ≡ take l.rule-index l.rules
