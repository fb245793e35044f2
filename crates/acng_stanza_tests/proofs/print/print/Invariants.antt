use Rattle.std.proofs.Common.{length}
use Rattle.acng_stanza_tests.proofs.print.print.Given as goal

abbrev pub invariant-loop-stanza : goal.invariant-loop-stanza
invariant-loop-stanza l = Unit {0}

abbrev pub decreases-loop-stanza : goal.decreases-loop-stanza
decreases-loop-stanza l = length l.reader.lines.waiting
