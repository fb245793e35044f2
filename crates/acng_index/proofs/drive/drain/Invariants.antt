use Rattle.std.proofs.Common.{◌≡◌, ◌++◌, List, length}
use Rattle.acng_stanza.specs.Stanzas.{Field}
use Rattle.acng_index.proofs.drive.drain.Given as goal

abbrev pub invariant-loop-stanza : goal.invariant-loop-stanza
invariant-loop-stanza g l = record {
  taken : (ss : List (List Field))
      → g.T.Takes.makes l.taker (l.reader.lines.waiting ++ ss) ≡ g.T.Takes.makes l.fn.taker (l.fn.reader.lines.waiting ++ ss);
  last : l.reader.lines.last ≡ l.fn.reader.lines.last;
  held : l.reader.held ≡ l.fn.reader.held;
  fault : l.reader.fault ≡ l.fn.reader.fault;
}

abbrev pub decreases-loop-stanza : goal.decreases-loop-stanza
decreases-loop-stanza g l = length l.reader.lines.waiting
