use Rattle.std.proofs.Common.{◌≡◌, ◌≤◌, ◌-◌, length, drop}
use Rattle.acng_stanza.specs.Stanzas.{reading_from}
use Rattle.acng_stanza.specs.Readers.{all_of}
use Rattle.acng_index.proofs.drive.read_stanzas.Given as goal

abbrev pub invariant-loop-start : goal.invariant-loop-start
invariant-loop-start g l = record {
  within : l.start ≤ length l.text;
  made : g.T.Takes.makes l.taker (all_of l.reader (drop l.start l.text)).stanzas
      ≡ g.T.Takes.makes l.fn.taker (reading_from l.fn.line l.text).stanzas;
  fault : (all_of l.reader (drop l.start l.text)).fault ≡ (reading_from l.fn.line l.text).fault;
}

abbrev pub decreases-loop-start : goal.decreases-loop-start
decreases-loop-start g l = length l.text - l.start
