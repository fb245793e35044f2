use Rattle.std.proofs.Common.{◌≡◌, ◌-◌, ◌≤◌, None, length}
use Rattle.acng_stanza.proofs.Pieces.{Left}
use Rattle.acng_stanza.proofs.reader.StanzaReader.take_piece.Given as goal

abbrev pub invariant-loop-len : goal.invariant-loop-len
invariant-loop-len l = record {
  within : l.start ≤ length l.piece;
  fault : l.self.fault ≡ None;
  left : Left l.piece l.start l.initial.self l.self;
}

abbrev pub decreases-loop-len : goal.decreases-loop-len
decreases-loop-len l = length l.piece - l.start
