use Rattle.std.proofs.Common.{◌≡◌, drop, length}
use Rattle.acng_stanza.specs.Stanzas.{field}
use Rattle.acng_stanza.proofs.stanza.Stanza.place_of.Given as goal

abbrev pub invariant-loop-i : goal.invariant-loop-i
invariant-loop-i l = record {
  all : l.i-end ≡ length l.self;
  same : field l.name l.self ≡ field l.name (drop l.i l.self);
}
