use Rattle.std.proofs.Common.{subst}
use Rattle.acng_stanza.specs.Readers.{Reader}
use Rattle.acng_stanza.specs.Feeds.{Hands}
use Rattle.acng_stanza.proofs.Pieces.{hands}
use Rattle.acng_stanza.proofs.reader.StanzaReader.next_stanza.Goals as goal

pub returns : goal.returns
returns c =
    let in_ = c.self.inside in
    let new : Reader = record { lines = c.next.new.self; held = in_.held.items; fault = in_.fault } in
    subst (λ (v : Reader). Hands v new c.next.result) c.self.view_is
    (hands in_.lines c.next.new.self in_.held.items in_.fault c.next.result c.next.ensures.waiting c.next.ensures.last)
