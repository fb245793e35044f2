use Rattle.std.proofs.Common.{List, ℕ, [], ◌∷◌, subst}
use Rattle.acng_stanza.specs.Readers.{Reader}
use Rattle.acng_stanza.specs.Feeds.{Feeds, FeedsLine}
use Rattle.acng_stanza.proofs.Pieces.{feeds_held}
use Rattle.acng_stanza.proofs.reader.StanzaReader.take_held.Goals as goal

pub returns-clause-feeds : goal.returns-clause-feeds
returns-clause-feeds c =
    let in_ = c.self.inside in
    let r = c.take_line-taken.result in
    let old : Reader = record { lines = in_.lines; held = in_.held.items; fault = in_.fault } in
    let new : Reader = record { lines = c.take_line-taken.new.self; held = c.clear.new.self.items; fault = in_.fault } in
    let line : FeedsLine in_.held.items in_.lines c.take_line-taken.new.self r =
    subst (λ (h : List ℕ). FeedsLine h in_.lines c.take_line-taken.new.self r) c.as_slice.ensures.value c.take_line-taken.ensures in
    subst (λ (v : Reader). Feeds (10 ∷ []) v new r) c.self.view_is
    (feeds_held old new r c.self.invariant.unbroken c.clear.ensures.items line)
