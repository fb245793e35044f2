use Rattle.std.proofs.Common.{◌≡◌, ℕ, List, [], ◌∷◌, ◌++◌, sym, subst, arith}
use Rattle.std.proofs.lemmas.Grind.{common_steps}
use Rattle.acng_stanza.specs.Readers.{Reader}
use Rattle.acng_stanza.specs.Feeds.{Feeds, FeedsLine}
use Rattle.acng_stanza.proofs.Pieces.{feeds_whole, feeds_both}
use Rattle.acng_stanza.proofs.reader.StanzaReader.take_end.Goals as goal

pub returns-then-is_empty-clause-feeds : goal.returns-then-is_empty-clause-feeds
returns-then-is_empty-clause-feeds c =
    let part = c.args.part.now in
    let in_ = c.self.inside in
    let old : Reader = record { lines = in_.lines; held = in_.held.items; fault = in_.fault } in
    let new : Reader = record { lines = c.take_line.new.self; held = in_.held.items; fault = in_.fault } in
    let none : in_.held.items ≡ [] = grind (arith, common_steps) in
    let line : FeedsLine (in_.held.items ++ part) in_.lines c.take_line.new.self c.take_line.result =
    subst (λ (h : List ℕ). FeedsLine (h ++ part) in_.lines c.take_line.new.self c.take_line.result) (sym none) c.take_line.ensures in
    subst (λ (v : Reader). Feeds (part ++ 10 ∷ []) v new c.take_line.result) c.self.view_is
    (feeds_whole old new part c.take_line.result c.self.invariant.unbroken c.requires none line)

pub returns-clause-feeds : goal.returns-clause-feeds
returns-clause-feeds c =
    feeds_both c.args.part.now
    (10 ∷ []) c.args.self.now c.hold.new.self c.take_held.new.self c.take_held.result c.in_ok-hold.ensures.feeds c.take_held.ensures.feeds
