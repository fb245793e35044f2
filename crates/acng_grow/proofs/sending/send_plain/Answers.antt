use Rattle.std.proofs.Common.{subst}
use Rattle.acng_grow.proofs.Pieces.{plain_broke}
use Rattle.acng_grow.specs.Sends.{Breaks}
use Rattle.acng_grow.proofs.sending.send_plain.Goals as goal

pub returns-clause-broke : goal.returns-clause-broke
returns-clause-broke g c =
    subst (λ p. Breaks c.args.sending p c.send_text.result.0 (g.L.Link.written c.args.client.now) (g.L.Link.written c.send_text.new.client))
    c.piece_of-piece.ensures.piece
    (plain_broke c.args.sending _ c.send_text.result.0 _ _ c.requires.plain c.send_text.ensures.within c.send_text.ensures.bytes)
