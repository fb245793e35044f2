use Rattle.acng_answer.proofs.BodyLemmas.{counted_tells}
use Rattle.acng_answer.proofs.body.counted_step.Goals as goal

pub returns-then-piece-left-clause-tells : goal.returns-then-piece-left-clause-tells
returns-then-piece-left-clause-tells c = rw c.body.ensures (λ held at told location. counted_tells c.args.left at c.args.piece.now held told location c.requires.piece c.if-piece-left.true)
