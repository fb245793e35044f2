use Rattle.std.proofs.Common.{arith, ◌<◌, []}
use Rattle.acng_answer.proofs.ChunkLemmas.{chunk_tells}
use Rattle.acng_answer.proofs.chunked.chunk_step.Goals as goal

pub returns-clause-tells : goal.returns-clause-tells
returns-clause-tells c =
    let n = c.allowed-count.result in
    rw (c.body.ensures, c.less-part.ensures) (λ told location. chunk_tells c.args.left c.args.part c.args.at n c.args.piece.now [] told location (omega arith) c.allowed-count.ensures.within.0 c.allowed-count.ensures.within.2 c.allowed-count.ensures.within.1)
