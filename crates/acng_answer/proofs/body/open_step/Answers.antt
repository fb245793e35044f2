use Rattle.std.proofs.Common.{arith, ◌<◌}
use Rattle.acng_answer.proofs.BodyLemmas.{open_part_tells}
use Rattle.acng_answer.proofs.body.open_step.Goals as goal

pub returns-in-Some-clause-tells : goal.returns-in-Some-clause-tells
returns-in-Some-clause-tells c =
    let some : 0 < c.fewer-count.result = grind (arith, c.in-Some.left-test, c.fewer-count.ensures.one, c.requires) in
    rw (c.in-Some.is, c.body-in-Some.ensures) (λ held told location. open_part_tells c.in-Some.left c.args.at c.fewer-count.result c.args.piece.now held told location some (omega arith) (omega arith))
