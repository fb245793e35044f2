use Rattle.std.proofs.Common.{rules}
use Rattle.acng_grow.proofs.Steps.{added}
use Rattle.acng_grow.proofs.growing.Growing.add.Goals as goal

pub invariant_of-self-2 : goal.invariant_of-self-2
invariant_of-self-2 g c =
    added _ _ _ _ _ c.in-Some.file c.append.new.self c.args.piece.now c.in-Some.is c.in_default-append.ensures.appended (search rules)
    c.self.invariant
