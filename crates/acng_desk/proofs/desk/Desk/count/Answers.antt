use Rattle.std.proofs.Common.{arith}
use Rattle.acng_desk.proofs.desk.Desk.count.Goals as goal

pub overflow_cast-result : goal.overflow_cast-result
overflow_cast-result g c = omega (arith, c.len.ensures.len, c.self.invariant.plain.few)
