use Rattle.std.proofs.Common.{arith}
use Rattle.std.proofs.lemmas.Grind.{common_steps}
use Rattle.acng_site.proofs.memory.MemoryOriginOrigin.dial.Goals as goal

pub returns-clause-exact : goal.returns-clause-exact
returns-clause-exact g c = (c.in-Some.rule.now, Prim.grind (arith, common_steps), Prim.grind (arith, common_steps))
