use Rattle.std.proofs.Common.{ap}
use Rattle.acng_keeper.proofs.Below.{has_put}
use Rattle.acng_keeper_tests.proofs.script.seal.Goals as goal

pub returns-in-Ok : goal.returns-in-Ok
returns-in-Ok g c = λ t. has_put _ _ _ _ (ap (λ k. k.bodies) (c.in-Ok.ensures.comes t))
