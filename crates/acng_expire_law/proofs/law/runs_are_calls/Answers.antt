use Rattle.acng_expire_law.proofs.Calls.{runs_are_calls}
use Rattle.acng_expire_law.proofs.law.runs_are_calls.Goals as goal

pub returns : goal.returns
returns c = runs_are_calls
