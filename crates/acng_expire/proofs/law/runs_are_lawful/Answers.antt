use Rattle.acng_expire.proofs.Bodies.{are_runs}
use Rattle.acng_expire.proofs.law.runs_are_lawful.Goals as goal

pub returns : goal.returns
returns c = are_runs
