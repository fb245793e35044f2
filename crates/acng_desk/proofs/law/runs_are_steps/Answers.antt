use Rattle.acng_desk.proofs.Running.{runs_are_steps}
use Rattle.acng_desk.proofs.law.runs_are_steps.Goals as goal

pub returns : goal.returns
returns c = runs_are_steps
