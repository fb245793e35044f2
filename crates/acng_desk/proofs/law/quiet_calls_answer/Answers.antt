use Rattle.acng_desk.proofs.Running.{quiet_calls_answer}
use Rattle.acng_desk.proofs.law.quiet_calls_answer.Goals as goal

pub returns : goal.returns
returns g c = quiet_calls_answer g.S.Site
