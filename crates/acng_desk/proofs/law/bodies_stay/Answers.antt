use Rattle.acng_desk.proofs.Running.{bodies_stay}
use Rattle.acng_desk.proofs.law.bodies_stay.Goals as goal

pub returns : goal.returns
returns g c = bodies_stay g.S.Site
