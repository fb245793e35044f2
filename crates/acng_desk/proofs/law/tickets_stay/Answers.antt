use Rattle.acng_desk.proofs.Running.{tickets_stay}
use Rattle.acng_desk.proofs.law.tickets_stay.Goals as goal

pub returns : goal.returns
returns c = tickets_stay
