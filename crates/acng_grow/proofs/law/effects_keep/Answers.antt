use Rattle.acng_grow.proofs.Kept.{step_keeps}
use Rattle.acng_grow.proofs.law.effects_keep.Goals as goal

pub returns : goal.returns
returns g c = step_keeps g.S.Site
