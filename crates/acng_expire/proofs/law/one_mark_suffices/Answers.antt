use Rattle.acng_expire.proofs.Marks.{law}
use Rattle.acng_expire.proofs.law.one_mark_suffices.Goals as goal

pub returns : goal.returns
returns c = law
