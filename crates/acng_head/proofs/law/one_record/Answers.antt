use Rattle.acng_head.proofs.Same.{same_head}
use Rattle.acng_head.proofs.law.one_record.Goals as goal

pub returns : goal.returns
returns c = same_head
