use Rattle.acng_head.proofs.Placed.{Puts-trans}
use Rattle.acng_head.proofs.write.put_line.Goals as goal

pub returns : goal.returns
returns c = Puts-trans c.put-at.ensures (Puts-trans c.put-at-2.ensures c.put.ensures)
