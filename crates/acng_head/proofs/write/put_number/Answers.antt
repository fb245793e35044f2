use Rattle.std.proofs.Common.{◌∙◌}
use Rattle.acng_head.proofs.Placed.{Puts-trans, Puts-is}
use Rattle.acng_head.proofs.write.put_number.Goals as goal

pub returns-clause-puts : goal.returns-clause-puts
returns-clause-puts c =
    Puts-trans c.put-at.ensures (Puts-trans (Puts-is c.put-at-2.ensures (c.as_bytes.ensures.value ∙ c.format.ensures.text)) c.put.ensures)
