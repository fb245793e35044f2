use Rattle.std.proofs.Common.{sym, ◌∙◌}
use Rattle.acng_answer.proofs.TrailerSteps.{last_bad, last_more}
use Rattle.acng_answer.proofs.chunked.last_sized.Goals as goal

pub returns-then-has_due-clause-sized : goal.returns-then-has_due-clause-sized
returns-then-has_due-clause-sized c = rw c.bad_size.ensures (last_bad c.args.part c.args.start c.args.next (sym c.has_due.ensures ∙ c.if-has_due.true))

pub returns-clause-sized : goal.returns-clause-sized
returns-clause-sized c = last_more c.args.part c.args.start c.args.next (sym c.has_due.ensures ∙ c.if-has_due.false)
