use Rattle.acng_answer.proofs.FieldLemmas.{cut_found, cut_none}
use Rattle.acng_answer.proofs.range.cut.Goals as goal

pub returns-in-Some : goal.returns-in-Some
returns-in-Some c = cut_found c.args.byte c.in-Some.at c.args.text.now c.in-Some.ensures

pub returns-in-None : goal.returns-in-None
returns-in-None c = cut_none c.args.byte c.args.text.now c.in-None.ensures
