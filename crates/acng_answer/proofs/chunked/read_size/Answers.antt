use Rattle.acng_answer.proofs.SizeGrammar.{size_given}
use Rattle.acng_answer.proofs.chunked.read_size.Goals as goal

pub returns : goal.returns
returns c = size_given c.args.line.now c.find_size.result c.find_size.ensures.some c.find_size.ensures.none
