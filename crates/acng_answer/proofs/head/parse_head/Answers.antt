use Rattle.std.proofs.Common.{arith}
use Rattle.acng_answer.proofs.FieldLemmas.{found_head, found_none}
use Rattle.acng_answer.proofs.head.parse_head.Goals as goal

pub returns-clause-some : goal.returns-clause-some
returns-clause-some c = found_head c.args.block.now c.find_head.new.headers c.find_head.result (omega arith) c.find_head.ensures.some

pub returns-clause-none : goal.returns-clause-none
returns-clause-none c = found_none c.args.block.now c.find_head.result c.find_head.ensures.none
