-- what the grammar finds is what the function gives
use Rattle.std.proofs.Common.{arith, length}
use Rattle.acng_request.proofs.HeadLemmas.{head_found, head_few, head_none}
use Rattle.acng_request.proofs.head.parse_head.Goals as goal

pub returns-clause-some : goal.returns-clause-some
returns-clause-some c = head_found c.args.block.now c.find_head.new.headers c.find_head.result (omega arith) c.find_head.ensures.some

pub returns-clause-few : goal.returns-clause-few
returns-clause-few c = head_few c.args.block.now c.find_head.new.headers c.find_head.result (omega arith) c.find_head.ensures.some

pub returns-clause-none : goal.returns-clause-none
returns-clause-none c = head_none c.args.block.now (length c.args.headers.now) c.find_head.result (omega arith) c.find_head.ensures.none
