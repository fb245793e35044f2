-- what the grammar finds is the block at the front
use Rattle.std.proofs.Common.{arith}
use Rattle.acng_request.proofs.HeadBlocks.{front_block}
use Rattle.acng_request.proofs.head.front_head.Goals as goal

pub returns : goal.returns
returns c = front_block c.args.bytes.now c.find_head.new.headers c.find_head.result c.requires (omega arith) c.find_head.ensures.within c.find_head.ensures.some
