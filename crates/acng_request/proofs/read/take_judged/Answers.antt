-- what the block at the front says is what is asked next
use Rattle.std.proofs.Common.{take, subst}
use Rattle.acng_request.specs.Nexts.{read_block}
use Rattle.acng_request.specs.Spans.{Judges}
use Rattle.acng_request.proofs.ReadLemmas.{block_asks}
use Rattle.acng_request.proofs.read.take_judged.Goals as goal

pub returns-in-Ok : goal.returns-in-Ok
returns-in-Ok c =
    let said = subst (Judges (read_block (take c.args.len c.args.buf.now))) c.in-Ok.is c.requires.judged in
    block_asks c.args.buf.now c.args.len c.requires.block c.in-Ok.request c.use_up.new.self said c.use_up.ensures
