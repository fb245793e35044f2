use Rattle.std.proofs.Common.{arith}
use Rattle.acng_rows.proofs.Lists.{set_none, set_next}
use Rattle.acng_rows.proofs.find.set_of.Goals as goal

pub loop-i-init : goal.loop-i-init
loop-i-init c = λ q. set_none c.new-set.result c.args.ids.now c.new-set.ensures q

pub loop-i-preserved : goal.loop-i-preserved
loop-i-preserved c = set_next c.loop-i.set c.put.new.self c.args.ids.now c.loop-i.i c.get.result.0
    (omega (arith, c.loop-i-test.true, c.len-i-end.ensures.count)) c.get.ensures c.loop-i.invariant c.in_ok-put.ensures.ok
