use Rattle.acng_reach.specs.Reaches.{is_unread_by}
use Rattle.acng_reach.proofs.Tests.{any_step}
use Rattle.acng_reach.proofs.problems.put_others.Goals as goal

pub loop-i-preserved : goal.loop-i-preserved
loop-i-preserved g c = λ q.
    any_step (is_unread_by (g.B.Bodies.cache c.args.bodies.now).paths q c.args.folder.now c.args.read.now) c.args.list.now c.loop-i.i
    c.index-list-i.result c.loop-i-test.true c.index-list-i.is _ _ _ (c.in_ok-put_if_unread.ensures q) (c.loop-i.invariant q)
