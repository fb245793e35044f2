use Rattle.std.proofs.Common.{◌∙◌, ◌||◌, ap}
use Rattle.acng_reach.specs.Sets.{among}
use Rattle.acng_reach.specs.Reaches.{is_failed, problem_by}
use Rattle.acng_reach.proofs.Tests.{any_step}
use Rattle.acng_reach.proofs.problems.problem_folders.Goals as goal

pub loop-i-preserved : goal.loop-i-preserved
loop-i-preserved g c = λ q.
    any_step (is_failed q) c.args.failed.now c.loop-i.i c.index-failed-i.result c.loop-i-test.true c.index-failed-i.is _ _ _
    (c.in_ok-put_folder.ensures q ∙ ap (λ t. is_failed q t || among q c.loop-i.folders) c.as_bytes.ensures.bytes)
    (c.loop-i.invariant q)

pub loop-j-preserved : goal.loop-j-preserved
loop-j-preserved g c = λ q.
    any_step (problem_by (g.B.Bodies.cache c.args.bodies.now).paths q) c.args.indexes.now c.loop-j.j c.index-indexes-j.result
    c.loop-j-test.true c.index-indexes-j.is _ _ _ (c.in_ok-put_of_index.ensures q) (c.loop-j.invariant q)
