use Rattle.std.specs.Prelude.{length}
use Rattle.acng_fetch.proofs.pool.Pool.retire.Given as goal

abbrev pub decreases-loop-job : goal.decreases-loop-job
decreases-loop-job g l = length l.queue.jobs
