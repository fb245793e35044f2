use Rattle.acng_remap.proofs.Deciding.{Reaches, left}
use Rattle.acng_remap.proofs.decide.longest_entry.Given as goal

abbrev pub invariant-loop-end : goal.invariant-loop-end
invariant-loop-end l = Reaches l.conf.groups l.place l.end

abbrev pub decreases-loop-end : goal.decreases-loop-end
decreases-loop-end l = left l.end
