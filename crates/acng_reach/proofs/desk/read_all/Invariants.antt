use Rattle.std.proofs.Common.{◌≡◌, ◌-◌, ◌≤◌, length, take, true}
use Rattle.acng_reach.proofs.desk.read_all.Given as goal

abbrev pub invariant-loop-piece : goal.invariant-loop-piece
invariant-loop-piece g l = record {
  few : length l.text.items ≤ (g.F.BodyFile.handle l.fn.body).size;
  bytes : g.F.BodyFile.tells ≡ true → l.text.items ≡ take (length l.text.items) (g.F.BodyFile.handle l.fn.body).bytes;
  same : g.F.BodyFile.handle l.body ≡ g.F.BodyFile.handle l.fn.body;
  may : (g.F.BodyFile.faults l.body).may_fail ≡ (g.F.BodyFile.faults l.fn.body).may_fail;
}

-- each turn reads a byte or more
abbrev pub decreases-loop-piece : goal.decreases-loop-piece
decreases-loop-piece g l = l.size - length l.text.items
