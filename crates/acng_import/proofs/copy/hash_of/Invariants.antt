use Rattle.std.proofs.Common.{◌≡◌, ◌-◌, ◌≤◌}
use Rattle.acng_import.proofs.Readings.{IsHashing}
use Rattle.acng_import.proofs.copy.hash_of.Given as goal

abbrev pub invariant-loop-at : goal.invariant-loop-at
invariant-loop-at g l = record {
  hashing : IsHashing g.B.BodyFile.tells (g.B.BodyFile.handle l.fn.body).bytes l.hash l.at;
  few : l.at ≤ (g.B.BodyFile.handle l.fn.body).size;
  same : g.B.BodyFile.handle l.body ≡ g.B.BodyFile.handle l.fn.body;
  may : (g.B.BodyFile.faults l.body).may_fail ≡ (g.B.BodyFile.faults l.fn.body).may_fail;
}

abbrev pub decreases-loop-at : goal.decreases-loop-at
decreases-loop-at g l = l.size - l.at
