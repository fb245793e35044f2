use Rattle.std.proofs.Common.{◌≡◌, ◌-◌, ◌≤◌, true, take}
use Rattle.acng_import.proofs.copy.copy.Given as goal

abbrev pub invariant-loop-at : goal.invariant-loop-at
invariant-loop-at g l =
    let handle = g.B.BodyFile.handle in
    record {
      size : (handle l.to).size ≡ l.at;
      bytes : g.B.BodyFile.tells ≡ true → (handle l.to).bytes ≡ take l.at (handle l.fn.from).bytes;
      few : l.at ≤ (handle l.fn.from).size;
      same : handle l.from ≡ handle l.fn.from;
      number : (handle l.to).number ≡ (handle l.fn.to).number;
      writable : (handle l.to).writable ≡ true;
      may : (g.B.BodyFile.faults l.from).may_fail ≡ (g.B.BodyFile.faults l.fn.from).may_fail;
      may_too : (g.B.BodyFile.faults l.to).may_fail ≡ (g.B.BodyFile.faults l.fn.to).may_fail;
    }

abbrev pub decreases-loop-at : goal.decreases-loop-at
decreases-loop-at g l = l.size - l.at
