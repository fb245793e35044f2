use Rattle.std.proofs.Common.{◌≡◌, ◌+◌, ◌≤◌, length, vec_capacity}
use Rattle.acng_desk.specs.Keeps.{IsIdle}
use Rattle.acng_serve.specs.Sessions.{by_desk, standing}
use Rattle.acng_serve.proofs.Stills.{Stills}
use Rattle.acng_serve.proofs.owned.session_owned.Given as goal

abbrev pub invariant-loop-more : goal.invariant-loop-more
invariant-loop-more g l = record {
  idle : IsIdle l.desk.plain;
  rules : l.desk.plain.rules ≡ l.fn.desk.plain.rules;
  count : length l.notes.items + l.more ≡ 1000;
  room : 1000 ≤ vec_capacity l.notes;
  still : Stills (by_desk g.S.Site g.K.Keeper.tells l.fn.conf) g.L.Link l.fn.client l.client l.buf
      (standing l.fn.desk (g.C.Clock.coming l.fn.clock)) (standing l.desk (g.C.Clock.coming l.clock)) l.notes.items l.more;
}

abbrev pub decreases-loop-more : goal.decreases-loop-more
decreases-loop-more g l = l.more
