use Rattle.std.proofs.Common.{◌≡◌, ◌+◌, ◌≤◌, length, vec_capacity}
use Rattle.acng_serve.specs.Among.{by_house}
use Rattle.acng_serve.proofs.Stills.{Stills}
use Rattle.acng_serve.proofs.connection.session.Given as goal

abbrev pub invariant-loop-more : goal.invariant-loop-more
invariant-loop-more g l = record {
  count : length l.notes.items + l.more ≡ 1000;
  room : 1000 ≤ vec_capacity l.notes;
  still : Stills (by_house g.S.Site g.K.Keeper.tells l.fn.house) g.L.Link l.fn.client l.client l.buf
      (g.C.Clock.coming l.fn.clock) (g.C.Clock.coming l.clock) l.notes.items l.more;
}

abbrev pub decreases-loop-more : goal.decreases-loop-more
decreases-loop-more g l = l.more
