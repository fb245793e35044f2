use Rattle.std.proofs.Common.{◌≡◌, ◌+◌, ◌≤◌, true}
use Rattle.acng_site.specs.Honest.{heard}
use Rattle.acng_grow.specs.Effects.{runs}
use Rattle.acng_grow.specs.Download.{On, goes_on, left_of}
use Rattle.acng_fetch.specs.Fits.{Fits}
use Rattle.acng_fetch.specs.Loads.{IsTried, StandsIn, stand_of}
use Rattle.acng_fetch.specs.Stocks.{Agrees}
use Rattle.acng_fetch.proofs.downloading.try_on.Given as goal

abbrev pub invariant-loop-alloc : goal.invariant-loop-alloc
invariant-loop-alloc g l =
    let stock = g.B.Grows.stock in
    let site = g.B.Site.Site in
    let number = g.B.Slip.OriginSlip.number in
    let call = g.B.File.Slip.KeeperSlip.number in
    let p = l.loader.plan in
    let q = l.fn.loader.plan in
    let now = stock l.loader.body in
    let before = stock l.fn.loader.body in
    let e = l.order in
    record {
      errand : now.errand ≡ e;
      path : now.path ≡ before.path;
      first : now.first ≡ before.first;
      info : now.info ≡ before.info;
      later : before.next ≤ now.next;
      sum : now.next + now.left ≡ before.next + before.left;
      agrees : Agrees (g.B.Grows.seen l.loader.body) p;
      stands : StandsIn number call before.first p (g.B.Grows.full l.loader.body) now.next l.standing;
      tried : now.left ≡ 0 → IsTried l.standing;
      fits : site.tells ≡ true → Fits site now.path e now.next (On (stand_of number call e p l.standing)) p;
      plan : site.tells ≡ true → runs e (goes_on (heard site) e now.left now.next (On (stand_of number call e p l.standing))) p
          ≡ runs e (goes_on (heard site) e before.left before.next (On (stand_of number call e q l.fn.standing))) q;
      rest : site.tells ≡ true → left_of (heard site) e now.left now.next (On (stand_of number call e p l.standing))
          ≡ left_of (heard site) e before.left before.next (On (stand_of number call e q l.fn.standing));
    }

abbrev pub decreases-loop-alloc : goal.decreases-loop-alloc
decreases-loop-alloc g l = (g.B.Grows.stock l.loader.body).left
