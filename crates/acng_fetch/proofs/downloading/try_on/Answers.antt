use Rattle.std.proofs.Common.{◌≡◌, ◌≤◌, ◌<◌, ◌+◌, ◌-◌, ℕ, List, true, ap, sym, subst, ◌∙◌, arith}
use Rattle.acng_site.specs.Honest.{heard}
use Rattle.acng_grow.specs.Download.{Done, On, ask_of, turn}
use Rattle.acng_grow.specs.Keeps.{attempts_end}
use Rattle.acng_fetch.specs.declared.standing.Turned.TheVariants as turned
use Rattle.acng_fetch.specs.Loads.{StandsIn, Turns, stand_of}
use Rattle.acng_fetch.specs.Orders.{ErrandKeeps}
use Rattle.acng_fetch.proofs.Downloads.{Given}
use Rattle.acng_fetch.proofs.Steps.{errand_sooner, turn_allowed, turn_fits, goes_at, left_at}
use Rattle.acng_fetch.proofs.downloading.try_on.Goals as goal

pub attempt_once-requires-clause-keeps : goal.attempt_once-requires-clause-keeps
attempt_once-requires-clause-keeps g c =
    let site = g.B.Site.Site in
    let i = c.loop-alloc.invariant in
    let before = g.B.Grows.stock c.args.loader.now.body in
    let now = g.B.Grows.stock c.loop-alloc.loader.body in
    let e = c.args.order.now in
    subst (λ (y : List ℕ). ErrandKeeps site y now.next e) (sym i.path)
    (errand_sooner site before.path before.next now.next e i.later c.requires.keeps)

pub attempt_once-requires-clause-allowed : goal.attempt_once-requires-clause-allowed
attempt_once-requires-clause-allowed g c = λ h.
    let site = g.B.Site.Site in
    let i = c.loop-alloc.invariant in
    let before = g.B.Grows.stock c.args.loader.now.body in
    let now = g.B.Grows.stock c.loop-alloc.loader.body in
    let e = c.args.order.now in
    let p = c.loop-alloc.loader.plan in
    let stand = stand_of g.B.Slip.OriginSlip.number g.B.File.Slip.KeeperSlip.number e p c.loop-alloc.standing in
    let keeps = subst (λ (y : List ℕ). ErrandKeeps site y now.next e) (sym i.path)
    (errand_sooner site before.path before.next now.next e i.later c.requires.keeps) in
    let bounded = c.requires.bounded in
    let some : 1 ≤ now.left = omega arith in
    let below : now.next < attempts_end = omega (arith, bounded, i.sum, some) in
    let given : Given site now.path now.next now.next e
    = record { tells = h; honest = c.requires.honest h; errand = keeps; later = omega arith; below = below } in
    turn_allowed site now.path now.next e stand p given (i.fits h)

pub loop-alloc-preserved : goal.loop-alloc-preserved
loop-alloc-preserved g c =
    let site = g.B.Site.Site in
    let number = g.B.Slip.OriginSlip.number in
    let call = g.B.File.Slip.KeeperSlip.number in
    let i = c.loop-alloc.invariant in
    let before = g.B.Grows.stock c.args.loader.now.body in
    let now = g.B.Grows.stock c.loop-alloc.loader.body in
    let l = c.attempt_once.new.loader in
    let after = g.B.Grows.stock l.body in
    let e = c.args.order.now in
    let p = c.loop-alloc.loader.plan in
    let stand = stand_of number call e p c.loop-alloc.standing in
    let bounded = c.requires.bounded in
    let some : 1 ≤ now.left = omega arith in
    let below : now.next < attempts_end = omega (arith, bounded, i.sum, some) in
    let made = c.in_ok-turned.ensures in
    let next : after.next ≡ now.next + 1 = ap (λ k. k.next) made.stock in
    let left : after.left ≡ now.left - 1 = ap (λ k. k.left) made.stock in
    let t : site.tells ≡ true → Turns number call e (turn e now.next stand (heard site now.next (ask_of e stand))) p l.plan
    (turned.Again c.in-Again.next)
    = λ h. rw c.in-Again.is at (made.turns h) in
    let later = rw c.in-Again.is at made.stands in
    let stood = subst (λ f. StandsIn number call f l.plan (g.B.Grows.full l.body) (now.next + 1) c.in-Again.next) i.first later.0 in
    let given : site.tells ≡ true → Given site now.path now.next now.next e
    = λ h. record {
      tells = h;
      honest = c.requires.honest h;
      errand = subst (λ (y : List ℕ). ErrandKeeps site y now.next e) (sym i.path)
          (errand_sooner site before.path before.next now.next e i.later c.requires.keeps);
      later = omega arith;
      below = below;
    } in
    record {
      errand = ap (λ k. k.errand) made.stock ∙ i.errand;
      path = made.path ∙ i.path;
      first = ap (λ k. k.first) made.stock ∙ i.first;
      info = ap (λ k. k.info) made.stock ∙ i.info;
      later = omega (arith, i.later, next);
      sum = omega (arith, i.sum, next, left, some);
      agrees = c.attempt_once.ensures.agrees;
      stands = subst (λ n. StandsIn number call before.first l.plan (g.B.Grows.full l.body) n c.in-Again.next) (sym next) stood;
      tried = λ _. later.1;
      fits = λ h. turn_fits site now.path now.next e stand p (given h) (i.fits h) number call after.path after.next l.plan c.in-Again.next
          made.path next (t h);
      plan = λ h. goes_at (heard site) e now.left after.left now.next after.next stand
          (On (stand_of number call e l.plan c.in-Again.next)) p l.plan some (t h).seen (t h).after left next ∙ i.plan h;
      rest = λ h. left_at (heard site) e now.left after.left now.next after.next stand
          (On (stand_of number call e l.plan c.in-Again.next)) some (t h).after left next ∙ i.rest h;
    }

pub returns-in-Done-clause-plan : goal.returns-in-Done-clause-plan
returns-in-Done-clause-plan g c = λ h.
    let site = g.B.Site.Site in
    let number = g.B.Slip.OriginSlip.number in
    let call = g.B.File.Slip.KeeperSlip.number in
    let now = g.B.Grows.stock c.loop-alloc.loader.body in
    let l = c.attempt_once.new.loader in
    let after = g.B.Grows.stock l.body in
    let e = c.args.order.now in
    let p = c.loop-alloc.loader.plan in
    let stand = stand_of number call e p c.loop-alloc.standing in
    let some : 1 ≤ now.left = omega arith in
    let made = c.in_ok-turned.ensures in
    let t : Turns number call e (turn e now.next stand (heard site now.next (ask_of e stand))) p l.plan turned.Done
    = rw c.in-Done.is at (made.turns h) in
    sym (c.loop-alloc.invariant.plan h)
    ∙ sym (goes_at (heard site) e now.left after.left now.next after.next stand Done p l.plan some t.seen t.after
    (ap (λ k. k.left) made.stock) (ap (λ k. k.next) made.stock))

pub returns-in-Done-clause-left : goal.returns-in-Done-clause-left
returns-in-Done-clause-left g c = λ h.
    let site = g.B.Site.Site in
    let number = g.B.Slip.OriginSlip.number in
    let call = g.B.File.Slip.KeeperSlip.number in
    let now = g.B.Grows.stock c.loop-alloc.loader.body in
    let l = c.attempt_once.new.loader in
    let after = g.B.Grows.stock l.body in
    let e = c.args.order.now in
    let p = c.loop-alloc.loader.plan in
    let stand = stand_of number call e p c.loop-alloc.standing in
    let some : 1 ≤ now.left = omega arith in
    let made = c.in_ok-turned.ensures in
    let t : Turns number call e (turn e now.next stand (heard site now.next (ask_of e stand))) p l.plan turned.Done
    = rw c.in-Done.is at (made.turns h) in
    sym (c.loop-alloc.invariant.rest h)
    ∙ sym (left_at (heard site) e now.left after.left now.next after.next stand Done some t.after (ap (λ k. k.left) made.stock)
    (ap (λ k. k.next) made.stock))
