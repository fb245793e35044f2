use Rattle.std.proofs.Common.{◌≡◌, ◌+◌, ◌-◌, ◌≤◌, ◌<◌, ℕ, suc, [], ◌∷◌, ◌++◌, length, ap, sym, subst, ◌∙◌, arith}
use Rattle.acng_serve.specs.declared.notes.SessionStop.TheVariants as stop
use Rattle.acng_serve.specs.Among.{by_house}
use Rattle.acng_serve.proofs.Stills.{Stills, stills_fresh, stills_on, over_replied, over_unread, over_limit, unserved, session_as, length-snoc}
use Rattle.acng_serve.proofs.connection.session.Goals as goal

pub loop-more-init : goal.loop-more-init
loop-more-init g c =
    let none = c.in-Ok.ensures.items in
    record {
      count = ap (λ ns. length ns + 1000) none;
      room = let exact = c.in-Ok.ensures.exact in omega arith;
      still = stills_fresh (by_house g.S.Site g.K.Keeper.tells c.args.house.now) g.L.Link c.args.client.now
          (g.C.Clock.coming c.args.clock.now) c.in-Ok-new.buf c.in-Ok.notes.items c.in-Ok-new.ensures none;
    }

before : (k : ℕ) → 0 < k → k ≡ suc (k - 1)
before k h = omega arith

pub loop-more-preserved : goal.loop-more-preserved
loop-more-preserved g c =
    let rule = by_house g.S.Site g.K.Keeper.tells c.args.house.now in
    let l = g.L.Link in
    let from = c.args.client.now in
    let at = c.loop-more.client in
    let to = c.serve_next_among.new.client in
    let x0 = g.C.Clock.coming c.args.clock.now in
    let x = g.C.Clock.coming c.loop-more.clock in
    let y = g.C.Clock.coming c.serve_next_among.new.clock in
    let held = c.loop-more.buf in
    let kept = c.serve_next_among.new.buf in
    let notes = c.loop-more.notes.items in
    let note = c.in-Goes.note in
    let k = c.loop-more.more - 1 in
    let items = c.push_reserved.ensures.items in
    record {
      count =
          let long = ap length items ∙ length-snoc notes note in
          let count = c.loop-more.invariant.count in
          let more = c.loop-more-test.true in
          omega arith;
      room = subst (λ n. 1000 ≤ n) (sym c.push_reserved.ensures.capacity) c.loop-more.invariant.room;
      still = subst (λ ns. Stills rule l from to kept x0 y ns k) (sym items)
          (stills_on rule l from x0 at to held kept x y notes k
          (subst (Stills rule l from at held x0 x notes) (before c.loop-more.more c.loop-more-test.true) c.loop-more.invariant.still) note
          c.in-Goes.ensures);
    }

pub returns-in-Closes : goal.returns-in-Closes
returns-in-Closes g c =
    let rule = by_house g.S.Site g.K.Keeper.tells c.args.house.now in
    let l = g.L.Link in
    let from = c.args.client.now in
    let at = c.loop-more.client in
    let to = c.serve_next_among.new.client in
    let x0 = g.C.Clock.coming c.args.clock.now in
    let x = g.C.Clock.coming c.loop-more.clock in
    let y = g.C.Clock.coming c.serve_next_among.new.clock in
    let held = c.loop-more.buf in
    let kept = c.serve_next_among.new.buf in
    let notes = c.loop-more.notes.items in
    let note = c.in-Closes.note in
    let k = c.loop-more.more - 1 in
    let ended = c.ended-in-Closes in
    record {
      session = session_as rule l from to x0 y (notes ++ note ∷ []) ended.result.notes c.in-Closes.stop ended.result.stop
          (ended.ensures.notes ∙ c.push_reserved-in-Closes.ensures.items) ended.ensures.stop
          (over_replied rule l from x0 at to held kept x y notes k
          (subst (Stills rule l from at held x0 x notes) (before c.loop-more.more c.loop-more-test.true) c.loop-more.invariant.still) note
          c.in-Closes.stop
          c.in-Closes.ensures);
    }

pub returns-in-Over : goal.returns-in-Over
returns-in-Over g c =
    let rule = by_house g.S.Site g.K.Keeper.tells c.args.house.now in
    let l = g.L.Link in
    let from = c.args.client.now in
    let at = c.loop-more.client in
    let to = c.serve_next_among.new.client in
    let x0 = g.C.Clock.coming c.args.clock.now in
    let x = g.C.Clock.coming c.loop-more.clock in
    let y = g.C.Clock.coming c.serve_next_among.new.clock in
    let notes = c.loop-more.notes.items in
    record {
      session = session_as rule l from to x0 y notes c.ended-in-Over.result.notes c.in-Over.stop c.ended-in-Over.result.stop c.ended-in-Over.ensures.notes
          c.ended-in-Over.ensures.stop
          (over_unread rule l from x0 at to c.loop-more.buf c.serve_next_among.new.buf x y notes (c.loop-more.more - 1)
          (subst (Stills rule l from at c.loop-more.buf x0 x notes) (before c.loop-more.more c.loop-more-test.true) c.loop-more.invariant.still)
          c.in-Over.stop c.in-Over.ensures);
    }

pub returns : goal.returns
returns g c =
    let rule = by_house g.S.Site g.K.Keeper.tells c.args.house.now in
    let l = g.L.Link in
    let from = c.args.client.now in
    let at = c.loop-more.client in
    let x0 = g.C.Clock.coming c.args.clock.now in
    let x = g.C.Clock.coming c.loop-more.clock in
    let notes = c.loop-more.notes.items in
    record {
      session = session_as rule l from at x0 x notes c.ended-2.result.notes stop.Limit c.ended-2.result.stop c.ended-2.ensures.notes c.ended-2.ensures.stop
          (over_limit rule l from x0 at c.loop-more.buf x notes c.loop-more.more c.loop-more-test.false c.loop-more.invariant.still);
    }

pub returns-in_default : goal.returns-in_default
returns-in_default g c =
    let rule = by_house g.S.Site g.K.Keeper.tells c.args.house.now in
    let l = g.L.Link in
    let from = c.args.client.now in
    let x = g.C.Clock.coming c.args.clock.now in
    record {
      session = session_as rule l from from x x [] c.ended.result.notes stop.NoMemory c.ended.result.stop (c.ended.ensures.notes ∙ c.new.ensures.items)
          c.ended.ensures.stop (unserved rule l from x);
    }

pub returns-in_default-new : goal.returns-in_default-new
returns-in_default-new g c =
    let rule = by_house g.S.Site g.K.Keeper.tells c.args.house.now in
    let l = g.L.Link in
    let from = c.args.client.now in
    let x = g.C.Clock.coming c.args.clock.now in
    record {
      session = session_as rule l from from x x [] c.ended-in_default-new.result.notes stop.NoMemory c.ended-in_default-new.result.stop
          (c.ended-in_default-new.ensures.notes ∙ c.in-Ok.ensures.items) c.ended-in_default-new.ensures.stop (unserved rule l from x);
    }
