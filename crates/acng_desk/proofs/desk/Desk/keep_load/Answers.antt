use Rattle.std.proofs.Common.{◌≡◌, sym, subst, ap, ◌∙◌, Some, None}
use Rattle.std.specs.Option.{IfSome}
use Rattle.acng_desk.specs.House.{Plain}
use Rattle.acng_desk.specs.Keeps.{IsNobodys}
use Rattle.acng_grow.specs.Grown.{number_of}
use Rattle.acng_desk.specs.Settles.{left_with, new_in}
use Rattle.acng_desk.specs.Stops.{StopsAt}
use Rattle.acng_desk.proofs.Owns.{apart_if, hold_freed}
use Rattle.acng_desk.proofs.Results.{ok_all}
use Rattle.acng_desk.proofs.Stopped.{rest_stops, then_files, plain_rows}
use Rattle.acng_desk.proofs.desk.Desk.keep_load.Goals as goal

pub other_than-other-requires : goal.other_than-other-requires
other_than-other-requires g c = record {
  apart = apart_if g.S.Site g.K.Keeper.tells c.args.self.now.plain c.args.info.now.path c.args.info.now
      c.keeps.ensures.plain c.requires.out;
}

pub discard_body-requires : goal.discard_body-requires
discard_body-requires g c =
    let P : Plain → Type 0 = λ p. IfSome c.other_than-other.result (IsNobodys p.rows p.parts) in
    record {
      nobodys = subst P (sym c.in_ok-hold.ensures.plain)
          (hold_freed g.S.Site g.K.Keeper.tells c.args.self.now c.args.info.now.path c.args.info.now c.in-Ok.whole c.other_than-other.result
          c.keeps.ensures c.requires.out c.other_than-other.ensures);
    }

pub returns-in_default-clause-stops : goal.returns-in_default-clause-stops
returns-in_default-clause-stops g c = λ told.
    let h = c.args.self.now in
    let b = c.args.body.now in
    rest_stops g.S.Site
    (left_with c.args.info.now.path (new_in c.args.info.now.moment (number_of b) b.seen.label b.seen) None h.plain).rows
    h c.close.new.self c.close.ensures.kept

pub returns-clause-stops : goal.returns-clause-stops
returns-clause-stops g c = λ told.
    let h = c.args.self.now in
    let b = c.args.body.now in
    let mid = c.hold.new.self in
    let done : Plain = left_with c.args.info.now.path (new_in c.args.info.now.moment (number_of b) b.seen.label b.seen) None h.plain in
    let w_is = c.in-Ok.ensures.whole in
    let as_done : left_with c.args.info.now.path (Some c.in-Ok.whole) None h.plain ≡ done =
    ap (λ w. left_with c.args.info.now.path w None h.plain) (sym w_is) in
    then_files g.S.Site done.rows h mid c.discard_body.new.self (plain_rows mid.plain done (c.in_ok-hold.ensures.plain ∙ as_done))
    (subst (λ (p : Plain). StopsAt g.S.Site p.rows h mid) as_done (c.hold.ensures.stops told))
    (c.in_ok-hold.ensures.exact told) (c.keeps-3.ensures.kept told).holds (c.discard_body.ensures.files told)

pub returns-clause-exact : goal.returns-clause-exact
returns-clause-exact g c =
    ok_all c.discard_body.result (λ told found. (c.discard_body.ensures.files told).1 (c.in_ok-hold.ensures.exact told found))
