use Rattle.std.proofs.Common.{◌≡◌, ◌∙◌, refl, sym, subst, true, is_some, Option, ℕ}
use Rattle.std.specs.Option.{IfSome}
use Rattle.std.specs.FinMap as map
use Rattle.acng_rows.specs.Rows.{whole_at, without_whole}
use Rattle.acng_desk.specs.House.{Plain}
use Rattle.acng_desk.specs.Keeps.{IsNobodys}
use Rattle.acng_desk.proofs.Removes.{part_freed}
use Rattle.acng_desk.proofs.Removings.{remove_is}
use Rattle.acng_desk.proofs.Stopped.{rest_stops, then_files, plain_rows}
use Rattle.acng_desk.specs.Commands.{Remove, step}
use Rattle.acng_desk.proofs.desk.Desk.remove.Goals as goal

pub discard_body-requires : goal.discard_body-requires
discard_body-requires g c =
    let p = c.args.self.now.plain in
    let path = c.args.path.now in
    let has : is_some (whole_at p.rows path) ≡ true = sym c.is_held.ensures ∙ c.if-not-is_held.false in
    let P : Plain → Type 0 = λ q. IfSome c.resting_id-part.result (IsNobodys q.rows q.parts) in
    let done : Plain = record p { rows = without_whole p.rows path; parts = map.remove p.parts path } in
    record {
      nobodys = subst P (sym (c.in_ok-take_out.ensures.plain ∙ remove_is p path has))
          (subst (λ (o : Option ℕ). IfSome o (IsNobodys done.rows done.parts)) (sym c.resting_id-part.ensures)
          (part_freed p path g.S.Site g.K.Keeper.tells c.keeps.ensures.plain));
    }

pub returns-then-not-is_held-clause-stops : goal.returns-then-not-is_held-clause-stops
returns-then-not-is_held-clause-stops g c = λ told.
    rest_stops g.S.Site (step (Remove c.args.path.now) c.args.self.now.plain).rows c.args.self.now c.args.self.now refl

pub returns-in-Ok-clause-stops : goal.returns-in-Ok-clause-stops
returns-in-Ok-clause-stops g c = λ told.
    let h = c.args.self.now in
    let mid = c.take_out.new.self in
    then_files g.S.Site (step (Remove c.args.path.now) h.plain).rows h mid c.discard_body.new.self
    (plain_rows mid.plain (step (Remove c.args.path.now) h.plain) c.take_out.ensures.plain) (c.take_out.ensures.stops told)
    (c.in_ok-take_out.ensures.exact told) (c.keeps-2.ensures.kept told).holds (c.discard_body.ensures.files told)

pub returns-in-Ok-clause-exact : goal.returns-in-Ok-clause-exact
returns-in-Ok-clause-exact g c = λ told found. (c.discard_body.ensures.files told).1 (c.in_ok-take_out.ensures.exact told found)

pub returns-in-Err-clause-stops : goal.returns-in-Err-clause-stops
returns-in-Err-clause-stops g c = λ told.
    let h = c.args.self.now in
    let mid = c.take_out.new.self in
    then_files g.S.Site (step (Remove c.args.path.now) h.plain).rows h mid c.discard_body.new.self
    (plain_rows mid.plain (step (Remove c.args.path.now) h.plain) c.take_out.ensures.plain) (c.take_out.ensures.stops told)
    (c.in_ok-take_out.ensures.exact told) (c.keeps-2.ensures.kept told).holds (c.discard_body.ensures.files told)
