use Rattle.std.proofs.Common.{Bool, cond, sym, ap, ◌∙◌}
use Rattle.acng_rows.specs.declared.stamp.Stamp.TheVariants.{Mark}
use Rattle.acng_rows.specs.Rows.{restamped}
use Rattle.acng_desk.specs.House.{Plain}
use Rattle.acng_desk.specs.Commands.{marked}
use Rattle.acng_desk.proofs.Results.{ok_both}
use Rattle.acng_desk.proofs.Stopped.{as_stops, marked_alike}
use Rattle.acng_desk.proofs.desk.Desk.set_mark.Goals as goal

pub returns-clause-plain : goal.returns-clause-plain
returns-clause-plain g c =
    let p = c.args.self.now.plain in
    let path = c.args.path.now in
    let done : Plain = record p { rows = restamped (Mark c.args.mark) p.rows path } in
    ok_both c.stamp.result (λ is there. is ∙ sym (ap (λ (b : Bool). cond b done p) there)) c.stamp.ensures.plain c.stamp.ensures.there

pub returns-clause-stops : goal.returns-clause-stops
returns-clause-stops g c = λ told.
    let p = c.args.self.now.plain in
    let path = c.args.path.now in
    as_stops g.S.Site (restamped (Mark c.args.mark) p.rows path) (marked c.args.mark path p).rows c.args.self.now c.stamp.new.self
    (marked_alike c.args.mark path p) (c.stamp.ensures.stops told)
