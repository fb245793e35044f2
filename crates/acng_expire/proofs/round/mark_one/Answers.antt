use Rattle.std.proofs.Common.{◌≡◌, Option, sym, subst}
use Rattle.acng_base.specs.declared.clock.Moment.{Moment}
use Rattle.acng_rows.specs.Rows.{whole_at}
use Rattle.acng_expire.specs.Runs.{new_mark}
use Rattle.acng_expire.specs.Places.{seconds, moment_of}
use Rattle.acng_expire.proofs.Changes.{mark_put}
use Rattle.acng_expire.proofs.Told.{told, on_ok}
use Rattle.acng_expire.proofs.round.mark_one.Goals as goal

pub returns-clause-places : goal.returns-clause-places
returns-clause-places g c =
    let p = c.args.desk.now.plain in
    let path = c.args.path.now in
    let reached = c.args.reached in
    let now = c.args.now.0 in
    let t = told (whole_at p.rows path) c.in-Some.row c.in-Some.ensures in
    let mark = c.new_mark-mark.result in
    let by : Option Moment → Option Moment = λ m. moment_of (new_mark reached now (seconds m)) in
    let is : mark ≡ by t.whole.mark = subst (λ m. mark ≡ by m) (sym t.mark) c.new_mark-mark.ensures in
    on_ok c.put_mark.result c.put_mark.ensures.plain
    (mark_put now reached p path t.whole t.at mark is c.put_mark.new.desk.plain)
