use Rattle.std.proofs.Common.{◌≡◌, true, sym, ◌∙◌}
use Rattle.acng_rows.specs.Rows.{whole_at}
use Rattle.acng_expire.specs.Places.{is_due}
use Rattle.acng_expire.proofs.Changes.{due_goes}
use Rattle.acng_expire.proofs.Told.{told, told_due}
use Rattle.acng_expire.proofs.round.remove_one.Goals as goal

pub returns-in-Ok-clause-places : goal.returns-in-Ok-clause-places
returns-in-Ok-clause-places g c =
    let p = c.args.desk.now.plain in
    let path = c.args.path.now in
    let limit = c.args.limit in
    let now = c.args.now.0 in
    let t = told (whole_at p.rows path) c.in-Some.row c.in-Some.ensures in
    let due : is_due limit now (whole_at p.rows path) ≡ true =
    told_due limit now (whole_at p.rows path) c.in-Some.row c.in-Some.ensures ∙ sym c.if-not-is_over.ensures in
    due_goes limit now p path t.whole t.at due c.take_away.new.desk.plain c.take_away.ensures.plain

pub returns-in-Err-clause-places : goal.returns-in-Err-clause-places
returns-in-Err-clause-places g c =
    let p = c.args.desk.now.plain in
    let path = c.args.path.now in
    let limit = c.args.limit in
    let now = c.args.now.0 in
    let t = told (whole_at p.rows path) c.in-Some.row c.in-Some.ensures in
    let due : is_due limit now (whole_at p.rows path) ≡ true =
    told_due limit now (whole_at p.rows path) c.in-Some.row c.in-Some.ensures ∙ sym c.if-not-is_over.ensures in
    due_goes limit now p path t.whole t.at due c.take_away.new.desk.plain c.take_away.ensures.plain
