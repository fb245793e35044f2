use Rattle.acng_import.specs.Looks.{shelf_of, is_wanted}
use Rattle.acng_import.specs.Steps.{anywhere, named_in}
use Rattle.acng_import.proofs.Stepping.{none_entered, entered_both, have_any, may_have}
use Rattle.acng_import.proofs.file.enter.Goals as goal

pub returns-clause-only : goal.returns-clause-only
returns-clause-only g c = λ t.
    let xs = c.args.reach.now.indexes in
    let a = c.args.arrival in
    let w = c.in-Ok-wanted_paths in
    entered_both (none_entered w.ensures.plain)
    (c.put_all.ensures.only (named_in xs)
    (may_have xs a.hash.0 a.size c.in-Ok.named w.wanted.items c.as_slice.result.now (is_wanted (shelf_of c.args.desk.now) a.hash.0)
    c.in-Ok.ensures.named c.in-Ok.ensures.are_paths (w.ensures.wanted t) c.as_slice.ensures.value))

pub returns-clause-enters : goal.returns-clause-enters
returns-clause-enters g c =
    let a = c.args.arrival in
    entered_both (none_entered c.in-Ok-wanted_paths.ensures.plain)
    (c.put_all.ensures.only anywhere (have_any a.hash.0 a.size c.as_slice.result.now))
