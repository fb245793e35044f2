use Rattle.std.proofs.Common.{sym, subst}
use Rattle.acng_expire.specs.Rounds.{AreApart}
use Rattle.acng_expire.specs.Expirations.{HasRun}
use Rattle.acng_expire.proofs.Ends.{ended, cut_short, cut_run}
use Rattle.acng_expire.proofs.Orders.{are_apart}
use Rattle.acng_expire.proofs.run.expire_by.Goals as goal

pub remove_all-requires : goal.remove_all-requires
remove_all-requires g c = subst AreApart (sym c.held.ensures) (are_apart c.args.reach.now.held c.requires.in_order)

pub returns-in-Ok : goal.returns-in-Ok
returns-in-Ok g c =
    let marks = c.in_default.ensures in
    let removals = c.in-Ok.ensures in (
      ended c.args.desk.now.plain c.mark_all.new.desk.plain c.remove_all.new.desk.plain c.args.now.0 c.args.reach.now c.requires.held
          marks.places c.limit_of-limit.result c.held.result.now c.limit_of-limit.ensures c.held.ensures c.in-Ok.removed
          c.count_marks.result c.held-in-Ok.result.now c.held-in-Ok.ensures removals.places removals.count c.count_marks.ensures,
      λ t f. removals.exact t (marks.exact t f),
    )

pub returns-in-Err-remove_all : goal.returns-in-Err-remove_all
returns-in-Err-remove_all g c =
    let old = c.args.desk.now in
    let marks = c.in_default.ensures in
    let stop = c.in-Err-remove_all.stop in
    let is_cut = cut_short old.plain c.mark_all.new.desk.plain c.remove_all.new.desk.plain c.args.now.0 c.args.reach.now c.requires.held
    marks.places c.limit_of-limit.result c.held.result.now c.limit_of-limit.ensures c.held.ensures stop.removed
    c.in-Err-remove_all.ensures.cut in
    subst (λ e. HasRun g.K.Keeper.tells c.args.now.0 c.args.reach.now old c.remove_all.new.desk e) (sym c.cut-in-Err-remove_all.ensures)
    (cut_run g.K.Keeper.tells c.args.now.0 c.args.reach.now old c.remove_all.new.desk c.mark_all.new.desk.faults.may_fail marks.may_fail
    stop.fault stop.removed is_cut c.in-Err-remove_all.ensures.cause)
