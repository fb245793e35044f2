use Rattle.std.proofs.Common.{◌≤◌, ap, ◌∙◌, take, arith}
use Rattle.acng_expire.specs.Places.{cleared}
use Rattle.acng_expire.specs.Rounds.{one, is_due_at}
use Rattle.acng_expire.proofs.Rounds.{round_step, removals_settled, due_same}
use Rattle.acng_expire.proofs.Sweeps.{many_step, next_apart, one_most}
use Rattle.acng_expire.proofs.round.remove_all.Goals as goal

pub loop-i-preserved : goal.loop-i-preserved
loop-i-preserved g c =
    let limit = c.args.limit in
    let now = c.args.now.0 in
    let old = c.args.desk.now.plain in
    let h = c.loop-i.desk.plain in
    let ps = c.args.paths.now in
    let i = c.loop-i.i in
    let path = c.index-paths-i.result in
    let inside = c.loop-i.invariant in
    let apart = next_apart ps i path c.requires c.loop-i-test.true c.index-paths-i.is in
    let counted = c.in-Ok.ensures.count ∙ ap one (due_same limit now old h (take i ps) path inside.places apart) in
    let most : c.in-Ok.n ≤ 1 = one_most c.in-Ok.n (is_due_at limit now old path) counted in
    let n = many_step (is_due_at limit now old) ps i path c.loop-i-test.true c.index-paths-i.is in
    record {
      few = omega arith;
      places = round_step (λ q p. cleared limit now p) (removals_settled limit now) old h c.remove_one.new.desk.plain ps i path
          c.loop-i-test.true c.index-paths-i.is inside.places c.remove_one.ensures.places;
      count = omega (arith, n, counted, inside.count);
      exact = λ t f. c.in-Ok.ensures.exact t (inside.exact t f);
      may_fail = c.remove_one.ensures.may_fail ∙ inside.may_fail;
    }
