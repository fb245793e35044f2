use Rattle.std.proofs.Common.{List, ℕ, Bool, subst, ◌∙◌}
use Rattle.acng_reach.specs.Sets.{among}
use Rattle.acng_expire.specs.Places.{remarked_place}
use Rattle.acng_expire.specs.Rounds.{HasPlaces, changed_at}
use Rattle.acng_expire.proofs.Rounds.{round_step, marks_settled}
use Rattle.acng_expire.proofs.round.mark_all.Goals as goal

pub loop-i-preserved : goal.loop-i-preserved
loop-i-preserved g c =
    let now = c.args.now.0 in
    let reached : List ℕ → Bool = λ q. among q c.args.reach.now.paths in
    let h = c.loop-i.desk.plain in
    let new = c.mark_one.new.desk.plain in
    let path = c.index-paths-i.result in
    record {
      places = round_step (λ q p. remarked_place now (reached q) p) (marks_settled now reached) c.args.desk.now.plain h new
          c.held-paths.result.now c.loop-i.i path c.loop-i-test.true c.index-paths-i.is c.loop-i.invariant.places
          (subst (λ b. HasPlaces (changed_at (remarked_place now b) path h) h new) c.reached.ensures c.in_default.ensures.places);
      exact = λ t f. c.in_default.ensures.exact t (c.loop-i.invariant.exact t f);
      may_fail = c.mark_one.ensures.may_fail ∙ c.loop-i.invariant.may_fail;
    }
