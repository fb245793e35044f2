use Rattle.std.proofs.Common.{◌≡◌, ◌<◌, ◌||◌, ℕ, List, [], ap, subst, sym, refl, ◌∙◌, arith, length, Some, slice_index_or}
use Rattle.std.specs.FinMap as map
use Rattle.acng_keeper.specs.Kept.{Stored}
use Rattle.acng_rows.specs.declared.row.Whole.{Whole}
use Rattle.acng_rows.specs.Rows.{whole_at}
use Rattle.acng_rows.specs.Starts.{Steps}
use Rattle.acng_rows.proofs.Starts.{none_loop, none_found, none_under, got_entry, stepped, same_trans, later_trans, enter_found}
use Rattle.acng_rows.proofs.Starts.{enter_under, key_below, key_before}
use Rattle.acng_rows.proofs.find.read_rows.Goals as goal

pub loop-i-init : goal.loop-i-init
loop-i-init g c = record {
  stands = λ tells. none_loop c.args.heads.now (g.K.Keeper.kept c.args.keeper.now).bodies c.new-rows.result c.new-rows.ensures;
  found = none_found (g.K.Keeper.next c.args.keeper.now) c.new-rows.result c.new-rows.ensures;
  under = λ path w at j from to. none_under (slice_index_or c.args.heads.now j (0, [])).0 c.new-rows.result path w c.new-rows.ensures at;
  same = λ tells. record { stored_is = refl; loose_is = refl; trail_is = refl };
  same_next = refl;
  later = record { count = omega arith; may_fail = refl };
}

pub step-requires-clause-all : goal.step-requires-clause-all
step-requires-clause-all g c = λ tells.
    c.requires.all tells c.get.result.0.0
    ∙ ap (λ (s : Stored). map.contains_key s.bodies c.get.result.0.0 || map.contains_key
    (g.K.Keeper.kept c.args.keeper.now).loose c.get.result.0.0) (sym (c.loop-i.invariant.same tells).stored_is)
    ∙ ap (λ m. map.contains_key (g.K.Keeper.kept c.loop-i.keeper).bodies c.get.result.0.0 || map.contains_key m c.get.result.0.0)
    (sym (c.loop-i.invariant.same tells).loose_is)

pub step-requires-clause-sealed : goal.step-requires-clause-sealed
step-requires-clause-sealed g c = λ tells h reads is.
    let small : c.loop-i.i < length c.args.heads.now = omega (arith, c.loop-i-test.true, c.len-i-end.ensures.count) in
    ap (λ m. map.contains_key m c.get.result.0.0) (c.loop-i.invariant.same tells).loose_is
    ∙ (c.requires.sealed tells).each c.get.result.0.0 h (ap (λ m. map.get m c.get.result.0.0) (sym (c.requires.listed tells))
    ∙ got_entry c.args.heads.now c.loop-i.i c.get.result.0.0 c.get.result.1.now c.len-i-end.ensures.ordered small
    c.get.ensures.entry ∙ ap Some (sym is)) reads

pub loop-i-preserved : goal.loop-i-preserved
loop-i-preserved g c =
    let heads = c.args.heads.now in
    let id = c.get.result.0.0 in
    let bytes = c.get.result.1.now in
    let sorted = c.len-i-end.ensures.ordered in
    let small : c.loop-i.i < length heads = omega (arith, c.loop-i-test.true, c.len-i-end.ensures.count) in
    let next = g.K.Keeper.next c.args.keeper.now in
    let low : id < next = key_below next heads c.loop-i.i id bytes c.requires.below small c.get.ensures.entry in
    let under : (path : List ℕ) (w : Whole) → whole_at c.loop-i.rows path ≡ Some w → w.id < id =
    λ path w at. subst (λ n. w.id < n) (sym (ap (λ p. p.0) c.get.ensures.entry)) (c.loop-i.invariant.under path w at c.loop-i.i
    (omega arith) small) in
    record {
      stands = λ tells. stepped heads (g.K.Keeper.kept c.args.keeper.now).bodies c.loop-i.i id bytes c.loop-i.rows c.step.new.rows
          sorted small c.get.ensures.entry
          (subst (λ (t : Stored). Steps t.bodies id bytes c.loop-i.rows c.step.new.rows) (c.loop-i.invariant.same tells).stored_is
          (c.in_ok-step.ensures.steps tells)) (c.loop-i.invariant.stands tells);
      found = enter_found next id c.loop-i.rows c.step.new.rows low c.loop-i.invariant.found under c.in_ok-step.ensures.enters;
      under = λ path w at j from to. enter_under next id (slice_index_or heads j (0, [])).0 c.loop-i.rows c.step.new.rows low
          (key_before heads c.loop-i.i id j bytes sorted (omega (arith, from)) to c.get.ensures.entry) c.loop-i.invariant.found under
          c.in_ok-step.ensures.enters path w at;
      same = λ tells. same_trans _ (g.K.Keeper.kept c.loop-i.keeper) _ (c.loop-i.invariant.same tells) (c.in_ok-step.ensures.same tells);
      same_next = c.in_ok-step.ensures.same_next ∙ c.loop-i.invariant.same_next;
      later = later_trans _ (g.K.Keeper.faults c.loop-i.keeper) _ c.loop-i.invariant.later c.in_ok-step.ensures.later;
    }
