use Rattle.std.proofs.Common.{◌<◌, refl, ◌∙◌, arith, length, get_or}
use Rattle.acng_keeper.specs.Kept.{stored}
use Rattle.acng_rows.specs.declared.removal.Removal.TheVariants as removal
use Rattle.acng_rows.specs.Removals.{effects_of, loose_by}
use Rattle.acng_rows.proofs.Starts.{later_trans}
use Rattle.acng_rows.proofs.Removals.{goes_on, stops, changes_on, loose_goes, loose_on, less_on, off_at, none_dropped}
use Rattle.acng_rows.proofs.removal.remove_all.Goals as goal

pub loop-i-init : goal.loop-i-init
loop-i-init g c = record {
  goes = λ tells. none_dropped c.args.list.now (g.K.Keeper.kept c.args.keeper.now);
  ahead = λ tells. refl;
  left = λ tells. refl;
  others = λ tells. record { each = λ id off. refl; less = λ id none. none };
  same_next = refl;
  later = record { count = omega arith; may_fail = refl };
}

pub loop-i-preserved : goal.loop-i-preserved
loop-i-preserved g c =
    let small : c.loop-i.i < length c.args.list.now = omega (arith, c.loop-i-test.true) in
    let r = get_or c.args.list.now c.loop-i.i (removal.Head 0) in
    record {
      goes = λ tells. goes_on _ (g.K.Keeper.kept c.args.keeper.now) (g.K.Keeper.kept c.loop-i.keeper)
          (g.K.Keeper.kept c.remove_one.new.keeper) c.args.list.now c.loop-i.i r small refl (c.loop-i.invariant.goes tells)
          (c.in_ok-remove_one.ensures.went tells);
      ahead = λ tells. changes_on _ (stored (g.K.Keeper.kept c.loop-i.keeper)) (stored (g.K.Keeper.kept c.remove_one.new.keeper))
          c.args.list.now c.loop-i.i r small refl (c.loop-i.invariant.ahead tells) (c.in_ok-remove_one.ensures.went tells).gone;
      left = λ tells. loose_goes (loose_by (effects_of c.args.list.now) (g.K.Keeper.kept c.args.keeper.now).loose)
          (g.K.Keeper.kept c.loop-i.keeper).loose (g.K.Keeper.kept c.remove_one.new.keeper).loose c.args.list.now c.loop-i.i r small refl
          (c.loop-i.invariant.left tells) (c.in_ok-remove_one.ensures.went tells).loose;
      others = λ tells. record {
        each = λ id off. loose_on r id (g.K.Keeper.kept c.loop-i.keeper)
            (g.K.Keeper.kept c.remove_one.new.keeper) (off_at c.args.list.now c.loop-i.i r id small refl off)
            (c.in_ok-remove_one.ensures.either tells) ∙ (c.loop-i.invariant.others tells).each id off;
        less = λ id none. less_on r id
            (g.K.Keeper.kept c.loop-i.keeper) (g.K.Keeper.kept c.remove_one.new.keeper) (c.in_ok-remove_one.ensures.either tells)
            ((c.loop-i.invariant.others tells).less id none);
      };
      same_next = c.in_ok-remove_one.ensures.same_next ∙ c.loop-i.invariant.same_next;
      later = later_trans _ (g.K.Keeper.faults c.loop-i.keeper) _ c.loop-i.invariant.later c.in_ok-remove_one.ensures.later;
    }

pub returns-in_err-remove_one-clause-stops : goal.returns-in_err-remove_one-clause-stops
returns-in_err-remove_one-clause-stops g c = λ tells.
    let small : c.loop-i.i < length c.args.list.now = omega (arith, c.loop-i-test.true) in
    stops _ (g.K.Keeper.kept c.args.keeper.now) (g.K.Keeper.kept c.loop-i.keeper)
    (g.K.Keeper.kept c.remove_one.new.keeper) c.args.list.now c.loop-i.i (get_or c.args.list.now c.loop-i.i
    (removal.Head 0)) small refl (c.loop-i.invariant.goes tells) (c.in_err-remove_one.ensures.either tells)

pub returns-in_err-remove_one-clause-others : goal.returns-in_err-remove_one-clause-others
returns-in_err-remove_one-clause-others g c = λ tells.
    let small : c.loop-i.i < length c.args.list.now = omega (arith, c.loop-i-test.true) in
    let r = get_or c.args.list.now c.loop-i.i (removal.Head 0) in
    record {
      each = λ id off. loose_on r id (g.K.Keeper.kept c.loop-i.keeper) (g.K.Keeper.kept c.remove_one.new.keeper)
          (off_at c.args.list.now c.loop-i.i r id small refl off) (c.in_err-remove_one.ensures.either tells)
          ∙ (c.loop-i.invariant.others tells).each id off;
      less = λ id none. less_on r id (g.K.Keeper.kept c.loop-i.keeper)
          (g.K.Keeper.kept c.remove_one.new.keeper) (c.in_err-remove_one.ensures.either tells)
          ((c.loop-i.invariant.others tells).less id none);
    }
