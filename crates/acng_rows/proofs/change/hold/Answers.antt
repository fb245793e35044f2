use Rattle.std.proofs.Common.{◌≡◌, ◌∙◌, ap, sym, subst, refl, true, Some, Option, ℕ}
use Rattle.std.proofs.lemmas.Result.{on_ok_weaker}
use Rattle.acng_keeper.specs.Kept.{stored}
use Rattle.acng_keeper.specs.Images.{changed, IsAlong, LeavesOnly}
use Rattle.acng_rows.specs.Rows.{Rows, whole_at, id_in_whole, with_whole}
use Rattle.acng_rows.specs.Goods.{AreHeld, IsExact}
use Rattle.acng_rows.specs.Removals.{effects_of, both_of}
use Rattle.acng_rows.proofs.Removals.{held_left, sealed_left}
use Rattle.acng_rows.proofs.Changes.{hold_refused, hold_row, old_unnamed, hold_put_stops, hold_stops, hold_exact, hold_sealed}
use Rattle.acng_rows.proofs.change.hold.Goals as goal

pub returns-in_err-put_whole-clause-held : goal.returns-in_err-put_whole-clause-held
returns-in_err-put_whole-clause-held g c =
    hold_refused g.K.Keeper.tells (g.K.Keeper.next c.args.keeper.now) c.args.rows.now
    (g.K.Keeper.kept c.args.keeper.now) c.args.path.now c.args.whole
    c.requires.head c.requires.below c.requires.own c.requires.held (g.K.Keeper.kept c.put_whole.new.keeper)
    (g.K.Keeper.next c.put_whole.new.keeper)
    c.put_whole.ensures.same_next c.put_whole.ensures.either

pub returns-in_err-put_whole-clause-stops : goal.returns-in_err-put_whole-clause-stops
returns-in_err-put_whole-clause-stops g c = λ tells.
    hold_put_stops g.K.Keeper.tells (g.K.Keeper.next c.args.keeper.now) c.args.rows.now
    (g.K.Keeper.kept c.args.keeper.now) c.args.path.now c.args.whole
    c.requires.head c.requires.below c.requires.own c.requires.held (c.requires.body tells) (g.K.Keeper.kept c.put_whole.new.keeper)
    (c.put_whole.ensures.either tells)

pub returns-in_err-put_whole-clause-sealed : goal.returns-in_err-put_whole-clause-sealed
returns-in_err-put_whole-clause-sealed g c = λ tells.
    hold_sealed g.K.Keeper.tells (g.K.Keeper.next c.args.keeper.now) c.args.rows.now
    (g.K.Keeper.kept c.args.keeper.now) c.args.path.now c.args.whole
    c.requires.head c.requires.below c.requires.own c.requires.held (c.requires.body tells) (g.K.Keeper.kept c.put_whole.new.keeper)
    (g.met.K.Keeper.sound c.args.keeper.now tells).apart (c.put_whole.ensures.either tells)

pub returns-clause-held : goal.returns-clause-held
returns-clause-held g c =
    let rows = c.args.rows.now in
    let old = whole_at rows c.args.path.now in
    let next = g.K.Keeper.next c.put_whole.new.keeper in
    let mid = hold_row g.K.Keeper.tells (g.K.Keeper.next c.args.keeper.now) rows
    (g.K.Keeper.kept c.args.keeper.now) c.args.path.now c.args.whole
    c.requires.head c.requires.below c.requires.own c.requires.held (g.K.Keeper.kept c.put_whole.new.keeper) next
    c.put_whole.ensures.same_next
    c.requires.body c.in_ok-put_whole.ensures.comes in
    let none = old_unnamed g.K.Keeper.tells (g.K.Keeper.next c.args.keeper.now) rows
    (g.K.Keeper.kept c.args.keeper.now) c.args.path.now c.args.whole
    c.requires.head c.requires.below c.requires.own c.requires.held old refl in
    let P : Option ℕ → Type 0 = λ o. g.K.Keeper.tells ≡ true → LeavesOnly (IsAlong (effects_of (both_of o))
    (stored (g.K.Keeper.kept c.put_whole.new.keeper))) (g.K.Keeper.kept c.put_whole.new.keeper)
    (g.K.Keeper.kept c.remove_old.new.keeper) in
    let stops : P (id_in_whole old) = subst P c.swap_whole-old.ensures.old c.remove_old.ensures.stops in
    subst (λ (m : Rows). AreHeld g.K.Keeper.tells (g.K.Keeper.next c.remove_old.new.keeper) m (g.K.Keeper.kept c.remove_old.new.keeper))
    (sym c.swap_whole-old.ensures.rows)
    (held_left g.K.Keeper.tells next (g.K.Keeper.next c.remove_old.new.keeper) (with_whole rows c.args.path.now (Some c.args.whole))
    (both_of (id_in_whole old))
    (g.K.Keeper.kept c.put_whole.new.keeper) (g.K.Keeper.kept c.remove_old.new.keeper) c.remove_old.ensures.same_next none stops mid)

pub returns-clause-stops : goal.returns-clause-stops
returns-clause-stops g c = λ tells.
    let P : Option ℕ → Type 0 = λ o. LeavesOnly (IsAlong (effects_of (both_of o)) (stored (g.K.Keeper.kept c.put_whole.new.keeper)))
    (g.K.Keeper.kept c.put_whole.new.keeper) (g.K.Keeper.kept c.remove_old.new.keeper) in
    hold_stops g.K.Keeper.tells (g.K.Keeper.next c.args.keeper.now) c.args.rows.now
    (g.K.Keeper.kept c.args.keeper.now) c.args.path.now c.args.whole
    c.requires.head c.requires.below c.requires.own c.requires.held (c.requires.body tells) (g.K.Keeper.kept c.put_whole.new.keeper)
    (g.K.Keeper.kept c.remove_old.new.keeper) (c.in_ok-put_whole.ensures.comes tells)
    (subst P c.swap_whole-old.ensures.old (c.remove_old.ensures.stops tells))

pub returns-clause-exact : goal.returns-clause-exact
returns-clause-exact g c = on_ok_weaker c.remove_old.result
    (λ made tells exact.
    let mid = g.K.Keeper.kept c.put_whole.new.keeper in
    let new = g.K.Keeper.kept c.remove_old.new.keeper in
    let P : Option ℕ → Type 0 = λ o. stored new ≡ changed (effects_of (both_of o)) (stored mid) in
    subst (λ (m : Rows). IsExact m (stored new)) (sym c.swap_whole-old.ensures.rows)
    (hold_exact g.K.Keeper.tells (g.K.Keeper.next c.args.keeper.now) c.args.rows.now
    (g.K.Keeper.kept c.args.keeper.now) c.args.path.now c.args.whole
    c.requires.head c.requires.below c.requires.own c.requires.held (c.requires.body tells) mid new
    (c.in_ok-put_whole.ensures.comes tells)
    (subst P c.swap_whole-old.ensures.old (made tells)) exact))
    c.remove_old.ensures.stored

pub returns-clause-sealed : goal.returns-clause-sealed
returns-clause-sealed g c = λ tells sealed.
    let mid = hold_sealed g.K.Keeper.tells (g.K.Keeper.next c.args.keeper.now) c.args.rows.now
    (g.K.Keeper.kept c.args.keeper.now) c.args.path.now c.args.whole
    c.requires.head c.requires.below c.requires.own c.requires.held (c.requires.body tells) (g.K.Keeper.kept c.put_whole.new.keeper)
    (g.met.K.Keeper.sound c.args.keeper.now tells).apart (c.put_whole.ensures.either tells) sealed in
    sealed_left (both_of c.swap_whole-old.result) (g.K.Keeper.kept c.put_whole.new.keeper) (g.K.Keeper.kept c.remove_old.new.keeper)
    (c.remove_old.ensures.stops tells) (c.remove_old.ensures.others tells) mid

pub returns-clause-stored : goal.returns-clause-stored
returns-clause-stored g c = on_ok_weaker c.remove_old.result
    (λ made tells.
    let mid = g.K.Keeper.kept c.put_whole.new.keeper in
    let P : Option ℕ → Type 0 = λ o. stored (g.K.Keeper.kept c.remove_old.new.keeper) ≡ changed (effects_of (both_of o)) (stored mid) in
    subst P c.swap_whole-old.ensures.old (made tells)
    ∙ ap (λ t. changed (effects_of (both_of (id_in_whole (whole_at c.args.rows.now c.args.path.now)))) t) (ap stored (c.in_ok-put_whole.ensures.comes tells)))
    c.remove_old.ensures.stored
