use Rattle.std.proofs.Common.{◌∙◌, ap, sym, subst}
use Rattle.acng_keeper.specs.Kept.{stored}
use Rattle.acng_keeper.specs.Images.{changed}
use Rattle.acng_rows.specs.Calls.{stamp_plan}
use Rattle.acng_rows.specs.Rows.{Rows, Row, whole_in, restamped}
use Rattle.acng_rows.specs.Goods.{AreHeld, IsExact, none_comes}
use Rattle.acng_rows.proofs.Changes.{rest_stops, restamp_row, restamp_held, restamp_stops, restamp_exact, restamp_sealed}
use Rattle.acng_rows.proofs.change.restamp.Goals as goal

pub returns-in_default-clause-stops : goal.returns-in_default-clause-stops
returns-in_default-clause-stops g c = λ tells.
    rest_stops none_comes c.args.rows.now (restamped c.args.stamp c.args.rows.now c.args.path.now) (g.K.Keeper.kept c.args.keeper.now)

pub returns-in_default-whole-clause-stops : goal.returns-in_default-whole-clause-stops
returns-in_default-whole-clause-stops g c = λ tells.
    rest_stops none_comes c.args.rows.now (restamped c.args.stamp c.args.rows.now c.args.path.now) (g.K.Keeper.kept c.args.keeper.now)

pub put_stamped-requires-clause-head : goal.put_stamped-requires-clause-head
put_stamped-requires-clause-head g c =
    let at = ap whole_in (sym c.in-Some.ensures) ∙ ap (λ (r : Row). r.whole) (sym c.row.view_is) ∙ c.in-Some-whole.is in
    c.requires.held.heads c.args.path.now c.in-Some-whole.whole at

pub put_stamped-requires-clause-below : goal.put_stamped-requires-clause-below
put_stamped-requires-clause-below g c =
    let at = ap whole_in (sym c.in-Some.ensures) ∙ ap (λ (r : Row). r.whole) (sym c.row.view_is) ∙ c.in-Some-whole.is in
    c.requires.held.below c.args.path.now c.in-Some-whole.whole at

pub returns-in-Err-clause-held : goal.returns-in-Err-clause-held
returns-in-Err-clause-held g c =
    let at = ap whole_in (sym c.in-Some.ensures) ∙ ap (λ (r : Row). r.whole) (sym c.row.view_is) ∙ c.in-Some-whole.is in
    restamp_held g.K.Keeper.tells (g.K.Keeper.next c.args.keeper.now) c.args.rows.now (g.K.Keeper.kept c.args.keeper.now) c.args.path.now
    c.in-Some-whole.whole at c.args.stamp c.put_stamped.ensures.fits c.requires.held (g.K.Keeper.kept c.put_stamped.new.keeper)
    (g.K.Keeper.next c.put_stamped.new.keeper) c.put_stamped.ensures.same_next c.put_stamped.ensures.either

pub returns-in-Err-clause-stops : goal.returns-in-Err-clause-stops
returns-in-Err-clause-stops g c = λ tells.
    let at = ap whole_in (sym c.in-Some.ensures) ∙ ap (λ (r : Row). r.whole) (sym c.row.view_is) ∙ c.in-Some-whole.is in
    restamp_stops g.K.Keeper.tells (g.K.Keeper.next c.args.keeper.now) c.args.rows.now (g.K.Keeper.kept c.args.keeper.now) c.args.path.now
    c.in-Some-whole.whole at c.args.stamp c.put_stamped.ensures.fits c.requires.held (g.K.Keeper.kept c.put_stamped.new.keeper) tells
    (c.put_stamped.ensures.either tells)

pub returns-in-Err-clause-sealed : goal.returns-in-Err-clause-sealed
returns-in-Err-clause-sealed g c = λ tells.
    let at = ap whole_in (sym c.in-Some.ensures) ∙ ap (λ (r : Row). r.whole) (sym c.row.view_is) ∙ c.in-Some-whole.is in
    restamp_sealed g.K.Keeper.tells (g.K.Keeper.next c.args.keeper.now) c.args.rows.now (g.K.Keeper.kept c.args.keeper.now) c.args.path.now
    c.in-Some-whole.whole at c.args.stamp c.put_stamped.ensures.fits c.requires.held (g.K.Keeper.kept c.put_stamped.new.keeper) tells
    (c.put_stamped.ensures.either tells)

pub returns-clause-held : goal.returns-clause-held
returns-clause-held g c =
    let at = ap whole_in (sym c.in-Some.ensures) ∙ ap (λ (r : Row). r.whole) (sym c.row.view_is) ∙ c.in-Some-whole.is in
    let kept = g.K.Keeper.kept c.put_stamped.new.keeper in
    let next = g.K.Keeper.next c.put_stamped.new.keeper in
    let mid : AreHeld g.K.Keeper.tells next c.args.rows.now kept =
    restamp_held g.K.Keeper.tells (g.K.Keeper.next c.args.keeper.now) c.args.rows.now
    (g.K.Keeper.kept c.args.keeper.now) c.args.path.now
    c.in-Some-whole.whole at c.args.stamp c.put_stamped.ensures.fits c.requires.held kept next c.put_stamped.ensures.same_next
    c.put_stamped.ensures.either in
    subst (λ (m : Rows). AreHeld g.K.Keeper.tells next m kept) (sym c.stamp.ensures)
    (restamp_row g.K.Keeper.tells (g.K.Keeper.next c.args.keeper.now) c.args.rows.now (g.K.Keeper.kept c.args.keeper.now) c.args.path.now
    c.in-Some-whole.whole at c.args.stamp c.put_stamped.ensures.fits c.requires.held kept next mid)

pub returns-clause-stops : goal.returns-clause-stops
returns-clause-stops g c = λ tells.
    let at = ap whole_in (sym c.in-Some.ensures) ∙ ap (λ (r : Row). r.whole) (sym c.row.view_is) ∙ c.in-Some-whole.is in
    restamp_stops g.K.Keeper.tells (g.K.Keeper.next c.args.keeper.now) c.args.rows.now (g.K.Keeper.kept c.args.keeper.now) c.args.path.now
    c.in-Some-whole.whole at c.args.stamp c.put_stamped.ensures.fits c.requires.held (g.K.Keeper.kept c.put_stamped.new.keeper) tells
    (c.put_stamped.ensures.either tells)

pub returns-clause-exact : goal.returns-clause-exact
returns-clause-exact g c = λ tells exact.
    let at = ap whole_in (sym c.in-Some.ensures) ∙ ap (λ (r : Row). r.whole) (sym c.row.view_is) ∙ c.in-Some-whole.is in
    subst (λ (m : Rows). IsExact m (stored (g.K.Keeper.kept c.put_stamped.new.keeper))) (sym c.stamp.ensures)
    (restamp_exact g.K.Keeper.tells (g.K.Keeper.next c.args.keeper.now) c.args.rows.now
    (g.K.Keeper.kept c.args.keeper.now) c.args.path.now
    c.in-Some-whole.whole at c.args.stamp c.put_stamped.ensures.fits c.requires.held (g.K.Keeper.kept c.put_stamped.new.keeper)
    (c.in_default-put_stamped.ensures.comes tells) exact)

pub returns-clause-sealed : goal.returns-clause-sealed
returns-clause-sealed g c = λ tells.
    let at = ap whole_in (sym c.in-Some.ensures) ∙ ap (λ (r : Row). r.whole) (sym c.row.view_is) ∙ c.in-Some-whole.is in
    restamp_sealed g.K.Keeper.tells (g.K.Keeper.next c.args.keeper.now) c.args.rows.now (g.K.Keeper.kept c.args.keeper.now) c.args.path.now
    c.in-Some-whole.whole at c.args.stamp c.put_stamped.ensures.fits c.requires.held (g.K.Keeper.kept c.put_stamped.new.keeper) tells
    (c.put_stamped.ensures.either tells)

pub returns-clause-stored : goal.returns-clause-stored
returns-clause-stored g c = λ tells.
    let at = ap whole_in (sym c.in-Some.ensures) ∙ ap (λ (r : Row). r.whole) (sym c.row.view_is) ∙ c.in-Some-whole.is in
    ap stored (c.in_default-put_stamped.ensures.comes tells)
    ∙ ap (λ o. changed (stamp_plan c.args.stamp c.args.path.now o) (stored (g.K.Keeper.kept c.args.keeper.now))) (sym at)
