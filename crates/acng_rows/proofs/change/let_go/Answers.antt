use Rattle.std.proofs.Common.{◌≡◌, ◌∙◌, ap, sym, subst, true, Some, Option, ℕ, is_some}
use Rattle.acng_keeper.specs.Kept.{stored}
use Rattle.acng_keeper.specs.Images.{changed, IsAlong, LeavesOnly}
use Rattle.acng_rows.specs.Rows.{Rows, whole_at, whole_in, id_in_whole, without_whole}
use Rattle.acng_rows.specs.Goods.{AreHeld, IsExact, none_comes}
use Rattle.acng_rows.specs.Removals.{effects_of, both_of}
use Rattle.acng_rows.proofs.Removals.{held_left, sealed_left}
use Rattle.acng_rows.proofs.Wholes.{is_there, without_less, without_others}
use Rattle.acng_rows.proofs.Changes.{rest_stops, less_held, gone_unnamed, less_stops, less_exact}
use Rattle.acng_rows.proofs.change.let_go.Goals as goal

pub returns-then-is_none-clause-stops : goal.returns-then-is_none-clause-stops
returns-then-is_none-clause-stops g c = λ tells.
    rest_stops none_comes c.args.rows.now (without_whole c.args.rows.now c.args.path.now) (g.K.Keeper.kept c.args.keeper.now)

pub returns-in-Ok-clause-held : goal.returns-in-Ok-clause-held
returns-in-Ok-clause-held g c =
    let rows = c.args.rows.now in
    let path = c.args.path.now in
    let kept = g.K.Keeper.kept c.args.keeper.now in
    let new = g.K.Keeper.kept c.remove_old.new.keeper in
    let id : c.whole_id-old.result ≡ id_in_whole (whole_at rows path) = c.whole_id-old.ensures
    ∙ ap (λ o. id_in_whole (whole_in o)) c.get.ensures in
    let w = is_there (whole_at rows path) (sym (ap is_some id) ∙ c.if-is_none.ensures {u = tt}) in
    let old : c.whole_id-old.result ≡ Some w.0.id = id ∙ ap id_in_whole w.1 in
    let done = without_whole rows path in
    let none = gone_unnamed g.K.Keeper.tells (g.K.Keeper.next c.args.keeper.now) rows done kept path w.0 w.1 c.requires.held
    (without_less rows path) (without_others rows path) in
    let mid = less_held g.K.Keeper.tells (g.K.Keeper.next c.args.keeper.now) rows done kept path w.0 w.1 c.requires.held
    (without_less rows path) (without_others rows path) in
    let P : Option ℕ → Type 0 = λ o. g.K.Keeper.tells ≡ true → LeavesOnly (IsAlong (effects_of (both_of o)) (stored kept)) kept new in
    subst (λ (m : Rows). AreHeld g.K.Keeper.tells (g.K.Keeper.next c.remove_old.new.keeper) m new) (sym c.drop_whole.ensures)
    (held_left g.K.Keeper.tells (g.K.Keeper.next c.args.keeper.now) (g.K.Keeper.next c.remove_old.new.keeper) done
    (both_of (Some w.0.id)) kept new
    c.remove_old.ensures.same_next none (subst P old c.remove_old.ensures.stops) mid)

pub returns-in-Ok-clause-stops : goal.returns-in-Ok-clause-stops
returns-in-Ok-clause-stops g c = λ tells.
    let rows = c.args.rows.now in
    let path = c.args.path.now in
    let kept = g.K.Keeper.kept c.args.keeper.now in
    let new = g.K.Keeper.kept c.remove_old.new.keeper in
    let id : c.whole_id-old.result ≡ id_in_whole (whole_at rows path) = c.whole_id-old.ensures
    ∙ ap (λ o. id_in_whole (whole_in o)) c.get.ensures in
    let w = is_there (whole_at rows path) (sym (ap is_some id) ∙ c.if-is_none.ensures {u = tt}) in
    let old : c.whole_id-old.result ≡ Some w.0.id = id ∙ ap id_in_whole w.1 in
    let P : Option ℕ → Type 0 = λ o. LeavesOnly (IsAlong (effects_of (both_of o)) (stored kept)) kept new in
    less_stops g.K.Keeper.tells (g.K.Keeper.next c.args.keeper.now) rows (without_whole rows path) kept path w.0 w.1 c.requires.held
    (without_less rows path) (without_others rows path) new
    (subst P old (c.remove_old.ensures.stops tells))

pub returns-in-Ok-clause-exact : goal.returns-in-Ok-clause-exact
returns-in-Ok-clause-exact g c = λ tells exact.
    let rows = c.args.rows.now in
    let path = c.args.path.now in
    let kept = g.K.Keeper.kept c.args.keeper.now in
    let new = g.K.Keeper.kept c.remove_old.new.keeper in
    let id : c.whole_id-old.result ≡ id_in_whole (whole_at rows path) = c.whole_id-old.ensures
    ∙ ap (λ o. id_in_whole (whole_in o)) c.get.ensures in
    let w = is_there (whole_at rows path) (sym (ap is_some id) ∙ c.if-is_none.ensures {u = tt}) in
    let old : c.whole_id-old.result ≡ Some w.0.id = id ∙ ap id_in_whole w.1 in
    let P : Option ℕ → Type 0 = λ o. stored new ≡ changed (effects_of (both_of o)) (stored kept) in
    subst (λ (m : Rows). IsExact m (stored new)) (sym c.drop_whole.ensures)
    (less_exact g.K.Keeper.tells (g.K.Keeper.next c.args.keeper.now) rows (without_whole rows path) kept path w.0 w.1 c.requires.held
    (without_less rows path) (without_others rows path) new
    (subst P old (c.in-Ok.ensures.stored tells)) exact)

pub returns-in-Ok-clause-sealed : goal.returns-in-Ok-clause-sealed
returns-in-Ok-clause-sealed g c = λ tells sealed.
    sealed_left (both_of c.whole_id-old.result) (g.K.Keeper.kept c.args.keeper.now) (g.K.Keeper.kept c.remove_old.new.keeper)
    (c.remove_old.ensures.stops tells) (c.remove_old.ensures.others tells) sealed

pub returns-in-Err-clause-held : goal.returns-in-Err-clause-held
returns-in-Err-clause-held g c =
    let rows = c.args.rows.now in
    let path = c.args.path.now in
    let kept = g.K.Keeper.kept c.args.keeper.now in
    let new = g.K.Keeper.kept c.remove_old.new.keeper in
    let id : c.whole_id-old.result ≡ id_in_whole (whole_at rows path) = c.whole_id-old.ensures
    ∙ ap (λ o. id_in_whole (whole_in o)) c.get.ensures in
    let w = is_there (whole_at rows path) (sym (ap is_some id) ∙ c.if-is_none.ensures {u = tt}) in
    let old : c.whole_id-old.result ≡ Some w.0.id = id ∙ ap id_in_whole w.1 in
    let done = without_whole rows path in
    let none = gone_unnamed g.K.Keeper.tells (g.K.Keeper.next c.args.keeper.now) rows done kept path w.0 w.1 c.requires.held
    (without_less rows path) (without_others rows path) in
    let mid = less_held g.K.Keeper.tells (g.K.Keeper.next c.args.keeper.now) rows done kept path w.0 w.1 c.requires.held
    (without_less rows path) (without_others rows path) in
    let P : Option ℕ → Type 0 = λ o. g.K.Keeper.tells ≡ true → LeavesOnly (IsAlong (effects_of (both_of o)) (stored kept)) kept new in
    subst (λ (m : Rows). AreHeld g.K.Keeper.tells (g.K.Keeper.next c.remove_old.new.keeper) m new) (sym c.drop_whole.ensures)
    (held_left g.K.Keeper.tells (g.K.Keeper.next c.args.keeper.now) (g.K.Keeper.next c.remove_old.new.keeper) done
    (both_of (Some w.0.id)) kept new
    c.remove_old.ensures.same_next none (subst P old c.remove_old.ensures.stops) mid)

pub returns-in-Err-clause-stops : goal.returns-in-Err-clause-stops
returns-in-Err-clause-stops g c = λ tells.
    let rows = c.args.rows.now in
    let path = c.args.path.now in
    let kept = g.K.Keeper.kept c.args.keeper.now in
    let new = g.K.Keeper.kept c.remove_old.new.keeper in
    let id : c.whole_id-old.result ≡ id_in_whole (whole_at rows path) = c.whole_id-old.ensures
    ∙ ap (λ o. id_in_whole (whole_in o)) c.get.ensures in
    let w = is_there (whole_at rows path) (sym (ap is_some id) ∙ c.if-is_none.ensures {u = tt}) in
    let old : c.whole_id-old.result ≡ Some w.0.id = id ∙ ap id_in_whole w.1 in
    let P : Option ℕ → Type 0 = λ o. LeavesOnly (IsAlong (effects_of (both_of o)) (stored kept)) kept new in
    less_stops g.K.Keeper.tells (g.K.Keeper.next c.args.keeper.now) rows (without_whole rows path) kept path w.0 w.1 c.requires.held
    (without_less rows path) (without_others rows path) new
    (subst P old (c.remove_old.ensures.stops tells))

pub returns-in-Err-clause-sealed : goal.returns-in-Err-clause-sealed
returns-in-Err-clause-sealed g c = λ tells sealed.
    sealed_left (both_of c.whole_id-old.result) (g.K.Keeper.kept c.args.keeper.now) (g.K.Keeper.kept c.remove_old.new.keeper)
    (c.remove_old.ensures.stops tells) (c.remove_old.ensures.others tells) sealed

pub returns-in-Ok-clause-stored : goal.returns-in-Ok-clause-stored
returns-in-Ok-clause-stored g c = λ tells.
    let id : c.whole_id-old.result ≡ id_in_whole (whole_at c.args.rows.now c.args.path.now) =
    c.whole_id-old.ensures ∙ ap (λ o. id_in_whole (whole_in o)) c.get.ensures in
    c.in-Ok.ensures.stored tells ∙ ap (λ o. changed (effects_of (both_of o)) (stored (g.K.Keeper.kept c.args.keeper.now))) id
