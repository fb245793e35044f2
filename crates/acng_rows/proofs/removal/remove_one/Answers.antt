use Rattle.std.proofs.Common.{◌≡◌, true, ap, subst, sym}
use Rattle.std.specs.Result.{OnOk}
use Rattle.std.proofs.lemmas.Result.{on_ok_weaker}
use Rattle.acng_keeper.specs.declared.effect.Effect.{Effect}
use Rattle.acng_rows.specs.Removals.{Went, effect_of}
use Rattle.acng_rows.proofs.Removals.{body_went}
use Rattle.acng_rows.proofs.removal.remove_one.Goals as goal

pub returns-in-Body-clause-went : goal.returns-in-Body-clause-went
returns-in-Body-clause-went g c =
    let P : Effect → Type 0 = λ e. OnOk c.remove_body.result (g.K.Keeper.tells ≡ true → Went e (g.K.Keeper.kept c.args.keeper.now)
    (g.K.Keeper.kept c.remove_body.new.self)) in
    subst P (sym (ap effect_of c.in-Body.is)) (on_ok_weaker c.remove_body.result
    (λ went tells. body_went c.in-Body.id (g.K.Keeper.kept c.args.keeper.now) (g.K.Keeper.kept c.remove_body.new.self)
    (c.remove_body.ensures.either tells) (went tells))
    c.remove_body.ensures.removes)
