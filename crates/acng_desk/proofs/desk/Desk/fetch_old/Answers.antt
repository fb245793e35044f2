use Rattle.std.proofs.Common.{◌≡◌, sym, subst, ap, ◌∙◌}
use Rattle.std.specs.Option.{option_map}
use Rattle.acng_keeper.specs.Kept.{Kept, stored}
use Rattle.acng_rows.specs.Rows.{whole_at}
use Rattle.acng_desk.specs.House.{House}
use Rattle.acng_desk.specs.Tickets.{old_of}
use Rattle.acng_desk.proofs.Stores.{sound_next}
use Rattle.acng_desk.proofs.Wholes.{was_there}
use Rattle.acng_desk.proofs.desk.Desk.fetch_old.Goals as goal

pub fetch_body-requires : goal.fetch_body-requires
fetch_body-requires g c = λ tells.
    let P : House → Type 0 = λ h. c.args.was.now ≡ option_map old_of (whole_at h.plain.rows c.args.path.now) in
    let was = subst P (sym c.self.view_is) c.requires.was in
    was_there g.S.Site g.K.Keeper.tells _ c.args.path.now c.in-Some.was c.self.invariant (sym c.in-Some.is ∙ was) tells

pub invariant_of-self-then-len-was : goal.invariant_of-self-then-len-was
invariant_of-self-then-len-was g c = sound_next _ _ _ (g.K.Keeper.kept c.fetch_body.new.self) (g.K.Keeper.faults c.fetch_body.new.self)
    (g.K.Keeper.next c.fetch_body.new.self) c.fetch_body.ensures.same_next
    (λ tells. ap stored (c.in_ok-body.ensures.taken tells)) (λ tells. ap (λ (k : Kept). k.loose) (c.in_ok-body.ensures.taken tells))
    c.self.invariant

pub invariant_of-self-2 : goal.invariant_of-self-2
invariant_of-self-2 g c = sound_next _ _ _ (g.K.Keeper.kept c.fetch_body.new.self) (g.K.Keeper.faults c.fetch_body.new.self)
    (g.K.Keeper.next c.fetch_body.new.self) c.fetch_body.ensures.same_next
    (λ tells. ap stored (c.in_ok-body.ensures.taken tells)) (λ tells. ap (λ (k : Kept). k.loose) (c.in_ok-body.ensures.taken tells))
    c.self.invariant
