use Rattle.std.proofs.Common.{◌≡◌, ap, subst, sym, ◌∙◌}
use Rattle.acng_keeper.specs.Handles.{Handle}
use Rattle.acng_keeper.specs.Kept.{Kept, stored}
use Rattle.acng_grow.specs.declared.facts.Facts.{Facts}
use Rattle.acng_rows.specs.Rows.{Row, whole_in}
use Rattle.acng_desk.specs.Tickets.{IsOld, IsOldBody}
use Rattle.acng_desk.specs.Begins.{IsHandleOf}
use Rattle.acng_desk.proofs.Stores.{sound_next}
use Rattle.acng_desk.proofs.Wholes.{held_there, is_old, is_old_body}
use Rattle.acng_desk.proofs.desk.Desk.held.Goals as goal

pub fetch_body-requires : goal.fetch_body-requires
fetch_body-requires g c = λ tells.
    let at = ap whole_in (sym c.in-Some.ensures) ∙ ap (λ (r : Row). r.whole) (sym c.row.view_is) ∙ c.in-Some-whole.is in
    held_there g.S.Site g.K.Keeper.tells _ c.args.path.now c.in-Some-whole.whole c.self.invariant at tells

pub invariant_of-self-then-len-size : goal.invariant_of-self-then-len-size
invariant_of-self-then-len-size g c = sound_next _ _ _ (g.K.Keeper.kept c.fetch_body.new.self) (g.K.Keeper.faults c.fetch_body.new.self)
    (g.K.Keeper.next c.fetch_body.new.self) c.fetch_body.ensures.same_next
    (λ tells. ap stored (c.in_ok-body.ensures.taken tells)) (λ tells. ap (λ (k : Kept). k.loose) (c.in_ok-body.ensures.taken tells))
    c.self.invariant

pub invariant_of-self-2 : goal.invariant_of-self-2
invariant_of-self-2 g c = sound_next _ _ _ (g.K.Keeper.kept c.fetch_body.new.self) (g.K.Keeper.faults c.fetch_body.new.self)
    (g.K.Keeper.next c.fetch_body.new.self) c.fetch_body.ensures.same_next
    (λ tells. ap stored (c.in_ok-body.ensures.taken tells)) (λ tells. ap (λ (k : Kept). k.loose) (c.in_ok-body.ensures.taken tells))
    c.self.invariant

pub returns-clause-stands : goal.returns-clause-stands
returns-clause-stands g c =
    let path = c.args.path.now in
    let w = c.in-Some-whole.whole in
    let b : Handle = g.K.Body.BodyFile.handle c.in_ok-body.body in
    let at = ap whole_in (sym c.in-Some.ensures) ∙ ap (λ (r : Row). r.whole) (sym c.row.view_is) ∙ c.in-Some-whole.is in
    let size : b.size ≡ w.size = sym c.len.ensures.size ∙ c.if-len-size.false in
    let is : IsHandleOf g.K.Keeper.tells (g.K.Keeper.kept c.self.inside.keeper) w b = record {
      number = c.in_ok-body.ensures.id;
      size = size;
      sealed = c.in_ok-body.ensures.sealed;
      bytes = c.in_ok-body.ensures.bytes;
    } in
    let P : Facts → Type 0 = λ f. IsOld g.S.Site path (record { id = w.id; label = w.label; facts = f; size = w.size })
    × IsOldBody g.S.Site g.K.Keeper.tells path (record { id = w.id; label = w.label; facts = f; size = w.size }) b in
    let both = subst P (sym c.facts_of-facts.ensures) (
      is_old g.S.Site g.K.Keeper.tells _ path w c.self.invariant at,
      is_old_body g.S.Site
          g.K.Keeper.tells _ path w c.self.invariant at b is,
    ) in
    record { said = both.0; body = both.1 }

pub facts_of-facts-requires : goal.facts_of-facts-requires
facts_of-facts-requires g c =
    let at = ap whole_in (sym c.in-Some.ensures) ∙ ap (λ (r : Row). r.whole) (sym c.row.view_is) ∙ c.in-Some-whole.is in
    (c.self.invariant.plain.heads.each _ _ at).typed.tag
