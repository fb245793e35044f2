use Rattle.std.proofs.Common.{sym, subst, IfOk}
use Rattle.acng_desk.specs.House.{House}
use Rattle.acng_desk.specs.Calls.{IsSpare}
use Rattle.acng_desk.proofs.Makings.{may_sound, spare_result}
use Rattle.acng_desk.proofs.Results.{both_or}
use Rattle.acng_desk.proofs.desk.Desk.new_body.Goals as goal

pub invariant_of-self : goal.invariant_of-self
invariant_of-self g c =
    let inside : House = record {
      plain = record {
        rows = c.self.inside.rows;
        parts = c.self.inside.parts;
        next_try = c.self.inside.right.next;
        next_id = g.K.Keeper.next c.self.inside.keeper;
        limit = c.self.inside.limit;
        rules = c.self.inside.rules;
      };
      kept = g.K.Keeper.kept c.self.inside.keeper;
      faults = g.K.Keeper.faults c.self.inside.keeper;
    } in
    let e = c.create-made.ensures in
    may_sound g.S.Site g.K.Keeper.tells inside (g.K.Keeper.kept c.create-made.new.self) (g.K.Keeper.faults c.create-made.new.self)
    (g.K.Keeper.next c.create-made.new.self) c.self.invariant
    (λ told. (g.met.K.Keeper.sound c.self.inside.keeper told).heads) (both_or c.create-made.result e.next e.loose e.same_next e.same)

pub returns-clause-spare : goal.returns-clause-spare
returns-clause-spare g c =
    let inside : House = record {
      plain = record {
        rows = c.self.inside.rows;
        parts = c.self.inside.parts;
        next_try = c.self.inside.right.next;
        next_id = g.K.Keeper.next c.self.inside.keeper;
        limit = c.self.inside.limit;
        rules = c.self.inside.rules;
      };
      kept = g.K.Keeper.kept c.self.inside.keeper;
      faults = g.K.Keeper.faults c.self.inside.keeper;
    } in
    let e = c.create-made.ensures in
    let k = g.K.Keeper.kept c.create-made.new.self in
    let f = g.K.Keeper.faults c.create-made.new.self in
    let n = g.K.Keeper.next c.create-made.new.self in
    let spare = spare_result (λ r. r.0.0) c.create-made.result g.S.Site g.K.Keeper.tells inside k f n c.self.invariant e.next e.loose e.id
    in
    subst (λ q. IfOk q (λ r. IsSpare g.K.Keeper.tells (record { plain = record inside.plain { next_id = n }; kept = k; faults = f }) r.0.0))
    (sym c.put_result.ensures) spare
