use Rattle.std.proofs.Common.{◌≡◌, sym, subst, is_some, true}
use Rattle.acng_rows.specs.Rows.{Rows, out_at}
use Rattle.acng_desk.specs.House.{House}
use Rattle.acng_desk.specs.Keeps.{IsSound}
use Rattle.acng_desk.proofs.Lefts.{close_sound}
use Rattle.acng_desk.proofs.desk.Desk.close.Goals as goal

pub invariant_of-self : goal.invariant_of-self
invariant_of-self g c =
    let path = c.args.path.now in
    let inside : House = record {
      plain = record {
        rows = c.self.inside.rows;
        parts = c.self.inside.parts;
        next_try = c.self.inside.right.next;
        next_id = g.K.Keeper.next c.self.inside.keeper;
        limit = c.self.inside.limit;
        rules = c.self.inside.rules;
      };
      kept = g.K.Keeper.kept c.self.inside.keeper;
      faults = g.K.Keeper.faults c.self.inside.keeper;
    } in
    let out = subst (λ (h : House). is_some (out_at h.plain.rows path) ≡ true) (sym c.self.view_is) c.requires.out in
    let P : Rows → Type 0 = λ m. IsSound g.S.Site g.K.Keeper.tells (record inside { plain = record inside.plain { rows = m } }) in
    subst P (sym c.close.ensures) (close_sound g.S.Site g.K.Keeper.tells inside path out c.self.invariant)
