use Rattle.std.proofs.Common.{ℕ, refl, sym, subst}
use Rattle.acng_desk.specs.House.{House}
use Rattle.acng_desk.specs.Keeps.{AreNobodys, IsSound}
use Rattle.acng_desk.specs.Stops.{KeepsFiles}
use Rattle.acng_desk.proofs.Discards.{discard_sound, discard_files}
use Rattle.acng_desk.proofs.desk.Desk.discard.Goals as goal

pub invariant_of-self : goal.invariant_of-self
invariant_of-self g c =
    let inside : House = record {
      plain = record {
        rows = c.self.inside.rows;
        parts = c.self.inside.parts;
        next_try = c.self.inside.right.next;
        next_id = g.K.Keeper.next c.self.inside.keeper;
        limit = c.self.inside.limit;
        rules = c.self.inside.rules;
      };
      kept = g.K.Keeper.kept c.self.inside.keeper;
      faults = g.K.Keeper.faults c.self.inside.keeper;
    } in
    let k = g.K.Keeper.kept c.remove_all.new.keeper in
    let f = g.K.Keeper.faults c.remove_all.new.keeper in
    let n = subst (λ (h : House). AreNobodys h.plain.rows h.plain.parts c.args.list.now) (sym c.self.view_is) c.requires.nobodys in
    let P : ℕ → Type 0 = λ i. IsSound g.S.Site g.K.Keeper.tells (record {
      plain = record inside.plain { next_id = i };
      kept = k;
      faults =
          f;
    }) in
    subst P (sym c.remove_all.ensures.same_next) (discard_sound g.S.Site g.K.Keeper.tells inside.plain c.args.list.now inside.kept k
    inside.faults f n
    c.remove_all.ensures.stops c.remove_all.ensures.others c.self.invariant)

pub returns-clause-files : goal.returns-clause-files
returns-clause-files g c = λ told.
    let inside : House = record {
      plain = record {
        rows = c.self.inside.rows;
        parts = c.self.inside.parts;
        next_try = c.self.inside.right.next;
        next_id = g.K.Keeper.next c.self.inside.keeper;
        limit = c.self.inside.limit;
        rules = c.self.inside.rules;
      };
      kept = g.K.Keeper.kept c.self.inside.keeper;
      faults = g.K.Keeper.faults c.self.inside.keeper;
    } in
    let new : House = record {
      plain = record inside.plain { next_id = g.K.Keeper.next c.remove_all.new.keeper };
      kept = g.K.Keeper.kept c.remove_all.new.keeper;
      faults = g.K.Keeper.faults c.remove_all.new.keeper;
    } in
    let n = subst (λ (h : House). AreNobodys h.plain.rows h.plain.parts c.args.list.now) (sym c.self.view_is) c.requires.nobodys in
    subst (λ (h : House). KeepsFiles g.S.Site h new) c.self.view_is
    (discard_files g.S.Site inside new c.args.list.now n refl (c.remove_all.ensures.stops told))
