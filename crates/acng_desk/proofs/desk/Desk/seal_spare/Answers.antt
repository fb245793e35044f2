use Rattle.std.proofs.Common.{refl, sym, subst}
use Rattle.acng_desk.specs.House.{House}
use Rattle.acng_desk.specs.Calls.{IsSpare}
use Rattle.acng_desk.specs.Stops.{KeepsFiles}
use Rattle.acng_desk.proofs.Importings.{seal_sound, sealed_there, seal_files}
use Rattle.acng_desk.proofs.desk.Desk.seal_spare.Goals as goal

pub invariant_of-self : goal.invariant_of-self
invariant_of-self g c =
    let inside : House = record {
      plain = record {
        rows = c.self.inside.rows;
        parts = c.self.inside.parts;
        next_try = c.self.inside.right.next;
        next_id = g.K.Keeper.next c.self.inside.keeper;
        limit = c.self.inside.limit;
        rules = c.self.inside.rules;
      };
      kept = g.K.Keeper.kept c.self.inside.keeper;
      faults = g.K.Keeper.faults c.self.inside.keeper;
    } in
    let spare : IsSpare g.K.Keeper.tells inside c.args.id.0 = subst (λ (h : House). IsSpare g.K.Keeper.tells h c.args.id.0)
    (sym c.self.view_is) c.requires.spare in
    seal_sound g.S.Site g.K.Keeper.tells inside c.args.id.0 (g.K.Body.BodyFile.handle c.args.body).bytes (g.K.Keeper.kept c.seal.new.self)
    (g.K.Keeper.faults c.seal.new.self) (g.K.Keeper.next c.seal.new.self) c.seal.ensures.same_next spare.nobodys spare.loose
    c.seal.ensures.either c.self.invariant

pub returns-in-Ok-clause-there : goal.returns-in-Ok-clause-there
returns-in-Ok-clause-there g c = λ tells.
    sealed_there (g.K.Keeper.kept c.self.inside.keeper) (g.K.Keeper.kept c.seal.new.self) c.args.id.0
    (g.K.Body.BodyFile.handle c.args.body).bytes
    (c.in-Ok.ensures.comes tells)

pub invariant_of-self-2 : goal.invariant_of-self-2
invariant_of-self-2 g c =
    let inside : House = record {
      plain = record {
        rows = c.self.inside.rows;
        parts = c.self.inside.parts;
        next_try = c.self.inside.right.next;
        next_id = g.K.Keeper.next c.self.inside.keeper;
        limit = c.self.inside.limit;
        rules = c.self.inside.rules;
      };
      kept = g.K.Keeper.kept c.self.inside.keeper;
      faults = g.K.Keeper.faults c.self.inside.keeper;
    } in
    let spare : IsSpare g.K.Keeper.tells inside c.args.id.0 = subst (λ (h : House). IsSpare g.K.Keeper.tells h c.args.id.0)
    (sym c.self.view_is) c.requires.spare in
    seal_sound g.S.Site g.K.Keeper.tells inside c.args.id.0 (g.K.Body.BodyFile.handle c.args.body).bytes (g.K.Keeper.kept c.seal.new.self)
    (g.K.Keeper.faults c.seal.new.self) (g.K.Keeper.next c.seal.new.self) c.seal.ensures.same_next spare.nobodys spare.loose
    c.seal.ensures.either c.self.invariant

pub returns-in-Ok-clause-files : goal.returns-in-Ok-clause-files
returns-in-Ok-clause-files g c = λ told.
    let inside : House = record {
      plain = record {
        rows = c.self.inside.rows;
        parts = c.self.inside.parts;
        next_try = c.self.inside.right.next;
        next_id = g.K.Keeper.next c.self.inside.keeper;
        limit = c.self.inside.limit;
        rules = c.self.inside.rules;
      };
      kept = g.K.Keeper.kept c.self.inside.keeper;
      faults = g.K.Keeper.faults c.self.inside.keeper;
    } in
    let new : House = record {
      plain = record inside.plain { next_id = g.K.Keeper.next c.seal.new.self };
      kept = g.K.Keeper.kept c.seal.new.self;
      faults = g.K.Keeper.faults c.seal.new.self;
    } in
    let spare : IsSpare g.K.Keeper.tells inside c.args.id.0 = subst (λ (h : House). IsSpare g.K.Keeper.tells h c.args.id.0)
    (sym c.self.view_is) c.requires.spare in
    subst (λ (h : House). KeepsFiles g.S.Site h new) c.self.view_is
    (seal_files g.S.Site g.K.Keeper.tells inside new c.args.id.0 (g.K.Body.BodyFile.handle c.args.body).bytes c.self.invariant told
    (spare.loose told) refl (c.seal.ensures.either told))

pub returns-clause-files : goal.returns-clause-files
returns-clause-files g c = λ told.
    let inside : House = record {
      plain = record {
        rows = c.self.inside.rows;
        parts = c.self.inside.parts;
        next_try = c.self.inside.right.next;
        next_id = g.K.Keeper.next c.self.inside.keeper;
        limit = c.self.inside.limit;
        rules = c.self.inside.rules;
      };
      kept = g.K.Keeper.kept c.self.inside.keeper;
      faults = g.K.Keeper.faults c.self.inside.keeper;
    } in
    let new : House = record {
      plain = record inside.plain { next_id = g.K.Keeper.next c.seal.new.self };
      kept = g.K.Keeper.kept c.seal.new.self;
      faults = g.K.Keeper.faults c.seal.new.self;
    } in
    let spare : IsSpare g.K.Keeper.tells inside c.args.id.0 = subst (λ (h : House). IsSpare g.K.Keeper.tells h c.args.id.0)
    (sym c.self.view_is) c.requires.spare in
    subst (λ (h : House). KeepsFiles g.S.Site h new) c.self.view_is
    (seal_files g.S.Site g.K.Keeper.tells inside new c.args.id.0 (g.K.Body.BodyFile.handle c.args.body).bytes c.self.invariant told
    (spare.loose told) refl (c.seal.ensures.either told))
