use Rattle.std.proofs.Common.{subst}
use Rattle.acng_desk.specs.House.{House}
use Rattle.acng_desk.specs.Laws.{StopsSurvive}
use Rattle.acng_desk.proofs.Running.{stops_survive}
use Rattle.acng_desk.proofs.desk.Desk.survives.Goals as goal

pub returns : goal.returns
returns g c = λ told.
    let inside : House = record {
      plain = record {
        rows = c.self.inside.rows;
        parts = c.self.inside.parts;
        next_try = c.self.inside.right.next;
        next_id = g.K.Keeper.next c.self.inside.keeper;
        limit = c.self.inside.limit;
        rules = c.self.inside.rules;
      };
      kept = g.K.Keeper.kept c.self.inside.keeper;
      faults = g.K.Keeper.faults c.self.inside.keeper;
    } in
    subst (λ (h : House). StopsSurvive g.S.Site h) c.self.view_is
    (stops_survive g.S.Site g.K.Keeper.tells inside c.self.invariant (g.met.K.Keeper.sound c.self.inside.keeper told) told)
