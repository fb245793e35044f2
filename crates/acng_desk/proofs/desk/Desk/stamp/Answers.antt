use Rattle.std.proofs.Common.{refl, sym, subst}
use Rattle.acng_keeper.specs.Kept.{stored}
use Rattle.acng_rows.specs.Rows.{Rows, restamped}
use Rattle.acng_rows.specs.Goods.{none_comes}
use Rattle.acng_rows.proofs.Faithful.{faithful_between}
use Rattle.acng_rows.proofs.Seals.{stops_alike}
use Rattle.acng_desk.specs.House.{House}
use Rattle.acng_desk.proofs.Kepts.{held_of, sealed_of, to_so, from_so}
use Rattle.acng_desk.specs.Stops.{IsFile, StopsAt, IsFound}
use Rattle.acng_desk.proofs.Results.{stamped_or, ok_map}
use Rattle.acng_desk.proofs.Stamps.{stamp_sound}
use Rattle.acng_desk.proofs.desk.Desk.stamp.Goals as goal

pub restamp-requires : goal.restamp-requires
restamp-requires g c = record { held = held_of g.S.Site g.K.Keeper.tells _ c.self.invariant }

pub invariant_of-self : goal.invariant_of-self
invariant_of-self g c =
    let path = c.args.path.now in
    let inside : House = record {
      plain = record {
        rows = c.self.inside.rows;
        parts = c.self.inside.parts;
        next_try = c.self.inside.right.next;
        next_id = g.K.Keeper.next c.self.inside.keeper;
        limit = c.self.inside.limit;
        rules = c.self.inside.rules;
      };
      kept = g.K.Keeper.kept c.self.inside.keeper;
      faults = g.K.Keeper.faults c.self.inside.keeper;
    } in
    let k = g.K.Keeper.kept c.restamp.new.keeper in
    let e = c.restamp.ensures in
    let m : Rows = c.restamp.new.rows in
    stamp_sound g.S.Site g.K.Keeper.tells inside path c.args.stamp k (g.K.Keeper.faults c.restamp.new.keeper) m
    (g.K.Keeper.next c.restamp.new.keeper)
    c.self.invariant e.held e.same_next e.loose
    (λ told. let f = (c.self.invariant.kept told).faithful in
    from_so g.S.Site k (faithful_between (IsFile g.S.Site) none_comes inside.plain.rows (restamped c.args.stamp inside.plain.rows path)
    inside.kept k (e.stops told)
    (λ core text no. absurd no) (e.sealed told (sealed_of g.S.Site inside.kept f)) (to_so g.S.Site inside.kept f)))
    (stamped_or c.restamp.result e.rows e.there e.same)

pub returns-clause-stops : goal.returns-clause-stops
returns-clause-stops g c = λ told.
    let path = c.args.path.now in
    let inside : House = record {
      plain = record {
        rows = c.self.inside.rows;
        parts = c.self.inside.parts;
        next_try = c.self.inside.right.next;
        next_id = g.K.Keeper.next c.self.inside.keeper;
        limit = c.self.inside.limit;
        rules = c.self.inside.rules;
      };
      kept = g.K.Keeper.kept c.self.inside.keeper;
      faults = g.K.Keeper.faults c.self.inside.keeper;
    } in
    let new : House = record inside { kept = g.K.Keeper.kept c.restamp.new.keeper } in
    let done : Rows = restamped c.args.stamp inside.plain.rows path in
    subst (λ (h : House). StopsAt g.S.Site (restamped c.args.stamp h.plain.rows path) h new) c.self.view_is
    (stops_alike none_comes (IsFile g.S.Site) inside.plain.rows inside.plain.rows done done (stored inside.kept) inside.kept new.kept
    (λ q. refl) (λ q. refl) (λ core text no. absurd no) (c.restamp.ensures.stops told))

pub returns-clause-exact : goal.returns-clause-exact
returns-clause-exact g c =
    ok_map c.restamp.result (λ exact told found. exact told (subst IsFound (sym c.self.view_is) found)) c.restamp.ensures.exact
