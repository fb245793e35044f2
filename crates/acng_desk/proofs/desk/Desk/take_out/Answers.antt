use Rattle.std.proofs.Common.{◌≡◌, ◌∙◌, ap, refl, sym, subst, true, is_some}
use Rattle.acng_keeper.specs.Kept.{stored}
use Rattle.acng_rows.specs.Rows.{Rows, whole_at, without_whole}
use Rattle.acng_rows.specs.Goods.{none_comes}
use Rattle.acng_rows.proofs.Faithful.{faithful_between}
use Rattle.acng_rows.proofs.Seals.{stops_alike}
use Rattle.acng_desk.proofs.Results.{ok_map}
use Rattle.acng_desk.specs.House.{House, Parts, Plain}
use Rattle.acng_desk.specs.Keeps.{IsSound}
use Rattle.acng_desk.specs.Commands.{Remove, step}
use Rattle.acng_desk.proofs.Kepts.{held_of, sealed_of, to_so, from_so}
use Rattle.acng_desk.specs.Stops.{IsFile, StopsAt, IsFound}
use Rattle.acng_desk.proofs.Removings.{rows_gone, remove_sound, remove_step, remove_is}
use Rattle.acng_desk.proofs.desk.Desk.take_out.Goals as goal

pub let_go-requires : goal.let_go-requires
let_go-requires g c = record { held = held_of g.S.Site g.K.Keeper.tells _ c.self.invariant }

pub invariant_of-self : goal.invariant_of-self
invariant_of-self g c =
    let path = c.args.path.now in
    let inside : House = record {
      plain = record {
        rows = c.self.inside.rows;
        parts = c.self.inside.parts;
        next_try = c.self.inside.right.next;
        next_id = g.K.Keeper.next c.self.inside.keeper;
        limit = c.self.inside.limit;
        rules = c.self.inside.rules;
      };
      kept = g.K.Keeper.kept c.self.inside.keeper;
      faults = g.K.Keeper.faults c.self.inside.keeper;
    } in
    let k = g.K.Keeper.kept c.let_go.new.keeper in
    let f = g.K.Keeper.faults c.let_go.new.keeper in
    let next = g.K.Keeper.next c.let_go.new.keeper in
    let e = c.let_go.ensures in
    let m : Rows = c.let_go.new.rows in
    let done : Rows = without_whole inside.plain.rows path in
    let has : is_some (whole_at inside.plain.rows path) ≡ true =
    subst (λ (h : House). is_some (whole_at h.plain.rows path) ≡ true) (sym c.self.view_is) c.requires.held in
    let gone : m ≡ done = rows_gone c.let_go.result inside.plain.rows done m (whole_at inside.plain.rows path) inside.faults f has
    e.rows e.left e.cause in
    let P : Parts → Type 0 = λ x. IsSound g.S.Site g.K.Keeper.tells
    (record { plain = record inside.plain { rows = m; parts = x; next_id = next }; kept = k; faults = f }) in
    subst P (sym c.remove.ensures.removed)
    (remove_sound g.S.Site g.K.Keeper.tells inside path k f m next c.self.invariant gone e.same_next e.held.holds e.loose
    (λ told. let was = (c.self.invariant.kept told).faithful in
    from_so g.S.Site k (faithful_between (IsFile g.S.Site) none_comes inside.plain.rows done inside.kept k (e.stops told)
    (λ core text no. absurd no) (e.sealed told (sealed_of g.S.Site inside.kept was)) (to_so g.S.Site inside.kept was))))

pub returns-clause-plain : goal.returns-clause-plain
returns-clause-plain g c =
    let path = c.args.path.now in
    let inside : House = record {
      plain = record {
        rows = c.self.inside.rows;
        parts = c.self.inside.parts;
        next_try = c.self.inside.right.next;
        next_id = g.K.Keeper.next c.self.inside.keeper;
        limit = c.self.inside.limit;
        rules = c.self.inside.rules;
      };
      kept = g.K.Keeper.kept c.self.inside.keeper;
      faults = g.K.Keeper.faults c.self.inside.keeper;
    } in
    let f = g.K.Keeper.faults c.let_go.new.keeper in
    let next = g.K.Keeper.next c.let_go.new.keeper in
    let e = c.let_go.ensures in
    let m : Rows = c.let_go.new.rows in
    let done : Rows = without_whole inside.plain.rows path in
    let has : is_some (whole_at inside.plain.rows path) ≡ true =
    subst (λ (h : House). is_some (whole_at h.plain.rows path) ≡ true) (sym c.self.view_is) c.requires.held in
    let gone : m ≡ done = rows_gone c.let_go.result inside.plain.rows done m (whole_at inside.plain.rows path) inside.faults f has
    e.rows e.left e.cause in
    let Q : Parts → Plain = λ x. record inside.plain { rows = m; parts = x; next_id = next } in
    ap Q c.remove.ensures.removed ∙ remove_step inside.plain path m next has gone e.same_next
    ∙ ap (λ (h : House). step (Remove path) h.plain) c.self.view_is

pub returns-clause-stops : goal.returns-clause-stops
returns-clause-stops g c = λ told.
    let path = c.args.path.now in
    let inside : House = record {
      plain = record {
        rows = c.self.inside.rows;
        parts = c.self.inside.parts;
        next_try = c.self.inside.right.next;
        next_id = g.K.Keeper.next c.self.inside.keeper;
        limit = c.self.inside.limit;
        rules = c.self.inside.rules;
      };
      kept = g.K.Keeper.kept c.self.inside.keeper;
      faults = g.K.Keeper.faults c.self.inside.keeper;
    } in
    let new : House = record inside { kept = g.K.Keeper.kept c.let_go.new.keeper } in
    let rows = inside.plain.rows in
    let has : is_some (whole_at rows path) ≡ true =
    subst (λ (h : House). is_some (whole_at h.plain.rows path) ≡ true) (sym c.self.view_is) c.requires.held in
    let same : (step (Remove path) inside.plain).rows ≡ without_whole rows path =
    ap (λ (p : Plain). p.rows) (remove_is inside.plain path has) in
    subst (λ (h : House). StopsAt g.S.Site (step (Remove path) h.plain).rows h new) c.self.view_is
    (stops_alike none_comes (IsFile g.S.Site) rows rows (without_whole rows path) (step (Remove path) inside.plain).rows
    (stored inside.kept)
    inside.kept new.kept (λ q. refl) (λ q. ap (λ n. whole_at n q) same) (λ core text no. absurd no) (c.let_go.ensures.stops told))

pub returns-clause-exact : goal.returns-clause-exact
returns-clause-exact g c =
    ok_map c.let_go.result (λ exact told found. exact told (subst IsFound (sym c.self.view_is) found)) c.let_go.ensures.exact
