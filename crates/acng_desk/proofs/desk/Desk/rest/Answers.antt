use Rattle.std.proofs.Common.{◌≡◌, ◌<◌, sym, ap, subst, ◌∙◌, true}
use Rattle.std.specs.FinMap as map
use Rattle.acng_rows.specs.Rows.{Rows, out_at, whole_at}
use Rattle.acng_rows.specs.Starts.{NamesBelow}
use Rattle.acng_desk.specs.House.{House, Parts, Parked, parked_of, most_parts}
use Rattle.acng_desk.specs.Keeps.{IsSound}
use Rattle.acng_desk.specs.Settles.{HasOwn, left_rows}
use Rattle.acng_desk.proofs.Lefts.{rest_sound}
use Rattle.acng_desk.proofs.desk.Desk.rest.Goals as goal

pub invariant_of-self-2 : goal.invariant_of-self-2
invariant_of-self-2 g c =
    let path = c.args.path.now in
    let inside : House = record {
      plain = record {
        rows = c.self.inside.rows;
        parts = c.self.inside.parts;
        next_try = c.self.inside.right.next;
        next_id = g.K.Keeper.next c.self.inside.keeper;
        limit = c.self.inside.limit;
        rules = c.self.inside.rules;
      };
      kept = g.K.Keeper.kept c.self.inside.keeper;
      faults = g.K.Keeper.faults c.self.inside.keeper;
    } in
    let part : Parked = parked_of g.K.Body.BodyFile.handle c.args.part in
    let own = subst (λ (h : House). HasOwn (out_at h.plain.rows path) part.handle.number) (sym c.self.view_is) c.requires.own in
    let below = subst (λ (h : House). NamesBelow h.plain.next_try part.label) (sym c.self.view_is) c.requires.below in
    let room = subst (λ (h : House). map.len h.plain.parts < most_parts) (sym c.self.view_is) c.requires.room in
    let P : Rows → Parts → Type 0 = λ m n. IsSound g.S.Site g.K.Keeper.tells
    (record inside { plain = record inside.plain { rows = m; parts = n } }) in
    let parts : c.put.new.self ≡ map.insert inside.plain.parts path part =
    c.in_ok-put.ensures.ok ∙ ap (λ k. map.insert inside.plain.parts k part) c.in_ok-key.ensures in
    subst (λ m. P m c.put.new.self) (sym c.close.ensures)
    (subst (P (left_rows inside.plain.rows path (whole_at inside.plain.rows path) true)) (sym parts)
    (rest_sound g.S.Site g.K.Keeper.tells inside path part own c.requires.parked below room c.self.invariant))
