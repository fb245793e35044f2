use Rattle.std.proofs.Common.{◌≡◌, ℕ, ◌+◌, ap, subst, sym, ◌∙◌, false, Some}
use Rattle.std.specs.FinMap as map
use Rattle.acng_keeper.specs.Kept.{Kept, stored}
use Rattle.acng_rows.specs.Rows.{Rows, Load, released, with_out, whole_at}
use Rattle.acng_desk.specs.House.{House, Plain, Parts, spot_at}
use Rattle.acng_desk.specs.Keeps.{IsSound}
use Rattle.acng_desk.specs.Begins.{is_full, led, load_of}
use Rattle.acng_desk.proofs.Leads.{led_sound}
use Rattle.acng_desk.proofs.LeadSteps.{has_reserved, released_reserved, out_reserved}
use Rattle.acng_desk.proofs.Stores.{sound_next}
use Rattle.acng_desk.proofs.desk.Desk.give_out.Goals as goal

pub invariant_of-self-in-Err : goal.invariant_of-self-in-Err
invariant_of-self-in-Err g c =
    let path = c.args.path.now in
    let inside : House = record {
      plain = record {
        rows = c.self.inside.rows;
        parts = c.self.inside.parts;
        next_try = c.self.inside.right.next;
        next_id = g.K.Keeper.next c.self.inside.keeper;
        limit = c.self.inside.limit;
        rules = c.self.inside.rules;
      };
      kept = g.K.Keeper.kept c.self.inside.keeper;
      faults = g.K.Keeper.faults c.self.inside.keeper;
    } in
    let k = g.K.Keeper.kept c.create.new.self in
    let f = g.K.Keeper.faults c.create.new.self in
    let n = g.K.Keeper.next c.create.new.self in
    let rows : c.release.new.self ≡ inside.plain.rows = c.release.ensures
    ∙ ap (λ m. released c.in-Ok-reserve.made m path) c.in-Ok-reserve.ensures.rows
    ∙ released_reserved inside.plain.rows path c.in-Ok-reserve.made c.in-Ok-reserve.ensures.made in
    let P : Rows → Type 0 = λ m. IsSound g.S.Site g.K.Keeper.tells (record {
      plain = record inside.plain { rows = m; next_id = n };
      kept =
          k;
      faults = f;
    }) in
    subst P (sym rows) (sound_next g.S.Site g.K.Keeper.tells inside k f n c.in-Err.ensures.same_next
    (λ told. ap stored c.in-Err.ensures.same) (λ told. ap (λ (x : Kept). x.loose) c.in-Err.ensures.same) c.self.invariant)

pub returns-in-Err-clause-same : goal.returns-in-Err-clause-same
returns-in-Err-clause-same g c =
    let path = c.args.path.now in
    let inside : House = record {
      plain = record {
        rows = c.self.inside.rows;
        parts = c.self.inside.parts;
        next_try = c.self.inside.right.next;
        next_id = g.K.Keeper.next c.self.inside.keeper;
        limit = c.self.inside.limit;
        rules = c.self.inside.rules;
      };
      kept = g.K.Keeper.kept c.self.inside.keeper;
      faults = g.K.Keeper.faults c.self.inside.keeper;
    } in
    let n = g.K.Keeper.next c.create.new.self in
    let rows : c.release.new.self ≡ inside.plain.rows = c.release.ensures
    ∙ ap (λ m. released c.in-Ok-reserve.made m path) c.in-Ok-reserve.ensures.rows
    ∙ released_reserved inside.plain.rows path c.in-Ok-reserve.made c.in-Ok-reserve.ensures.made in
    let Q : Rows → ℕ → Plain = λ m i. record inside.plain { rows = m; next_id = i } in
    ap (λ m. Q m n) rows ∙ ap (Q inside.plain.rows) c.in-Err.ensures.same_next
    ∙ ap (λ (h : House). h.plain) c.self.view_is

pub set_out-requires : goal.set_out-requires
set_out-requires g c = ap (λ m. map.contains_key m c.args.path.now) c.in-Ok-reserve.ensures.rows
    ∙ has_reserved c.self.inside.rows c.args.path.now c.in-Ok-reserve.made c.in-Ok-reserve.ensures.made

pub invariant_of-self-2 : goal.invariant_of-self-2
invariant_of-self-2 g c =
    let path = c.args.path.now in
    let inside : House = record {
      plain = record {
        rows = c.self.inside.rows;
        parts = c.self.inside.parts;
        next_try = c.self.inside.right.next;
        next_id = g.K.Keeper.next c.self.inside.keeper;
        limit = c.self.inside.limit;
        rules = c.self.inside.rules;
      };
      kept = g.K.Keeper.kept c.self.inside.keeper;
      faults = g.K.Keeper.faults c.self.inside.keeper;
    } in
    let k = g.K.Keeper.kept c.create.new.self in
    let f = g.K.Keeper.faults c.create.new.self in
    let n = g.K.Keeper.next c.create.new.self in
    let t = c.draw_sixteen-tries.new.self.next in
    let same : inside.plain ≡ c.args.self.now.plain = ap (λ (h : House). h.plain) c.self.view_is in
    let load : c.in-Ok.out.value ≡ load_of (spot_at inside.plain path) =
    c.in-Ok.ensures.ok ∙ c.out.ensures ∙ c.requires.load ∙ ap (λ (p : Plain). load_of (spot_at p path)) (sym same) in
    let rows : c.set_out.new.self ≡ (led path inside.plain).rows = c.set_out.ensures
    ∙ ap (λ (m : Rows). with_out m path (Some c.in-Ok.out.value)) c.in-Ok-reserve.ensures.rows
    ∙ out_reserved inside.plain.rows path c.in-Ok-reserve.made c.in-Ok-reserve.ensures.made c.in-Ok.out.value
    ∙ ap (λ (o : Load). map.insert inside.plain.rows path (record { whole = whole_at inside.plain.rows path; out = Some o })) load in
    let P : Rows → Parts → ℕ → ℕ → Type 0 = λ m q x y. IsSound g.S.Site g.K.Keeper.tells
    (record { plain = record inside.plain { rows = m; parts = q; next_try = x; next_id = y }; kept = k; faults = f }) in
    let sound = led_sound g.S.Site g.K.Keeper.tells inside path k f (subst (λ (p : Plain). is_full (spot_at p path) ≡ false) (sym same)
    c.requires.room)
    (λ told. c.in-Ok-create.ensures.loose told) (λ told. (g.met.K.Keeper.sound c.self.inside.keeper told).heads) c.self.invariant in
    subst (λ m. P m c.remove.new.self t n) (sym rows)
    (subst (λ q. P (led path inside.plain).rows q t n) (sym c.remove.ensures.removed)
    (subst (λ x. P (led path inside.plain).rows (led path inside.plain).parts x n) (sym c.draw_sixteen-tries.ensures.right)
    (subst (λ y. P (led path inside.plain).rows (led path inside.plain).parts (inside.plain.next_try + 16) y)
    (sym c.in-Ok-create.ensures.next) sound)))

pub returns-clause-led : goal.returns-clause-led
returns-clause-led g c =
    let path = c.args.path.now in
    let inside : House = record {
      plain = record {
        rows = c.self.inside.rows;
        parts = c.self.inside.parts;
        next_try = c.self.inside.right.next;
        next_id = g.K.Keeper.next c.self.inside.keeper;
        limit = c.self.inside.limit;
        rules = c.self.inside.rules;
      };
      kept = g.K.Keeper.kept c.self.inside.keeper;
      faults = g.K.Keeper.faults c.self.inside.keeper;
    } in
    let n = g.K.Keeper.next c.create.new.self in
    let t = c.draw_sixteen-tries.new.self.next in
    let same : inside.plain ≡ c.args.self.now.plain = ap (λ (h : House). h.plain) c.self.view_is in
    let load : c.in-Ok.out.value ≡ load_of (spot_at inside.plain path) =
    c.in-Ok.ensures.ok ∙ c.out.ensures ∙ c.requires.load ∙ ap (λ (p : Plain). load_of (spot_at p path)) (sym same) in
    let rows : c.set_out.new.self ≡ (led path inside.plain).rows = c.set_out.ensures
    ∙ ap (λ (m : Rows). with_out m path (Some c.in-Ok.out.value)) c.in-Ok-reserve.ensures.rows
    ∙ out_reserved inside.plain.rows path c.in-Ok-reserve.made c.in-Ok-reserve.ensures.made c.in-Ok.out.value
    ∙ ap (λ (o : Load). map.insert inside.plain.rows path (record { whole = whole_at inside.plain.rows path; out = Some o })) load in
    let Q : Rows → Parts → ℕ → ℕ → Plain = λ m q x y. record inside.plain { rows = m; parts = q; next_try = x; next_id = y } in
    ap (λ m. Q m c.remove.new.self t n) rows
    ∙ ap (λ q. Q (led path inside.plain).rows q t n) c.remove.ensures.removed
    ∙ ap (λ x. Q (led path inside.plain).rows (led path inside.plain).parts x n) c.draw_sixteen-tries.ensures.right
    ∙ ap (Q (led path inside.plain).rows (led path inside.plain).parts (inside.plain.next_try + 16)) c.in-Ok-create.ensures.next
    ∙ ap (led path) same
