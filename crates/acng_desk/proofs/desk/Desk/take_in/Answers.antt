use Rattle.std.proofs.Common.{◌≡◌, ◌⊎◌, ◌<◌, ◌∙◌, ap, refl, sym, subst, true, false, Some, OnOk, OnErr, List, ℕ}
use Rattle.acng_keeper.specs.Images.{LeavesOnly}
use Rattle.acng_keeper.specs.Kept.{stored}
use Rattle.acng_head.specs.Records.{IsHead}
use Rattle.acng_rows.specs.declared.row.Whole.{Whole}
use Rattle.acng_rows.specs.Rows.{Rows, head_of, whole_at, id_in_whole, with_whole}
use Rattle.acng_rows.specs.Goods.{HasBody, IsBetween, IsUnnamed, whole_comes}
use Rattle.acng_rows.specs.Removals.{KeepsLoose, both_of}
use Rattle.acng_rows.proofs.Seals.{alike_held, alike_unnamed}
use Rattle.acng_desk.specs.House.{House, spot_at}
use Rattle.acng_desk.specs.Begins.{is_full}
use Rattle.acng_desk.specs.Commands.{imported, put_in}
use Rattle.acng_desk.specs.Imports.{HasImport}
use Rattle.acng_desk.specs.Keeps.{IsNobodys, IsSound}
use Rattle.acng_desk.proofs.Kepts.{held_of}
use Rattle.acng_desk.specs.Stops.{StopsAt, IsFound}
use Rattle.acng_desk.proofs.Results.{by_result, ok_map, ok_both, err_map, flat}
use Rattle.acng_desk.proofs.Stopped.{rest_stops}
use Rattle.acng_desk.proofs.Discards.{nobodys_unnamed}
use Rattle.acng_desk.proofs.Importings.{reserved_same, reserved_row, import_head, import_body, put_sound, put_faithful, put_stops}
use Rattle.acng_desk.proofs.Importings.{put_found}
use Rattle.acng_desk.proofs.Importings.{final, final_ok, final_holds, put_right, put_as, either_as}
use Rattle.acng_desk.proofs.desk.Desk.take_in.Goals as goal

pub hold-done-requires-clause-held : goal.hold-done-requires-clause-held
hold-done-requires-clause-held g c =
    let path = c.args.path.now in
    let inside : House = record {
      plain = record {
        rows = c.self.inside.rows;
        parts = c.self.inside.parts;
        next_try = c.self.inside.right.next;
        next_id = g.K.Keeper.next c.self.inside.keeper;
        limit = c.self.inside.limit;
        rules = c.self.inside.rules;
      };
      kept = g.K.Keeper.kept c.self.inside.keeper;
      faults = g.K.Keeper.faults c.self.inside.keeper;
    } in
    let rows : Rows = c.self.inside.rows in
    let mid : Rows = c.reserve.new.self in
    let same : (q : List ℕ) → whole_at mid q ≡ whole_at rows q = reserved_same rows mid path c.in-Ok.made c.in-Ok.ensures.rows
    c.in-Ok.ensures.made in
    alike_held rows mid same g.K.Keeper.tells inside.plain.next_id inside.kept (held_of g.S.Site g.K.Keeper.tells inside c.self.invariant)

pub hold-done-requires-clause-row : goal.hold-done-requires-clause-row
hold-done-requires-clause-row g c =
    let path = c.args.path.now in
    let rows : Rows = c.self.inside.rows in
    let mid : Rows = c.reserve.new.self in
    reserved_row rows mid path c.in-Ok.made c.in-Ok.ensures.rows c.in-Ok.ensures.made

pub hold-done-requires-clause-head : goal.hold-done-requires-clause-head
hold-done-requires-clause-head g c =
    let path = c.args.path.now in
    let id = c.args.id in
    let w : Whole = imported id c.args.hash c.args.size c.args.now in
    let whole : c.import_of-whole.result ≡ w = c.import_of-whole.ensures.whole in
    let good : IsHead (head_of path w) = import_head path id c.args.hash c.args.size c.args.now c.as_bytes.ensures.path
    c.import_of-whole.ensures.hash
    c.import_of-whole.ensures.moment c.requires.small in
    subst (λ x. IsHead (head_of path x)) (sym whole) good

pub hold-done-requires-clause-below : goal.hold-done-requires-clause-below
hold-done-requires-clause-below g c =
    let id = c.args.id in
    let inside : House = record {
      plain = record {
        rows = c.self.inside.rows;
        parts = c.self.inside.parts;
        next_try = c.self.inside.right.next;
        next_id = g.K.Keeper.next c.self.inside.keeper;
        limit = c.self.inside.limit;
        rules = c.self.inside.rules;
      };
      kept = g.K.Keeper.kept c.self.inside.keeper;
      faults = g.K.Keeper.faults c.self.inside.keeper;
    } in
    let w : Whole = imported id c.args.hash c.args.size c.args.now in
    let whole : c.import_of-whole.result ≡ w = c.import_of-whole.ensures.whole in
    let low : id < inside.plain.next_id = subst (λ (h : House). id < h.plain.next_id) (sym c.self.view_is) c.requires.below in
    subst (λ (x : Whole). x.id < inside.plain.next_id) (sym whole) low

pub hold-done-requires-clause-own : goal.hold-done-requires-clause-own
hold-done-requires-clause-own g c =
    let path = c.args.path.now in
    let id = c.args.id in
    let inside : House = record {
      plain = record {
        rows = c.self.inside.rows;
        parts = c.self.inside.parts;
        next_try = c.self.inside.right.next;
        next_id = g.K.Keeper.next c.self.inside.keeper;
        limit = c.self.inside.limit;
        rules = c.self.inside.rules;
      };
      kept = g.K.Keeper.kept c.self.inside.keeper;
      faults = g.K.Keeper.faults c.self.inside.keeper;
    } in
    let rows : Rows = c.self.inside.rows in
    let mid : Rows = c.reserve.new.self in
    let w : Whole = imported id c.args.hash c.args.size c.args.now in
    let whole : c.import_of-whole.result ≡ w = c.import_of-whole.ensures.whole in
    let none : IsNobodys inside.plain.rows inside.plain.parts id =
    subst (λ (h : House). IsNobodys h.plain.rows h.plain.parts id) (sym c.self.view_is) c.requires.nobodys in
    let same : (q : List ℕ) → whole_at mid q ≡ whole_at rows q = reserved_same rows mid path c.in-Ok.made c.in-Ok.ensures.rows
    c.in-Ok.ensures.made in
    subst (λ (x : Whole). IsUnnamed mid x.id) (sym whole) (alike_unnamed rows mid same id (nobodys_unnamed rows inside.plain.parts id none))

pub hold-done-requires-clause-body : goal.hold-done-requires-clause-body
hold-done-requires-clause-body g c =
    let id = c.args.id in
    let inside : House = record {
      plain = record {
        rows = c.self.inside.rows;
        parts = c.self.inside.parts;
        next_try = c.self.inside.right.next;
        next_id = g.K.Keeper.next c.self.inside.keeper;
        limit = c.self.inside.limit;
        rules = c.self.inside.rules;
      };
      kept = g.K.Keeper.kept c.self.inside.keeper;
      faults = g.K.Keeper.faults c.self.inside.keeper;
    } in
    let w : Whole = imported id c.args.hash c.args.size c.args.now in
    let whole : c.import_of-whole.result ≡ w = c.import_of-whole.ensures.whole in
    let file : g.K.Keeper.tells ≡ true → HasImport inside.kept id c.args.hash c.args.size =
    subst (λ (h : House). g.K.Keeper.tells ≡ true → HasImport h.kept id c.args.hash c.args.size)
    (sym c.self.view_is) c.requires.file in
    λ told. subst (HasBody inside.kept) (sym whole) (import_body inside.kept id c.args.hash c.args.size c.args.now (file told))

pub invariant_of-self-2 : goal.invariant_of-self-2
invariant_of-self-2 g c =
    let path = c.args.path.now in
    let id = c.args.id in
    let inside : House = record {
      plain = record {
        rows = c.self.inside.rows;
        parts = c.self.inside.parts;
        next_try = c.self.inside.right.next;
        next_id = g.K.Keeper.next c.self.inside.keeper;
        limit = c.self.inside.limit;
        rules = c.self.inside.rules;
      };
      kept = g.K.Keeper.kept c.self.inside.keeper;
      faults = g.K.Keeper.faults c.self.inside.keeper;
    } in
    let rows : Rows = c.self.inside.rows in
    let mid : Rows = c.reserve.new.self in
    let w : Whole = imported id c.args.hash c.args.size c.args.now in
    let whole : c.import_of-whole.result ≡ w = c.import_of-whole.ensures.whole in
    let none : IsNobodys inside.plain.rows inside.plain.parts id =
    subst (λ (h : House). IsNobodys h.plain.rows h.plain.parts id) (sym c.self.view_is) c.requires.nobodys in
    let low : id < inside.plain.next_id = subst (λ (h : House). id < h.plain.next_id) (sym c.self.view_is) c.requires.below in
    let same : (q : List ℕ) → whole_at mid q ≡ whole_at rows q = reserved_same rows mid path c.in-Ok.made c.in-Ok.ensures.rows
    c.in-Ok.ensures.made in
    let good : IsHead (head_of path w) = import_head path id c.args.hash c.args.size c.args.now c.as_bytes.ensures.path
    c.import_of-whole.ensures.hash
    c.import_of-whole.ensures.moment c.requires.small in
    let file : g.K.Keeper.tells ≡ true → HasImport inside.kept id c.args.hash c.args.size =
    subst (λ (h : House). g.K.Keeper.tells ≡ true → HasImport h.kept id c.args.hash c.args.size)
    (sym c.self.view_is) c.requires.file in
    let k = inside.kept in
    let l = g.K.Keeper.kept c.hold-done.new.keeper in
    let next = g.K.Keeper.next c.hold-done.new.keeper in
    let e = c.hold-done.ensures in
    let m : Rows = c.hold-done.new.rows in
    let new : Rows = c.release.new.self in
    let into : with_whole mid path (Some c.import_of-whole.result) ≡ with_whole mid path (Some w) = ap
    (λ (x : Whole). with_whole mid path (Some x)) whole in
    let on : OnOk c.hold-done.result (m ≡ with_whole mid path (Some w)) = ok_map c.hold-done.result (λ is. is ∙ into) e.rows in
    let off : OnErr c.hold-done.result ((m ≡ mid) ⊎ (m ≡ with_whole mid path (Some w))) = err_map c.hold-done.result
    (put_right into) e.either in
    let ends : (m ≡ mid) ⊎ (m ≡ with_whole mid path (Some w)) = flat (by_result c.hold-done.result on off) in
    let room : is_full (spot_at inside.plain path) ≡ false = subst (λ (h : House). is_full (spot_at h.plain path) ≡ false)
    (sym c.self.view_is) c.requires.room in
    let L : Whole → Type 0 = λ x. LeavesOnly (IsBetween (whole_comes path x k) mid (with_whole mid path (Some x)) (stored k)) k l in
    put_sound g.S.Site g.K.Keeper.tells inside path id c.args.hash c.args.size c.args.now l
    (g.K.Keeper.faults c.hold-done.new.keeper) new next c.self.invariant none low good room
    e.same_next
    (λ told. final_holds rows mid m new path w c.in-Ok.made c.goes_back-back.result c.in-Ok.ensures.made c.in-Ok.ensures.rows
    c.goes_back-back.ensures c.release.ensures (stored l) ends
    (e.held.holds told))
    (λ told. subst (λ o. KeepsLoose (both_of (id_in_whole o)) k l) (same path) (e.loose told))
    (λ told. put_faithful g.S.Site path id c.args.hash c.args.size c.args.now mid (with_whole mid path (Some w)) k l
    (c.self.invariant.kept told).faithful (file told)
    (subst L whole (e.stops told)) (e.sealed told))
    (final rows mid m new path w c.in-Ok.made c.goes_back-back.result c.in-Ok.ensures.made c.in-Ok.ensures.rows
    c.goes_back-back.ensures c.release.ensures ends)

pub returns-clause-plain : goal.returns-clause-plain
returns-clause-plain g c =
    let path = c.args.path.now in
    let id = c.args.id in
    let inside : House = record {
      plain = record {
        rows = c.self.inside.rows;
        parts = c.self.inside.parts;
        next_try = c.self.inside.right.next;
        next_id = g.K.Keeper.next c.self.inside.keeper;
        limit = c.self.inside.limit;
        rules = c.self.inside.rules;
      };
      kept = g.K.Keeper.kept c.self.inside.keeper;
      faults = g.K.Keeper.faults c.self.inside.keeper;
    } in
    let rows : Rows = c.self.inside.rows in
    let mid : Rows = c.reserve.new.self in
    let w : Whole = imported id c.args.hash c.args.size c.args.now in
    let whole : c.import_of-whole.result ≡ w = c.import_of-whole.ensures.whole in
    let next = g.K.Keeper.next c.hold-done.new.keeper in
    let e = c.hold-done.ensures in
    let m : Rows = c.hold-done.new.rows in
    let new : Rows = c.release.new.self in
    let into : with_whole mid path (Some c.import_of-whole.result) ≡ with_whole mid path (Some w) = ap
    (λ (x : Whole). with_whole mid path (Some x)) whole in
    let on : OnOk c.hold-done.result (m ≡ with_whole mid path (Some w)) = ok_map c.hold-done.result (λ is. is ∙ into) e.rows in
    ok_map c.hold-done.result
    (λ is. put_as inside.plain new next (with_whole rows path (Some w))
    (final_ok rows mid m new path w c.in-Ok.made c.goes_back-back.result c.in-Ok.ensures.made c.in-Ok.ensures.rows
    c.goes_back-back.ensures c.release.ensures is) e.same_next
    ∙ ap (λ (h : House). put_in path w h.plain) c.self.view_is)
    on

pub returns-clause-fell : goal.returns-clause-fell
returns-clause-fell g c =
    let path = c.args.path.now in
    let id = c.args.id in
    let inside : House = record {
      plain = record {
        rows = c.self.inside.rows;
        parts = c.self.inside.parts;
        next_try = c.self.inside.right.next;
        next_id = g.K.Keeper.next c.self.inside.keeper;
        limit = c.self.inside.limit;
        rules = c.self.inside.rules;
      };
      kept = g.K.Keeper.kept c.self.inside.keeper;
      faults = g.K.Keeper.faults c.self.inside.keeper;
    } in
    let rows : Rows = c.self.inside.rows in
    let mid : Rows = c.reserve.new.self in
    let w : Whole = imported id c.args.hash c.args.size c.args.now in
    let whole : c.import_of-whole.result ≡ w = c.import_of-whole.ensures.whole in
    let next = g.K.Keeper.next c.hold-done.new.keeper in
    let e = c.hold-done.ensures in
    let m : Rows = c.hold-done.new.rows in
    let new : Rows = c.release.new.self in
    let into : with_whole mid path (Some c.import_of-whole.result) ≡ with_whole mid path (Some w) = ap
    (λ (x : Whole). with_whole mid path (Some x)) whole in
    let off : OnErr c.hold-done.result ((m ≡ mid) ⊎ (m ≡ with_whole mid path (Some w))) = err_map c.hold-done.result
    (put_right into) e.either in
    err_map c.hold-done.result
    (λ is. either_as (final rows mid m new path w c.in-Ok.made c.goes_back-back.result c.in-Ok.ensures.made c.in-Ok.ensures.rows
    c.goes_back-back.ensures c.release.ensures is)
    (λ old. put_as inside.plain new next rows old e.same_next ∙ ap (λ (h : House). h.plain) c.self.view_is)
    (λ put. put_as inside.plain new next (with_whole rows path (Some w)) put e.same_next
    ∙ ap (λ (h : House). put_in path w h.plain) c.self.view_is))
    off

pub invariant_of-self : goal.invariant_of-self
invariant_of-self g c =
    let inside : House = record {
      plain = record {
        rows = c.self.inside.rows;
        parts = c.self.inside.parts;
        next_try = c.self.inside.right.next;
        next_id = g.K.Keeper.next c.self.inside.keeper;
        limit = c.self.inside.limit;
        rules = c.self.inside.rules;
      };
      kept = g.K.Keeper.kept c.self.inside.keeper;
      faults = g.K.Keeper.faults c.self.inside.keeper;
    } in
    subst (λ (m : Rows). IsSound g.S.Site g.K.Keeper.tells (record inside { plain = record inside.plain { rows = m } }))
    (sym c.in_default.ensures.same) c.self.invariant

pub returns-in_default-clause-stops : goal.returns-in_default-clause-stops
returns-in_default-clause-stops g c = λ told.
    let inside : House = record {
      plain = record {
        rows = c.self.inside.rows;
        parts = c.self.inside.parts;
        next_try = c.self.inside.right.next;
        next_id = g.K.Keeper.next c.self.inside.keeper;
        limit = c.self.inside.limit;
        rules = c.self.inside.rules;
      };
      kept = g.K.Keeper.kept c.self.inside.keeper;
      faults = g.K.Keeper.faults c.self.inside.keeper;
    } in
    let w : Whole = imported c.args.id c.args.hash c.args.size c.args.now in
    subst (λ (h : House). StopsAt g.S.Site (put_in c.args.path.now w h.plain).rows h inside) c.self.view_is
    (rest_stops g.S.Site (put_in c.args.path.now w inside.plain).rows inside inside refl)

pub returns-clause-stops : goal.returns-clause-stops
returns-clause-stops g c = λ told.
    let path = c.args.path.now in
    let id = c.args.id in
    let inside : House = record {
      plain = record {
        rows = c.self.inside.rows;
        parts = c.self.inside.parts;
        next_try = c.self.inside.right.next;
        next_id = g.K.Keeper.next c.self.inside.keeper;
        limit = c.self.inside.limit;
        rules = c.self.inside.rules;
      };
      kept = g.K.Keeper.kept c.self.inside.keeper;
      faults = g.K.Keeper.faults c.self.inside.keeper;
    } in
    let rows : Rows = c.self.inside.rows in
    let mid : Rows = c.reserve.new.self in
    let w : Whole = imported id c.args.hash c.args.size c.args.now in
    let whole : c.import_of-whole.result ≡ w = c.import_of-whole.ensures.whole in
    let same : (q : List ℕ) → whole_at mid q ≡ whole_at rows q = reserved_same rows mid path c.in-Ok.made c.in-Ok.ensures.rows
    c.in-Ok.ensures.made in
    let k = inside.kept in
    let l = g.K.Keeper.kept c.hold-done.new.keeper in
    let file : HasImport inside.kept id c.args.hash c.args.size =
    subst (λ (h : House). HasImport h.kept id c.args.hash c.args.size) (sym c.self.view_is) (c.requires.file told) in
    let L : Whole → Type 0 = λ x. LeavesOnly (IsBetween (whole_comes path x k) mid (with_whole mid path (Some x)) (stored k)) k l in
    let new : House = record inside { kept = l } in
    subst (λ (h : House). StopsAt g.S.Site (put_in path w h.plain).rows h new) c.self.view_is
    (put_stops g.S.Site path id c.args.hash c.args.size c.args.now rows mid k l file same (subst L whole (c.hold-done.ensures.stops told)))

pub returns-clause-exact : goal.returns-clause-exact
returns-clause-exact g c =
    let path = c.args.path.now in
    let id = c.args.id in
    let inside : House = record {
      plain = record {
        rows = c.self.inside.rows;
        parts = c.self.inside.parts;
        next_try = c.self.inside.right.next;
        next_id = g.K.Keeper.next c.self.inside.keeper;
        limit = c.self.inside.limit;
        rules = c.self.inside.rules;
      };
      kept = g.K.Keeper.kept c.self.inside.keeper;
      faults = g.K.Keeper.faults c.self.inside.keeper;
    } in
    let rows : Rows = c.self.inside.rows in
    let mid : Rows = c.reserve.new.self in
    let w : Whole = imported id c.args.hash c.args.size c.args.now in
    let whole : c.import_of-whole.result ≡ w = c.import_of-whole.ensures.whole in
    let same : (q : List ℕ) → whole_at mid q ≡ whole_at rows q = reserved_same rows mid path c.in-Ok.made c.in-Ok.ensures.rows
    c.in-Ok.ensures.made in
    let k = inside.kept in
    let l = g.K.Keeper.kept c.hold-done.new.keeper in
    let m : Rows = c.hold-done.new.rows in
    let new : Rows = c.release.new.self in
    let into : with_whole mid path (Some c.import_of-whole.result) ≡ with_whole mid path (Some w) = ap
    (λ (x : Whole). with_whole mid path (Some x)) whole in
    ok_both c.hold-done.result (λ is exact told found.
    put_found path w rows mid m new k l same
    (final_ok rows mid m new path w c.in-Ok.made c.goes_back-back.result c.in-Ok.ensures.made c.in-Ok.ensures.rows
    c.goes_back-back.ensures c.release.ensures (is ∙ into)) (is ∙ into) (exact told) (subst IsFound (sym c.self.view_is) found))
    c.hold-done.ensures.rows c.hold-done.ensures.exact
