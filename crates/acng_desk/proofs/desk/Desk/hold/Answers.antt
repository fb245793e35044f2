use Rattle.std.proofs.Common.{◌≡◌, ◌<◌, ℕ, sym, subst, ap, ◌∙◌, inl, true, false, Some, None}
use Rattle.std.specs.Option.{IfSome}
use Rattle.acng_base.specs.Paths.{path_refusal}
use Rattle.acng_base.specs.Tags.{is_tag}
use Rattle.acng_head.specs.Records.{IsHead}
use Rattle.acng_keeper.specs.declared.effect.Effect.TheVariants.{Sealed}
use Rattle.acng_keeper.specs.Kept.{stored, Comes, MayCome}
use Rattle.acng_grow.specs.Grown.{text_of, number_in}
use Rattle.acng_rows.specs.declared.row.Whole.{Whole}
use Rattle.acng_rows.specs.Rows.{Rows, head_of, whole_at, out_at, with_whole, closed}
use Rattle.acng_rows.specs.Goods.{IsExact, core_of}
use Rattle.acng_rows.specs.Starts.{NamesBelow}
use Rattle.acng_desk.specs.House.{House, Plain}
use Rattle.acng_desk.specs.Keeps.{IsSound}
use Rattle.acng_desk.specs.Settles.{HasOwn, left_rows, left_with}
use Rattle.acng_desk.proofs.Holdings.{close_sealed, closed_with, hold_sound, row_held}
use Rattle.acng_desk.proofs.HoldSteps.{own_below, own_unnamed, of_file, file_below, sealed_held, has_body, held_faithful}
use Rattle.acng_desk.proofs.HoldSteps.{sealed_stops, held_stops, held_found}
use Rattle.acng_desk.specs.Stops.{IsFile, StopsAt, IsFound}
use Rattle.acng_desk.proofs.Lefts.{row_out, out_own}
use Rattle.acng_desk.proofs.Results.{by_result, flat, fallen, ok_map, err_map}
use Rattle.acng_desk.proofs.Wholly.{IsNew, is_new, new_head, new_file, new_size}
use Rattle.acng_desk.proofs.desk.Desk.hold.Goals as goal

pub seal-requires-clause-below : goal.seal-requires-clause-below
seal-requires-clause-below g c =
    let path = c.args.path.now in
    let body = c.args.body.now in
    let w = c.args.whole in
    let inside : House = record {
      plain = record {
        rows = c.self.inside.rows;
        parts = c.self.inside.parts;
        next_try = c.self.inside.right.next;
        next_id = g.K.Keeper.next c.self.inside.keeper;
        limit = c.self.inside.limit;
        rules = c.self.inside.rules;
      };
      kept = g.K.Keeper.kept c.self.inside.keeper;
      faults = g.K.Keeper.faults c.self.inside.keeper;
    } in
    let n : IsNew w.checked body w = is_new w.checked body w c.requires.whole in
    let number : number_in body.file ≡ Some w.id = n.number ∙ ap (λ k. Some k) (sym (ap (λ (x : Whole). x.id) n.is)) in
    let own : HasOwn (out_at inside.plain.rows path) w.id = subst (λ (h : House). HasOwn (out_at h.plain.rows path) w.id)
    (sym c.self.view_is) c.requires.own in
    file_below body.file w.id inside.plain.next_id number (own_below g.S.Site g.K.Keeper.tells inside path w.id c.self.invariant own)

pub invariant_of-self : goal.invariant_of-self
invariant_of-self g c =
    let path = c.args.path.now in
    let body = c.args.body.now in
    let w = c.args.whole in
    let inside : House = record {
      plain = record {
        rows = c.self.inside.rows;
        parts = c.self.inside.parts;
        next_try = c.self.inside.right.next;
        next_id = g.K.Keeper.next c.self.inside.keeper;
        limit = c.self.inside.limit;
        rules = c.self.inside.rules;
      };
      kept = g.K.Keeper.kept c.self.inside.keeper;
      faults = g.K.Keeper.faults c.self.inside.keeper;
    } in
    let n : IsNew w.checked body w = is_new w.checked body w c.requires.whole in
    let number : number_in body.file ≡ Some w.id = n.number ∙ ap (λ k. Some k) (sym (ap (λ (x : Whole). x.id) n.is)) in
    let own : HasOwn (out_at inside.plain.rows path) w.id = subst (λ (h : House). HasOwn (out_at h.plain.rows path) w.id)
    (sym c.self.view_is) c.requires.own in
    let k = g.K.Keeper.kept c.seal.new.keeper in
    let f = g.K.Keeper.faults c.seal.new.keeper in
    let may : (told : g.K.Keeper.tells ≡ true) → MayCome (Sealed w.id (text_of body)) inside.kept k =
    λ told. of_file (λ i t. MayCome (Sealed i t) inside.kept k) body.file w.id number (c.in-Err.ensures.either told) in
    let P : Rows → ℕ → Type 0 = λ m i. IsSound g.S.Site g.K.Keeper.tells
    (record { plain = record inside.plain { rows = m; next_id = i }; kept = k; faults = f }) in
    subst (λ m. P m (g.K.Keeper.next c.seal.new.keeper)) (sym c.close.ensures)
    (subst (P (left_rows inside.plain.rows path (whole_at inside.plain.rows path) false)) (sym c.seal.ensures.same_next)
    (close_sealed g.S.Site g.K.Keeper.tells inside path w.id (text_of body) k f own may c.self.invariant))

pub hold-held-requires-clause-held : goal.hold-held-requires-clause-held
hold-held-requires-clause-held g c =
    let path = c.args.path.now in
    let body = c.args.body.now in
    let w = c.args.whole in
    let inside : House = record {
      plain = record {
        rows = c.self.inside.rows;
        parts = c.self.inside.parts;
        next_try = c.self.inside.right.next;
        next_id = g.K.Keeper.next c.self.inside.keeper;
        limit = c.self.inside.limit;
        rules = c.self.inside.rules;
      };
      kept = g.K.Keeper.kept c.self.inside.keeper;
      faults = g.K.Keeper.faults c.self.inside.keeper;
    } in
    let n : IsNew w.checked body w = is_new w.checked body w c.requires.whole in
    let number : number_in body.file ≡ Some w.id = n.number ∙ ap (λ k. Some k) (sym (ap (λ (x : Whole). x.id) n.is)) in
    let own : HasOwn (out_at inside.plain.rows path) w.id = subst (λ (h : House). HasOwn (out_at h.plain.rows path) w.id)
    (sym c.self.view_is) c.requires.own in
    let k = g.K.Keeper.kept c.seal.new.keeper in
    let comes : (told : g.K.Keeper.tells ≡ true) → Comes (Sealed w.id (text_of body)) inside.kept k =
    λ told. of_file (λ i t. Comes (Sealed i t) inside.kept k) body.file w.id number (c.in_default.ensures.comes told) in
    sealed_held g.S.Site g.K.Keeper.tells inside path w.id (g.K.Keeper.next c.seal.new.keeper) (text_of body) k c.self.invariant own
    c.seal.ensures.same_next (λ told. inl (comes told))

pub hold-held-requires-clause-head : goal.hold-held-requires-clause-head
hold-held-requires-clause-head g c =
    let path = c.args.path.now in
    let body = c.args.body.now in
    let w = c.args.whole in
    let n : IsNew w.checked body w = is_new w.checked body w c.requires.whole in
    let head : IsHead (head_of path w) = subst (λ q. IsHead (head_of q w)) c.requires.path
    (new_head g.S.Site g.K.Body.BodyFile.tells g.K.Keeper.tells body w g.met.K.Keeper.body_tells c.self.invariant.told c.keeps.ensures
    c.requires.stage n
    (subst (λ q. path_refusal q ≡ None) (sym c.requires.path) c.as_bytes.ensures.path)
    (subst (λ t. IfSome t (λ x. is_tag x ≡ true)) (ap (λ (x : Whole). x.tag) n.is) c.requires.tag) c.requires.moment) in
    head

pub hold-held-requires-clause-below : goal.hold-held-requires-clause-below
hold-held-requires-clause-below g c =
    let path = c.args.path.now in
    let w = c.args.whole in
    let inside : House = record {
      plain = record {
        rows = c.self.inside.rows;
        parts = c.self.inside.parts;
        next_try = c.self.inside.right.next;
        next_id = g.K.Keeper.next c.self.inside.keeper;
        limit = c.self.inside.limit;
        rules = c.self.inside.rules;
      };
      kept = g.K.Keeper.kept c.self.inside.keeper;
      faults = g.K.Keeper.faults c.self.inside.keeper;
    } in
    let own : HasOwn (out_at inside.plain.rows path) w.id = subst (λ (h : House). HasOwn (out_at h.plain.rows path) w.id)
    (sym c.self.view_is) c.requires.own in
    subst (λ i. w.id < i) (sym c.seal.ensures.same_next) (own_below g.S.Site g.K.Keeper.tells inside path w.id c.self.invariant own)

pub hold-held-requires-clause-own : goal.hold-held-requires-clause-own
hold-held-requires-clause-own g c =
    let path = c.args.path.now in
    let w = c.args.whole in
    let inside : House = record {
      plain = record {
        rows = c.self.inside.rows;
        parts = c.self.inside.parts;
        next_try = c.self.inside.right.next;
        next_id = g.K.Keeper.next c.self.inside.keeper;
        limit = c.self.inside.limit;
        rules = c.self.inside.rules;
      };
      kept = g.K.Keeper.kept c.self.inside.keeper;
      faults = g.K.Keeper.faults c.self.inside.keeper;
    } in
    let own : HasOwn (out_at inside.plain.rows path) w.id = subst (λ (h : House). HasOwn (out_at h.plain.rows path) w.id)
    (sym c.self.view_is) c.requires.own in
    own_unnamed g.S.Site g.K.Keeper.tells inside path w.id c.self.invariant own

pub hold-held-requires-clause-body : goal.hold-held-requires-clause-body
hold-held-requires-clause-body g c =
    let body = c.args.body.now in
    let w = c.args.whole in
    let inside : House = record {
      plain = record {
        rows = c.self.inside.rows;
        parts = c.self.inside.parts;
        next_try = c.self.inside.right.next;
        next_id = g.K.Keeper.next c.self.inside.keeper;
        limit = c.self.inside.limit;
        rules = c.self.inside.rules;
      };
      kept = g.K.Keeper.kept c.self.inside.keeper;
      faults = g.K.Keeper.faults c.self.inside.keeper;
    } in
    let n : IsNew w.checked body w = is_new w.checked body w c.requires.whole in
    let number : number_in body.file ≡ Some w.id = n.number ∙ ap (λ k. Some k) (sym (ap (λ (x : Whole). x.id) n.is)) in
    let k = g.K.Keeper.kept c.seal.new.keeper in
    let comes : (told : g.K.Keeper.tells ≡ true) → Comes (Sealed w.id (text_of body)) inside.kept k =
    λ told. of_file (λ i t. Comes (Sealed i t) inside.kept k) body.file w.id number (c.in_default.ensures.comes told) in
    λ told. has_body inside.kept k w (text_of body) (comes told)
    (new_size g.S.Site g.K.Body.BodyFile.tells g.K.Keeper.tells body w g.met.K.Keeper.body_tells c.self.invariant.told c.keeps.ensures
    c.requires.stage n told)

pub close-requires-2 : goal.close-requires-2
close-requires-2 g c =
    let path = c.args.path.now in
    let w = c.args.whole in
    let inside : House = record {
      plain = record {
        rows = c.self.inside.rows;
        parts = c.self.inside.parts;
        next_try = c.self.inside.right.next;
        next_id = g.K.Keeper.next c.self.inside.keeper;
        limit = c.self.inside.limit;
        rules = c.self.inside.rules;
      };
      kept = g.K.Keeper.kept c.self.inside.keeper;
      faults = g.K.Keeper.faults c.self.inside.keeper;
    } in
    let own : HasOwn (out_at inside.plain.rows path) w.id = subst (λ (h : House). HasOwn (out_at h.plain.rows path) w.id)
    (sym c.self.view_is) c.requires.own in
    row_held inside.plain.rows c.hold-held.new.rows path w
    (row_out inside.plain.rows path (out_own (out_at inside.plain.rows path) w.id own))
    (flat (by_result c.hold-held.result c.hold-held.ensures.rows c.hold-held.ensures.either))

pub invariant_of-self-2 : goal.invariant_of-self-2
invariant_of-self-2 g c =
    let path = c.args.path.now in
    let body = c.args.body.now in
    let w = c.args.whole in
    let inside : House = record {
      plain = record {
        rows = c.self.inside.rows;
        parts = c.self.inside.parts;
        next_try = c.self.inside.right.next;
        next_id = g.K.Keeper.next c.self.inside.keeper;
        limit = c.self.inside.limit;
        rules = c.self.inside.rules;
      };
      kept = g.K.Keeper.kept c.self.inside.keeper;
      faults = g.K.Keeper.faults c.self.inside.keeper;
    } in
    let n : IsNew w.checked body w = is_new w.checked body w c.requires.whole in
    let number : number_in body.file ≡ Some w.id = n.number ∙ ap (λ k. Some k) (sym (ap (λ (x : Whole). x.id) n.is)) in
    let own : HasOwn (out_at inside.plain.rows path) w.id = subst (λ (h : House). HasOwn (out_at h.plain.rows path) w.id)
    (sym c.self.view_is) c.requires.own in
    let k = g.K.Keeper.kept c.seal.new.keeper in
    let comes : (told : g.K.Keeper.tells ≡ true) → Comes (Sealed w.id (text_of body)) inside.kept k =
    λ told. of_file (λ i t. Comes (Sealed i t) inside.kept k) body.file w.id number (c.in_default.ensures.comes told) in
    let head : IsHead (head_of path w) = subst (λ q. IsHead (head_of q w)) c.requires.path
    (new_head g.S.Site g.K.Body.BodyFile.tells g.K.Keeper.tells body w g.met.K.Keeper.body_tells c.self.invariant.told c.keeps.ensures
    c.requires.stage n
    (subst (λ q. path_refusal q ≡ None) (sym c.requires.path) c.as_bytes.ensures.path)
    (subst (λ t. IfSome t (λ x. is_tag x ≡ true)) (ap (λ (x : Whole). x.tag) n.is) c.requires.tag) c.requires.moment) in
    let l = g.K.Keeper.kept c.hold-held.new.keeper in
    let f = g.K.Keeper.faults c.hold-held.new.keeper in
    let m : Rows = c.hold-held.new.rows in
    let e = c.hold-held.ensures in
    let below = subst (λ (h : House). NamesBelow h.plain.next_try w.label) (sym c.self.view_is) c.requires.below in
    let file : (told : g.K.Keeper.tells ≡ true) → IsFile g.S.Site (core_of (head_of path w)) (text_of body) = λ told.
    subst (λ q. IsFile g.S.Site (core_of (head_of q w)) (text_of body)) c.requires.path
    (new_file g.S.Site g.K.Body.BodyFile.tells g.K.Keeper.tells body w g.met.K.Keeper.body_tells c.self.invariant.told c.keeps.ensures
    c.requires.stage n told) in
    let P : Rows → ℕ → Type 0 = λ x i. IsSound g.S.Site g.K.Keeper.tells
    (record { plain = record inside.plain { rows = x; next_id = i }; kept = l; faults = f }) in
    subst (λ x. P x (g.K.Keeper.next c.hold-held.new.keeper)) (sym c.close-2.ensures)
    (subst (P (closed m path false)) (sym (e.same_next ∙ c.seal.ensures.same_next))
    (hold_sound g.S.Site g.K.Keeper.tells inside path w (text_of body) k l f m c.self.invariant own head below (λ told. inl (comes told))
    e.loose e.held.holds
    (λ told. held_faithful g.S.Site g.K.Keeper.tells inside path w (text_of body) k l (with_whole inside.plain.rows path (Some w))
    c.self.invariant told own
    (comes told) (file told) (e.stops told) (e.sealed told))
    (flat (by_result c.hold-held.result e.rows e.either))))

pub returns-clause-plain : goal.returns-clause-plain
returns-clause-plain g c =
    let path = c.args.path.now in
    let w = c.args.whole in
    let inside : House = record {
      plain = record {
        rows = c.self.inside.rows;
        parts = c.self.inside.parts;
        next_try = c.self.inside.right.next;
        next_id = g.K.Keeper.next c.self.inside.keeper;
        limit = c.self.inside.limit;
        rules = c.self.inside.rules;
      };
      kept = g.K.Keeper.kept c.self.inside.keeper;
      faults = g.K.Keeper.faults c.self.inside.keeper;
    } in
    let i = g.K.Keeper.next c.hold-held.new.keeper in
    let Q : Rows → ℕ → Plain = λ x j. record inside.plain { rows = x; next_id = j } in
    ok_map c.hold-held.result (λ is.
    ap (λ x. Q x i) (c.close-2.ensures ∙ ap (λ x. closed x path false) is ∙ closed_with inside.plain.rows path w)
    ∙ ap (Q (left_rows inside.plain.rows path (Some w) false)) (c.hold-held.ensures.same_next ∙ c.seal.ensures.same_next)
    ∙ ap (λ (h : House). left_with path (Some w) None h.plain) c.self.view_is) c.hold-held.ensures.rows

pub returns-clause-fell : goal.returns-clause-fell
returns-clause-fell g c =
    let path = c.args.path.now in
    let w = c.args.whole in
    let inside : House = record {
      plain = record {
        rows = c.self.inside.rows;
        parts = c.self.inside.parts;
        next_try = c.self.inside.right.next;
        next_id = g.K.Keeper.next c.self.inside.keeper;
        limit = c.self.inside.limit;
        rules = c.self.inside.rules;
      };
      kept = g.K.Keeper.kept c.self.inside.keeper;
      faults = g.K.Keeper.faults c.self.inside.keeper;
    } in
    let i = g.K.Keeper.next c.hold-held.new.keeper in
    let m : Rows = c.hold-held.new.rows in
    let Q : Rows → ℕ → Plain = λ x j. record inside.plain { rows = x; next_id = j } in
    let next = c.hold-held.ensures.same_next ∙ c.seal.ensures.same_next in
    let new : (is : m ≡ with_whole inside.plain.rows path (Some w))
    → Q c.close-2.new.self i ≡ left_with path (Some w) None c.args.self.now.plain = λ is.
    ap (λ x. Q x i) (c.close-2.ensures ∙ ap (λ x. closed x path false) is ∙ closed_with inside.plain.rows path w)
    ∙ ap (Q (left_rows inside.plain.rows path (Some w) false)) next
    ∙ ap (λ (h : House). left_with path (Some w) None h.plain) c.self.view_is in
    let old : (is : m ≡ inside.plain.rows) → Q c.close-2.new.self i ≡ left_with path (whole_at c.args.self.now.plain.rows path) None
    c.args.self.now.plain = λ is.
    ap (λ x. Q x i) (c.close-2.ensures ∙ ap (λ x. closed x path false) is)
    ∙ ap (Q (left_rows inside.plain.rows path (whole_at inside.plain.rows path) false)) next
    ∙ ap (λ (h : House). left_with path (whole_at h.plain.rows path) None h.plain) c.self.view_is in
    err_map c.hold-held.result (fallen old new) c.hold-held.ensures.either

pub returns-in-Err-clause-stops : goal.returns-in-Err-clause-stops
returns-in-Err-clause-stops g c = λ told.
    let path = c.args.path.now in
    let body = c.args.body.now in
    let w = c.args.whole in
    let inside : House = record {
      plain = record {
        rows = c.self.inside.rows;
        parts = c.self.inside.parts;
        next_try = c.self.inside.right.next;
        next_id = g.K.Keeper.next c.self.inside.keeper;
        limit = c.self.inside.limit;
        rules = c.self.inside.rules;
      };
      kept = g.K.Keeper.kept c.self.inside.keeper;
      faults = g.K.Keeper.faults c.self.inside.keeper;
    } in
    let n : IsNew w.checked body w = is_new w.checked body w c.requires.whole in
    let number : number_in body.file ≡ Some w.id = n.number ∙ ap (λ k. Some k) (sym (ap (λ (x : Whole). x.id) n.is)) in
    let own : HasOwn (out_at inside.plain.rows path) w.id = subst (λ (h : House). HasOwn (out_at h.plain.rows path) w.id)
    (sym c.self.view_is) c.requires.own in
    let k = g.K.Keeper.kept c.seal.new.keeper in
    let may : MayCome (Sealed w.id (text_of body)) inside.kept k =
    of_file (λ i t. MayCome (Sealed i t) inside.kept k) body.file w.id number (c.in-Err.ensures.either told) in
    let new : House = record inside { kept = k } in
    subst (λ (h : House). StopsAt g.S.Site (left_with path (Some w) None h.plain).rows h new) c.self.view_is
    (sealed_stops g.S.Site g.K.Keeper.tells inside path w.id (text_of body) k (left_rows inside.plain.rows path (Some w) false)
    c.self.invariant told own may)

pub returns-clause-stops : goal.returns-clause-stops
returns-clause-stops g c = λ told.
    let path = c.args.path.now in
    let body = c.args.body.now in
    let w = c.args.whole in
    let inside : House = record {
      plain = record {
        rows = c.self.inside.rows;
        parts = c.self.inside.parts;
        next_try = c.self.inside.right.next;
        next_id = g.K.Keeper.next c.self.inside.keeper;
        limit = c.self.inside.limit;
        rules = c.self.inside.rules;
      };
      kept = g.K.Keeper.kept c.self.inside.keeper;
      faults = g.K.Keeper.faults c.self.inside.keeper;
    } in
    let n : IsNew w.checked body w = is_new w.checked body w c.requires.whole in
    let number : number_in body.file ≡ Some w.id = n.number ∙ ap (λ k. Some k) (sym (ap (λ (x : Whole). x.id) n.is)) in
    let own : HasOwn (out_at inside.plain.rows path) w.id = subst (λ (h : House). HasOwn (out_at h.plain.rows path) w.id)
    (sym c.self.view_is) c.requires.own in
    let k = g.K.Keeper.kept c.seal.new.keeper in
    let comes : Comes (Sealed w.id (text_of body)) inside.kept k =
    of_file (λ i t. Comes (Sealed i t) inside.kept k) body.file w.id number (c.in_default.ensures.comes told) in
    let l = g.K.Keeper.kept c.hold-held.new.keeper in
    let new : House = record inside { kept = l } in
    let file : IsFile g.S.Site (core_of (head_of path w)) (text_of body) =
    subst (λ q. IsFile g.S.Site (core_of (head_of q w)) (text_of body)) c.requires.path
    (new_file g.S.Site g.K.Body.BodyFile.tells g.K.Keeper.tells body w g.met.K.Keeper.body_tells c.self.invariant.told c.keeps.ensures
    c.requires.stage n told) in
    subst (λ (h : House). StopsAt g.S.Site (left_with path (Some w) None h.plain).rows h new) c.self.view_is
    (held_stops g.S.Site g.K.Keeper.tells inside path w (text_of body) k l c.self.invariant told own comes file
    (c.hold-held.ensures.stops told))

pub returns-clause-exact : goal.returns-clause-exact
returns-clause-exact g c =
    let path = c.args.path.now in
    let body = c.args.body.now in
    let w = c.args.whole in
    let inside : House = record {
      plain = record {
        rows = c.self.inside.rows;
        parts = c.self.inside.parts;
        next_try = c.self.inside.right.next;
        next_id = g.K.Keeper.next c.self.inside.keeper;
        limit = c.self.inside.limit;
        rules = c.self.inside.rules;
      };
      kept = g.K.Keeper.kept c.self.inside.keeper;
      faults = g.K.Keeper.faults c.self.inside.keeper;
    } in
    let n : IsNew w.checked body w = is_new w.checked body w c.requires.whole in
    let number : number_in body.file ≡ Some w.id = n.number ∙ ap (λ k. Some k) (sym (ap (λ (x : Whole). x.id) n.is)) in
    let own : HasOwn (out_at inside.plain.rows path) w.id = subst (λ (h : House). HasOwn (out_at h.plain.rows path) w.id)
    (sym c.self.view_is) c.requires.own in
    let k = g.K.Keeper.kept c.seal.new.keeper in
    let l = g.K.Keeper.kept c.hold-held.new.keeper in
    let m : Rows = c.hold-held.new.rows in
    ok_map c.hold-held.result (λ exact told found.
    subst (λ (x : Rows). IsExact x (stored l)) (sym c.close-2.ensures)
    (held_found g.S.Site g.K.Keeper.tells inside path w (text_of body) k l m c.self.invariant told own
    (of_file (λ i t. Comes (Sealed i t) inside.kept k) body.file w.id number (c.in_default.ensures.comes told))
    (exact told) (subst IsFound (sym c.self.view_is) found))) c.hold-held.ensures.exact
