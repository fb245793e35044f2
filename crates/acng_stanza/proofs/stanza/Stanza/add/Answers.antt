use Rattle.std.proofs.Common.{◌≡◌, ◌+◌, ◌++◌, [], ◌∷◌, List, length, sym, ap, ◌∙◌, subst, arith, length-append}
use Rattle.acng_stanza.specs.Stanzas.{Field}
use Rattle.acng_stanza.specs.Places.{AreInOrder, fields_in}
use Rattle.acng_stanza.specs.declared.stanza.Place.{Place}
use Rattle.acng_stanza.proofs.Places.{in_order_more, in_order_add, add_field}
use Rattle.acng_stanza.proofs.stanza.Stanza.add.Goals as goal

pub invariant_of-self-in_err-extend_from_slice-2 : goal.invariant_of-self-in_err-extend_from_slice-2
invariant_of-self-in_err-extend_from_slice-2 c =
    let bytes = c.self.inside.bytes.items in
    let size : length c.extend_from_slice.new.self.items ≡ length bytes + length c.args.name.now =
    ap length c.in_ok-extend_from_slice.ensures.items ∙ length-append bytes c.args.name.now in
    let same : length c.extend_from_slice-2.new.self.items ≡ length c.extend_from_slice.new.self.items =
    ap length c.in_err-extend_from_slice-2.ensures.items in
    in_order_more (length bytes) (length c.extend_from_slice-2.new.self.items) c.self.inside.places.items (omega arith) c.self.invariant

pub invariant_of-self-in_err-push : goal.invariant_of-self-in_err-push
invariant_of-self-in_err-push c =
    let bytes = c.self.inside.bytes.items in
    let named = c.extend_from_slice.new.self.items in
    let whole = c.extend_from_slice-2.new.self.items in
    let size : length named ≡ length bytes + length c.args.name.now = ap length c.in_ok-extend_from_slice.ensures.items
    ∙ length-append bytes c.args.name.now in
    let more : length whole ≡ length named + length c.args.value.now = ap length c.in_ok-extend_from_slice-2.ensures.items
    ∙ length-append named c.args.value.now in
    subst (AreInOrder (length whole)) (sym c.in_err-push.ensures.items)
    (in_order_more (length bytes) (length whole) c.self.inside.places.items (omega arith) c.self.invariant)

pub invariant_of-self-2 : goal.invariant_of-self-2
invariant_of-self-2 c =
    let bytes = c.self.inside.bytes.items in
    let named = c.extend_from_slice.new.self.items in
    let whole = c.extend_from_slice-2.new.self.items in
    let size : length named ≡ length bytes + length c.args.name.now = ap length c.in_ok-extend_from_slice.ensures.items
    ∙ length-append bytes c.args.name.now in
    let more : length whole ≡ length named + length c.args.value.now = ap length c.in_ok-extend_from_slice-2.ensures.items
    ∙ length-append named c.args.value.now in
    let q : Place = record { start = c.len-start.result; value = c.len-at.result; line = c.args.line } in
    subst (AreInOrder (length whole)) (sym c.in_ok-push.ensures.items)
    (in_order_add (length bytes) (length whole) c.self.inside.places.items q (omega arith) (omega arith) (omega arith) c.self.invariant)

pub returns : goal.returns
returns c =
    let bytes = c.self.inside.bytes.items in
    let name = c.args.name.now in
    let value = c.args.value.now in
    let places = c.self.inside.places.items in
    let named : c.extend_from_slice.new.self.items ≡ bytes ++ name = c.in_ok-extend_from_slice.ensures.items in
    let whole : c.extend_from_slice-2.new.self.items ≡ (bytes ++ name) ++ value = c.in_ok-extend_from_slice-2.ensures.items
    ∙ ap (λ t. t ++ value) named in
    let q : Place = record { start = c.len-start.result; value = c.len-at.result; line = c.args.line } in
    let size : length c.extend_from_slice.new.self.items ≡ length (bytes ++ name) = ap length named in
    let start : q.start ≡ length bytes = omega arith in
    let at : q.value ≡ length (bytes ++ name) = omega arith in
    ap (λ ps. fields_in c.extend_from_slice-2.new.self.items ps) c.in_ok-push.ensures.items
    ∙ ap (λ t. fields_in t (places ++ q ∷ [])) whole
    ∙ add_field bytes name value places q start at c.self.invariant
    ∙ ap (λ (fs : List Field). fs ++ record { name = name; value = value; line = c.args.line } ∷ []) c.self.view_is
