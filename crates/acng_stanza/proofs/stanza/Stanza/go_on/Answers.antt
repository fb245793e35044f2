use Rattle.std.proofs.Common.{◌≡◌, ◌<◌, ◌+◌, ◌++◌, [], ◌∷◌, List, Some, length, sym, ap, ◌∙◌, subst, arith, length-append, append_assoc}
use Rattle.acng_stanza.specs.Stanzas.{Field, go_on}
use Rattle.acng_stanza.specs.Places.{fields_in}
use Rattle.acng_stanza.proofs.Places.{in_order_more, go_on_some}
use Rattle.acng_stanza.proofs.stanza.Stanza.go_on.Goals as goal

pub invariant_of-self-in_err-extend_from_slice : goal.invariant_of-self-in_err-extend_from_slice
invariant_of-self-in_err-extend_from_slice c =
    let bytes = c.self.inside.bytes.items in
    let size : length c.push.new.self.items ≡ length bytes + 1 = ap length c.in_ok-push.ensures.items ∙ length-append bytes (10 ∷ []) in
    let same : length c.extend_from_slice.new.self.items ≡ length c.push.new.self.items =
    ap length c.in_err-extend_from_slice.ensures.items in
    in_order_more (length bytes) (length c.extend_from_slice.new.self.items) c.self.inside.places.items (omega arith) c.self.invariant

pub invariant_of-self-2 : goal.invariant_of-self-2
invariant_of-self-2 c =
    let bytes = c.self.inside.bytes.items in
    let text = c.args.text.now in
    let size : length c.push.new.self.items ≡ length bytes + 1 = ap length c.in_ok-push.ensures.items ∙ length-append bytes (10 ∷ []) in
    let more : length c.extend_from_slice.new.self.items ≡ length c.push.new.self.items + length text =
    ap length c.in_ok-extend_from_slice.ensures.items ∙ length-append c.push.new.self.items text in
    in_order_more (length bytes) (length c.extend_from_slice.new.self.items) c.self.inside.places.items (omega arith) c.self.invariant

pub returns : goal.returns
returns c =
    let bytes = c.self.inside.bytes.items in
    let text = c.args.text.now in
    let places = c.self.inside.places.items in
    let whole : c.extend_from_slice.new.self.items ≡ bytes ++ 10 ∷ text =
    c.in_ok-extend_from_slice.ensures.items ∙ ap (λ t. t ++ text) c.in_ok-push.ensures.items ∙ append_assoc bytes (10 ∷ []) text in
    let some : 0 < length (fields_in bytes places) = subst (λ (fs : List Field). 0 < length fs) (sym c.self.view_is) c.requires in
    ap (go_on text) (sym c.self.view_is) ∙ go_on_some bytes text places some c.self.invariant
    ∙ ap (λ t. Some (fields_in t places)) (sym whole)
