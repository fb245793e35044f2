use Rattle.std.proofs.Common.{◌≤◌, ℕ, List, length, sym, ap, ◌∙◌, subst, arith}
use Rattle.acng_stanza.specs.Stanzas.{Field, nth}
use Rattle.acng_stanza.specs.Places.{part}
use Rattle.acng_stanza.proofs.Places.{is_there, stands_at}
use Rattle.acng_stanza.proofs.stanza.Stanza.name.Goals as goal

pub index-place-requires : goal.index-place-requires
index-place-requires c =
    let there = is_there c.self.inside.bytes.items c.self.inside.places.items c.args.self.now c.args.i c.self.view_is c.requires in
    omega arith

pub span-requires-clause-ordered : goal.span-requires-clause-ordered
span-requires-clause-ordered c =
    let bytes = c.self.inside.bytes.items in
    let places = c.self.inside.places.items in
    let there = is_there bytes places c.args.self.now c.args.i c.self.view_is c.requires in
    (stands_at bytes places c.args.i c.index-place.result.now there c.index-place.ensures c.self.invariant).ordered

pub span-requires-clause-within : goal.span-requires-clause-within
span-requires-clause-within c =
    let bytes = c.self.inside.bytes.items in
    let places = c.self.inside.places.items in
    let there = is_there bytes places c.args.self.now c.args.i c.self.view_is c.requires in
    let at = stands_at bytes places c.args.i c.index-place.result.now there c.index-place.ensures c.self.invariant in
    subst (λ (t : List ℕ). c.index-place.result.now.value ≤ length t) (sym c.deref.ensures.value) at.name_within

pub returns : goal.returns
returns c =
    let bytes = c.self.inside.bytes.items in
    let places = c.self.inside.places.items in
    let i = c.args.i in
    let p = c.index-place.result.now in
    let there = is_there bytes places c.args.self.now i c.self.view_is c.requires in
    let at = stands_at bytes places i p there c.index-place.ensures c.self.invariant in
    c.span.ensures ∙ ap (λ (t : List ℕ). part t p.start p.value) c.deref.ensures.value ∙ sym (ap (λ (f : Field). f.name) at.is)
    ∙ ap (λ (fs : List Field). (nth fs i).name) c.self.view_is
