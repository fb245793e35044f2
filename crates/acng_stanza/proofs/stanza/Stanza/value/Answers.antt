use Rattle.std.proofs.Common.{◌≡◌, ◌≤◌, ℕ, List, length, sym, ap, ◌∙◌, subst, arith}
use Rattle.acng_stanza.specs.Stanzas.{Field, nth}
use Rattle.acng_stanza.specs.Places.{part, stop_of}
use Rattle.acng_stanza.proofs.Places.{is_there, stands_at, stop_is}
use Rattle.acng_stanza.proofs.stanza.Stanza.value.Goals as goal

pub stop-stop-requires : goal.stop-stop-requires
stop-stop-requires c =
    let there = is_there c.self.inside.bytes.items c.self.inside.places.items c.args.self.now c.args.i c.self.view_is c.requires in
    omega (arith, c.deref.ensures.len)

pub index-requires : goal.index-requires
index-requires c =
    let there = is_there c.self.inside.bytes.items c.self.inside.places.items c.args.self.now c.args.i c.self.view_is c.requires in
    omega arith

pub span-requires-clause-ordered : goal.span-requires-clause-ordered
span-requires-clause-ordered c =
    let bytes = c.self.inside.bytes.items in
    let places = c.self.inside.places.items in
    let there = is_there bytes places c.args.self.now c.args.i c.self.view_is c.requires in
    let at = stands_at bytes places c.args.i c.index.result.now there c.index.ensures c.self.invariant in
    let size : c.len.result ≡ length bytes = omega arith in
    subst (λ k. c.index.result.now.value ≤ k)
    (sym (stop_is c.deref.result.now places c.args.i c.len.result
    (length bytes) c.stop-stop.result c.stop-stop.ensures c.deref.ensures.value size)) at.after

pub span-requires-clause-within : goal.span-requires-clause-within
span-requires-clause-within c =
    let bytes = c.self.inside.bytes.items in
    let places = c.self.inside.places.items in
    let there = is_there bytes places c.args.self.now c.args.i c.self.view_is c.requires in
    let at = stands_at bytes places c.args.i c.index.result.now there c.index.ensures c.self.invariant in
    let size : c.len.result ≡ length bytes = omega arith in
    let stop : c.stop-stop.result ≡ stop_of places c.args.i (length bytes) =
    stop_is c.deref.result.now places c.args.i c.len.result
    (length bytes) c.stop-stop.result c.stop-stop.ensures c.deref.ensures.value size in
    let whole : length c.deref-2.result.now ≡ length bytes = ap length c.deref-2.ensures.value in
    omega (arith, at.within)

pub returns : goal.returns
returns c =
    let bytes = c.self.inside.bytes.items in
    let places = c.self.inside.places.items in
    let i = c.args.i in
    let p = c.index.result.now in
    let there = is_there bytes places c.args.self.now i c.self.view_is c.requires in
    let at = stands_at bytes places i p there c.index.ensures c.self.invariant in
    let size : c.len.result ≡ length bytes = omega arith in
    let stop : c.stop-stop.result ≡ stop_of places i (length bytes) =
    stop_is c.deref.result.now places i c.len.result
    (length bytes) c.stop-stop.result c.stop-stop.ensures c.deref.ensures.value size in
    c.span.ensures ∙ ap (λ (t : List ℕ). part t p.value c.stop-stop.result) c.deref-2.ensures.value ∙ ap (part bytes p.value) stop
    ∙ sym (ap (λ (f : Field). f.value) at.is) ∙ ap (λ (fs : List Field). (nth fs i).value) c.self.view_is
