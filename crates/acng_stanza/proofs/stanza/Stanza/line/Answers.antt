use Rattle.std.proofs.Common.{List, sym, ap, ◌∙◌, arith}
use Rattle.acng_stanza.specs.Stanzas.{Field, nth}
use Rattle.acng_stanza.proofs.Places.{is_there, stands_at}
use Rattle.acng_stanza.proofs.stanza.Stanza.line.Goals as goal

pub index-requires : goal.index-requires
index-requires c =
    let there = is_there c.self.inside.bytes.items c.self.inside.places.items c.args.self.now c.args.i c.self.view_is c.requires in
    omega arith

pub returns : goal.returns
returns c =
    let bytes = c.self.inside.bytes.items in
    let places = c.self.inside.places.items in
    let i = c.args.i in
    let there = is_there bytes places c.args.self.now i c.self.view_is c.requires in
    let at = stands_at bytes places i c.index.result.now there c.index.ensures c.self.invariant in
    sym (ap (λ (f : Field). f.line) at.is) ∙ ap (λ (fs : List Field). (nth fs i).line) c.self.view_is
