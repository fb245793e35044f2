use Rattle.std.proofs.Common.{◌≡◌, length, ap, ◌∙◌, arith, nat_eq}
use Rattle.acng_stanza.proofs.Places.{count_of}
use Rattle.acng_stanza.proofs.stanza.Stanza.is_empty.Goals as goal

pub returns : goal.returns
returns c =
    let same = count_of c.self.inside.bytes.items c.self.inside.places.items c.args.self.now c.self.view_is in
    let n : c.self.inside.places.len ≡ length c.args.self.now = omega arith in
    c.is_empty.ensures ∙ ap (λ k. nat_eq k 0) n
