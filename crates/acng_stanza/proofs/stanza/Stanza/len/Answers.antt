use Rattle.std.proofs.Common.{arith}
use Rattle.acng_stanza.proofs.Places.{count_of}
use Rattle.acng_stanza.proofs.stanza.Stanza.len.Goals as goal

pub returns : goal.returns
returns c =
    let same = count_of c.self.inside.bytes.items c.self.inside.places.items c.args.self.now c.self.view_is in
    omega arith
