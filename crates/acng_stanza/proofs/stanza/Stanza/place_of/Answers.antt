use Rattle.std.proofs.Common.{arith, refl}
use Rattle.acng_stanza.proofs.Places.{count_of}
use Rattle.acng_stanza.proofs.stanza.Stanza.place_of.Goals as goal

pub loop-i-init : goal.loop-i-init
loop-i-init c =
    let same = count_of c.self.inside.bytes.items c.self.inside.places.items c.args.self.now c.self.view_is in
    record { all = omega arith; same = refl }
