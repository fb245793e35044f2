use Rattle.std.proofs.Common.{rules}
use Rattle.acng_conf.proofs.Escapes.{escapes}
use Rattle.acng_conf.proofs.place.push_escaped.Goals as goal

pub loop-piece-init : goal.loop-piece-init
loop-piece-init c =
    let whole = escapes c.args.path.now (λ k. (c.type_inv.path k).fits) in
    search rules
