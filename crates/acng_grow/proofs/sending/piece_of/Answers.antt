use Rattle.std.proofs.Common.{◌∙◌, length, drop, ap, length-take, length-drop, arith}
use Rattle.std.proofs.lemmas.List.{drop-take}
use Rattle.acng_grow.proofs.sending.piece_of.Goals as goal

pub returns-clause-piece : goal.returns-clause-piece
returns-clause-piece c = c.between.ensures ∙ drop-take 18 c.args.count c.args.frame.now

pub returns-clause-len : goal.returns-clause-len
returns-clause-len c =
    let same = ap length (c.between.ensures ∙ drop-take 18 c.args.count c.args.frame.now) in
    let l = length-take c.args.count (drop 18 c.args.frame.now) in
    let d = length-drop 18 c.args.frame.now in
    omega (arith, same, l, d, c.requires)
