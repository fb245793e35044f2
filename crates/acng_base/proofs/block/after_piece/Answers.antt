use Rattle.acng_base.proofs.LineScans.{two_inside}
use Rattle.acng_base.proofs.block.after_piece.Goals as goal

pub returns-in_default : goal.returns-in_default
returns-in_default c = two_inside c.args.state c.args.piece.now c.requires c.in_default.len_at_least
