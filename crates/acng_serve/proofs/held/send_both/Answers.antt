use Rattle.std.proofs.Common.{rules, ◌-◌}
use Rattle.acng_serve.proofs.Helds.{moved, went_out}
use Rattle.acng_serve.proofs.held.send_both.Goals as goal

-- what went out and what is held still are what was held, and a front of the piece
pub returns-in-Ok-clause-bytes : goal.returns-in-Ok-clause-bytes
returns-in-Ok-clause-bytes g c =
    let W = g.L.Link.written in
    moved (W c.args.link.now) (W c.write-outcome.new.self) c.args.held.now.items _ _ _ c.in-Ok.ensures.bytes
    (went_out c.in-Ok.count (16384 - c.len-waiting.result) c.let_go.result c.args.held.now.items c.args.piece.now c.as_slice.result.now c.truncate.new.self.items
    c.let_go.new.held.items (search rules) (search rules) c.let_go.ensures.rest c.let_go.ensures.others c.in-Ok.ensures.bound)
