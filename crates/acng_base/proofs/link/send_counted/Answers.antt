use Rattle.std.proofs.Common.{arith, length-drop, ◌∙◌}
use Rattle.std.proofs.KnownBytes.{Keeps-trans}
use Rattle.acng_base.proofs.Writes.{front_grows}
use Rattle.acng_base.proofs.link.send_counted.Goals as goal

-- one more write appends the next bytes of the piece
pub loop-sent-preserved : goal.loop-sent-preserved
loop-sent-preserved g c =
    let W = g.L.Link.written in
    let R = g.L.Link.left in
    let now = c.loop-sent.link in
    let after = c.write.new.self in
    record {
      within = omega (arith, length-drop c.loop-sent.sent c.args.piece.now, c.in-Ok.ensures.bound, c.loop-sent.invariant.within);
      bytes = front_grows (W c.args.link.now) (W now) (W after) c.args.piece.now c.loop-sent.sent c.in-Ok.count c.loop-sent.invariant.bytes c.in-Ok.ensures.bytes;
      others = Keeps-trans (R c.args.link.now) (R now) (R after) c.loop-sent.invariant.others c.in-Ok.ensures.others;
      count = c.in-Ok.ensures.cause.worked ∙ c.loop-sent.invariant.count;
    }
