use Rattle.std.proofs.Common.{arith, length-drop, ◌∙◌}
use Rattle.acng_base.proofs.Writes.{front_grows}
use Rattle.acng_base.proofs.stream.write_all.Goals as goal

-- one more write appends the next bytes of the piece
pub loop-sent-preserved : goal.loop-sent-preserved
loop-sent-preserved g c =
    let W = g.W.Sink.written in
    record {
      within = omega (arith, length-drop c.loop-sent.sent c.args.piece.now, c.in-Ok.ensures.bound, c.loop-sent.invariant.within);
      bytes = front_grows (W c.args.sink.now) (W c.loop-sent.sink) (W c.write.new.self) c.args.piece.now c.loop-sent.sent c.in-Ok.count c.loop-sent.invariant.bytes c.in-Ok.ensures.bytes;
      count = c.in-Ok.ensures.cause.worked ∙ c.loop-sent.invariant.count;
    }
