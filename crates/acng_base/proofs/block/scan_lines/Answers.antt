use Rattle.std.proofs.Common.{sym, arith}
use Rattle.acng_base.proofs.LineScans.{line_none, line_passed, block_ends, rest_passed}
use Rattle.acng_base.proofs.block.scan_lines.Goals as goal

pub after_piece-requires : goal.after_piece-requires
after_piece-requires c = line_none c.args.part.now c.loop-len.start c.in-Some.len (sym c.in-Some.ensures)

pub returns-in-None : goal.returns-in-None
returns-in-None c =
    let ends = block_ends c.args.part.now c.loop-len.start c.in-Some.len (sym c.in-Some.ensures) c.args.state c.loop-len.now c.after_piece.result c.loop-len.invariant.at c.after_piece.ensures (sym c.in-None.ensures) in
    (ends.0, omega arith, ends.1)

pub loop-len-preserved : goal.loop-len-preserved
loop-len-preserved c =
    let passed = line_passed c.args.part.now c.loop-len.start c.in-Some.len (sym c.in-Some.ensures) c.args.state c.loop-len.now c.after_piece.result c.loop-len.invariant.at c.after_piece.ensures in
    record { within = passed.0; at = passed.1 c.in-Some-after.next (sym c.in-Some-after.ensures) }

pub returns : goal.returns
returns c = rest_passed c.args.state c.loop-len.now c.after_piece-2.result c.args.part.now c.loop-len.start c.loop-len.invariant.at c.after_piece-2.ensures
