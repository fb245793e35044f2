use Rattle.std.proofs.Common.{arith}
use Rattle.acng_cli.proofs.Reading.{reads_text, reads_more}
use Rattle.acng_cli.proofs.source.read_all.Goals as goal

pub returns-in_default-extend_from_slice-clause-reads : goal.returns-in_default-extend_from_slice-clause-reads
returns-in_default-extend_from_slice-clause-reads g c =
    let s = c.loop-buf in
    let left = g.I.Source.left in
    reads_more (left c.args.source.now) (left s.source) (left c.read.new.self) s.text.items c.read.new.buf c.in-Ok.count
    s.invariant.consumed c.in-Ok.ensures.bytes.0 (omega (arith, c.loop-buf-test.true, c.len.ensures)) (omega (arith, c.read.auto.buf))

pub returns-clause-reads : goal.returns-clause-reads
returns-clause-reads g c =
    let s = c.loop-buf in
    let left = g.I.Source.left in
    reads_text (left c.args.source.now) (left s.source) s.text.items s.invariant.consumed s.invariant.few
