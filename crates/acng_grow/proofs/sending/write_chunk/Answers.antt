use Rattle.std.proofs.Common.{◌≡◌, length, rules}
use Rattle.acng_grow.proofs.Frames.{chunk_written}
use Rattle.acng_grow.proofs.sending.write_chunk.Goals as goal

pub returns-clause-chunk : goal.returns-clause-chunk
returns-clause-chunk c =
    let line = c.long_line-line.result in
    let frame = c.copy_front.new.to in
    let same : length frame ≡ length c.args.frame.now = search rules in
    let len : length line ≡ 18 = search rules in
    let to = c.copy_front.ensures in
    chunk_written c.args.frame.now frame line c.copy_front.result c.args.count c.leading_zeros.result c.requires.room same len
    c.long_line-line.ensures to.count to.front to.rest c.leading_zeros.ensures.zeros c.leading_zeros.ensures.start
