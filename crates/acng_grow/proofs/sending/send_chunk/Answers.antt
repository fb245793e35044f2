use Rattle.std.proofs.Common.{◌∙◌, ◌≡◌, ◌+◌, ap, drop, take, length, length-take, length-drop, arith}
use Rattle.acng_grow.proofs.Pieces.{chunk_broke}
use Rattle.acng_grow.proofs.sending.send_chunk.Goals as goal

pub returns-clause-broke : goal.returns-clause-broke
returns-clause-broke g c =
    let frame = c.args.frame.now in
    let count = c.args.count in
    let start = c.write_chunk-start.result in
    let now = c.write_chunk-start.new.frame in
    let e : 18 + count + 2 ≡ 20 + count = omega arith in
    let is = c.between.ensures ∙ ap (λ n. drop start (take n now)) e ∙ c.write_chunk-start.ensures.chunk in
    let l = length-take count (drop 18 frame) in
    let d = length-drop 18 frame in
    let len : length (take count (drop 18 frame)) ≡ count = omega (arith, l, d, c.requires) in
    chunk_broke (take count (drop 18 frame)) _ c.send_counted-sent.result.0 start count _ _ _ is len c.write_chunk-start.ensures.line
    (omega (arith, c.write_chunk-start.ensures.start)) c.send_counted-sent.ensures.bytes
