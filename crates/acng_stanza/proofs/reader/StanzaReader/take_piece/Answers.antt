use Rattle.std.proofs.Common.{◌≡◌, ◌+◌, ◌-◌, [], ◌∷◌, ◌++◌, take, drop, sym, subst, ◌∙◌, arith}
use Rattle.acng_stanza.specs.Readers.{Unbroken}
use Rattle.acng_stanza.specs.Feeds.{TakesPiece, RefusesPiece}
use Rattle.acng_stanza.proofs.Pieces.{next_line, left_step, left_refused, unbroken_none}
use Rattle.acng_stanza.proofs.reader.StanzaReader.take_piece.Goals as goal

pub take_end-requires : goal.take_end-requires
take_end-requires c =
    let piece = c.args.piece.now in
    let n = next_line piece c.loop-len.start c.in-Some.len c.loop-len.invariant.within (sym c.in-Some.ensures) in
    let k : c.loop-len.start + c.in-Some.len - c.loop-len.start ≡ c.in-Some.len = omega arith in
    subst (λ j. Unbroken (take j (drop c.loop-len.start piece))) (sym k) n.line

pub returns-in-Err-clause-feeds : goal.returns-in-Err-clause-feeds
returns-in-Err-clause-feeds c = λ real.
    let piece = c.args.piece.now in
    let start = c.loop-len.start in
    let n = next_line piece start c.in-Some.len c.loop-len.invariant.within (sym c.in-Some.ensures) in
    let k : start + c.in-Some.len - start ≡ c.in-Some.len = omega arith in
    left_refused piece start c.in-Some.len c.args.self.now c.loop-len.self c.take_end.new.self c.in-Err.fault n c.loop-len.invariant.left
    (subst (λ j. RefusesPiece (take j (drop start piece) ++ 10 ∷ []) c.in-Err.fault c.loop-len.self c.take_end.new.self) k
    (c.in-Err.ensures.feeds real))

pub loop-len-preserved : goal.loop-len-preserved
loop-len-preserved c =
    let piece = c.args.piece.now in
    let start = c.loop-len.start in
    let n = next_line piece start c.in-Some.len c.loop-len.invariant.within (sym c.in-Some.ensures) in
    let k : start + c.in-Some.len - start ≡ c.in-Some.len = omega arith in
    record {
      within = n.within;
      fault = c.take_end.ensures.fault ∙ c.loop-len.invariant.fault;
      left = left_step piece start c.in-Some.len c.args.self.now c.loop-len.self c.take_end.new.self n c.loop-len.invariant.left
          (subst (λ j. TakesPiece
          (take j (drop start piece) ++ 10 ∷ []) c.loop-len.self c.take_end.new.self) k c.in_default-take_end.ensures.feeds);
    }

pub hold-requires : goal.hold-requires
hold-requires c = unbroken_none _ (sym c.in_default.ensures)
