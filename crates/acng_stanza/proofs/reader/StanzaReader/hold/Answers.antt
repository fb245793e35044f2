use Rattle.std.proofs.Common.{◌≡◌, ◌<◌, ◌≤◌, ℕ, List, ◌++◌, length, sym, subst, arith, length-append}
use Rattle.acng_stanza.specs.Stanzas.{line_limit}
use Rattle.acng_stanza.specs.Readers.{Reader, Unbroken}
use Rattle.acng_stanza.specs.Feeds.{RefusesPiece}
use Rattle.acng_stanza.specs.declared.fault.StanzaFault.TheVariants.{LineTooLong}
use Rattle.acng_stanza.proofs.Pieces.{too_long, unbroken_append}
use Rattle.acng_stanza.proofs.reader.StanzaReader.hold.Goals as goal

pub returns-then-part-len-clause-feeds : goal.returns-then-part-len-clause-feeds
returns-then-part-len-clause-feeds c = λ _.
    let part = c.args.part.now in
    let in_ = c.self.inside in
    let r : Reader = record { lines = in_.lines; held = in_.held.items; fault = in_.fault } in
    let size = length-append in_.held.items part in
    let long : line_limit < length (in_.held.items ++ part) = omega arith in
    let here : RefusesPiece part (LineTooLong in_.lines.last.line) r r = too_long r part c.self.invariant.unbroken c.requires long in
    let at : RefusesPiece part (LineTooLong c.line.result) r r =
    subst (λ (n : ℕ). RefusesPiece part (LineTooLong n) r r) (sym c.line.ensures) here in
    subst (λ (v : Reader). RefusesPiece part (LineTooLong c.line.result) v v) c.self.view_is at

pub invariant_of-self-2 : goal.invariant_of-self-2
invariant_of-self-2 c =
    let part = c.args.part.now in
    let old = c.self.inside.held.items in
    let size = length-append old part in
    let items : c.extend_from_slice.new.self.items ≡ old ++ part = c.in-Ok.ensures.items in
    record {
      unbroken = subst Unbroken (sym items) (unbroken_append old part c.self.invariant.unbroken c.requires);
      short = subst (λ (t : List ℕ). length t ≤ line_limit) (sym items) (omega arith);
    }
