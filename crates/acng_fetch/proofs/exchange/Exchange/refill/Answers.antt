use Rattle.std.proofs.Common.{true, []}
use Rattle.acng_answer.specs.Reader.{due, rest}
use Rattle.acng_fetch.proofs.ReaderSteps.{ends_due}
use Rattle.acng_fetch.proofs.exchange.Exchange.refill.Goals as goal

pub returns-in-Some-clause-ends : goal.returns-in-Some-clause-ends
returns-in-Some-clause-ends g c =
    let r = c.args.self.now.reader in
    ends_due c.end_of.result c.in-Some.step c.stop.result (rest r true []) c.stop.new.self.head (due r) (due c.stop.new.self)
    c.end_of.ensures (c.in-Some.ensures.over true []) c.stop.ensures.step c.stop.ensures.due
