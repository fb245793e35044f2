use Rattle.std.proofs.Common.{◌≡◌, ◌-◌, ◌≤◌, true}
use Rattle.acng_answer.specs.Reader.{due}
use Rattle.acng_fetch.specs.Events.{IsReady, left_of}
use Rattle.acng_fetch.proofs.exchange.Exchange.next.Given as goal

abbrev pub invariant-loop-end : goal.invariant-loop-end
invariant-loop-end g l = record {
  ready : IsReady l.self;
  bound : l.self.reader.limit ≡ l.fn.self.reader.limit;
  later : l.fn.self.reader.at ≤ l.self.reader.at;
  head : l.self.reader.head ≡ l.fn.self.reader.head;
  due : due l.self.reader ≡ due l.fn.self.reader;
  number : g.C.Conn.number l.self.conn ≡ g.C.Conn.number l.fn.self.conn;
  ask : g.C.Conn.ask l.self.conn ≡ g.C.Conn.ask l.fn.self.conn;
  same : g.C.Conn.tells ≡ true → left_of g.C.Conn l.fn.self ≡ left_of g.C.Conn l.self;
}

abbrev pub decreases-loop-end : goal.decreases-loop-end
decreases-loop-end g l = l.self.reader.limit - l.self.reader.at
