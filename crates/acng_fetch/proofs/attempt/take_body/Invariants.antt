use Rattle.std.proofs.Common.{◌≡◌, ◌+◌, ◌-◌, true, IsSome, length}
use Rattle.acng_answer.specs.Reader.{due}
use Rattle.acng_grow.specs.Download.{flows}
use Rattle.acng_grow.specs.Allowed.{AllAllowed}
use Rattle.acng_fetch.specs.Events.{IsReady, left_of}
use Rattle.acng_fetch.specs.Loads.{RunsIn, url_of}
use Rattle.acng_fetch.specs.Rooms.{Room}
use Rattle.acng_fetch.specs.Stocks.{Agrees}
use Rattle.acng_fetch.proofs.attempt.take_body.Given as goal

abbrev pub invariant-loop-start : goal.invariant-loop-start
invariant-loop-start g l =
    let left = left_of g.C.Conn l.exchange in
    let before = left_of g.C.Conn l.fn.exchange in
    let p = l.loader.plan in
    let q = l.fn.loader.plan in
    let stock = g.B.Grows.stock in
    let tells = g.B.Site.Site.tells in
    let site = g.B.Site.Site in
    record {
      ready : IsReady l.exchange;
      told : IsSome l.exchange.reader.head;
      number : g.C.Conn.number l.exchange.conn ≡ l.attempt;
      running : RunsIn (stock l.fn.loader.body).first p (l.attempt + 1);
      agrees : Agrees (g.B.Grows.seen l.loader.body) p;
      stocked : stock l.loader.body ≡ stock l.fn.loader.body;
      room : Room p.facts.total (due l.exchange.reader) p.size l.exchange.reader.at l.exchange.reader.limit;
      longer : tells ≡ true → p ≡ record q { size = p.size };
      rest : tells ≡ true → p.size + length left.body ≡ q.size + length before.body;
      outcome : tells ≡ true → left.outcome ≡ before.outcome;
      allowed : tells ≡ true → AllAllowed site (stock l.loader.body).path l.order p
          (flows l.attempt (url_of p) p.facts p.size left.body left.outcome).effects;
    }

abbrev pub decreases-loop-start : goal.decreases-loop-start
decreases-loop-start g l = l.exchange.reader.limit - l.exchange.reader.at
