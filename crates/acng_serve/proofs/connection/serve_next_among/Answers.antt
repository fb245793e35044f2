use Rattle.std.proofs.Common.{◌==◌, ◌||◌, not, Ok, Err, refl, ap, subst}
use Rattle.std.proofs.KnownBytes.{Keeps-refl}
use Rattle.acng_reply.specs.declared.manner.Manner.{Manner}
use Rattle.acng_serve.specs.Causes.{is_client_fault, is_page}
use Rattle.acng_serve.specs.Among.{by_house}
use Rattle.acng_serve.specs.Sessions.{side, between, when, stop_after}
use Rattle.acng_serve.proofs.Turnings.{takes_request, takes_refused, takes_none, turned_reply}
use Rattle.acng_serve.proofs.connection.serve_next_among.Goals as goal

pub returns-in-Request : goal.returns-in-Request
returns-in-Request g c =
    let l = g.L.Link in
    let from = c.args.client.now in
    let mid = c.read_request.new.link in
    let to = c.answer_among-note.new.client in
    let read = c.in-Request.ensures in
    let note = c.answer_among-note.result in
    let rule = by_house g.S.Site g.K.Keeper.tells c.args.house.now in
    let x = g.C.Clock.coming c.args.clock.now in
    let y = g.C.Clock.coming c.answer_among-note.new.clock in
    let stop = stop_after (is_client_fault note.cause) (c.args.more == 0) in
    turned_reply rule l (c.args.more == 0) from to c.args.buf.now c.read_request.new.buf x y note
    (when (c.manner_in-manner.result.close || is_page note.cause || not note.whole) stop) c.replied.result c.replied.ensures
    (record {
      head = Ok c.in-Request.request;
      replies = record {
        read = side l mid;
        passed = record { written = read.written; faults = read.worked };
        replies = subst (λ (m : Manner). rule m c.in-Request.request x y note (between (side l mid) (side l to))) c.manner_in-manner.ensures
            c.answer_among-note.ensures.answers;
        told = c.answer_among-note.ensures.fault;
      };
      ends = ap (λ (m : Manner). when (m.close || is_page note.cause || not note.whole) stop) c.manner_in-manner.ensures;
      takes = takes_request l from mid to c.args.buf.now c.read_request.new.buf read.reads c.answer_among-note.ensures.others
          c.in-Request.request read.request;
    })

pub returns-in-Refused : goal.returns-in-Refused
returns-in-Refused g c =
    let l = g.L.Link in
    let from = c.args.client.now in
    let mid = c.read_request.new.link in
    let to = c.answer_unread.new.client in
    let read = c.in-Refused.ensures in
    let note = c.answer_unread.result in
    let rule = by_house g.S.Site g.K.Keeper.tells c.args.house.now in
    let x = g.C.Clock.coming c.args.clock.now in
    turned_reply rule l (c.args.more == 0) from to c.args.buf.now c.read_request.new.buf x x note _ c.replied-in-Refused.result
    c.replied-in-Refused.ensures
    (record {
      head = Err c.in-Refused.fault;
      replies = record {
        read = side l mid;
        passed = record { written = read.written; faults = read.worked };
        replies = (refl, c.answer_unread.ensures.gives);
        told = c.answer_unread.ensures.fault;
      };
      ends = refl;
      takes = takes_refused l from mid to c.args.buf.now c.read_request.new.buf read.reads c.answer_unread.ensures.others
          c.in-Refused.fault read.refused read.moved;
    })

-- no head came, and nothing was written
pub returns-in-Ended : goal.returns-in-Ended
returns-in-Ended g c =
    let l = g.L.Link in
    let mid = c.read_request.new.link in
    let read = c.in-Ended.ensures in
    record {
      same = refl;
      ends = (read.written, read.worked);
      takes = takes_none l c.args.client.now mid mid c.args.buf.now c.read_request.new.buf read.reads (Keeps-refl (l.left mid)) read.moved;
      ended = λ e. (read.ended, read.at_end);
    }

pub returns-in-ClientFault : goal.returns-in-ClientFault
returns-in-ClientFault g c =
    let l = g.L.Link in
    let mid = c.read_request.new.link in
    let read = c.in-ClientFault.ensures in
    record {
      same = refl;
      ends = (read.written, read.client_fault);
      takes = takes_none l c.args.client.now mid mid c.args.buf.now c.read_request.new.buf read.reads (Keeps-refl (l.left mid)) read.moved;
      ended = λ e. absurd (cc);
    }

pub returns-in-NoMemory : goal.returns-in-NoMemory
returns-in-NoMemory g c =
    let l = g.L.Link in
    let mid = c.read_request.new.link in
    let read = c.in-NoMemory.ensures in
    record {
      same = refl;
      ends = (read.written, read.worked);
      takes = takes_none l c.args.client.now mid mid c.args.buf.now c.read_request.new.buf read.reads (Keeps-refl (l.left mid)) read.moved;
      ended = λ e. absurd (cc);
    }
