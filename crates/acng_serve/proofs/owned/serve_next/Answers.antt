use Rattle.std.proofs.Common.{◌==◌, ◌||◌, not, Ok, Err, refl, ap, subst}
use Rattle.std.proofs.KnownBytes.{Keeps-refl}
use Rattle.acng_reply.specs.declared.manner.Manner.{Manner}
use Rattle.acng_serve.specs.Causes.{is_client_fault, is_page}
use Rattle.acng_serve.specs.Sessions.{by_desk, standing, side, between, when, stop_after}
use Rattle.acng_serve.proofs.Turnings.{takes_request, takes_refused, takes_none, turned_reply}
use Rattle.acng_serve.proofs.owned.serve_next.Goals as goal

pub returns-in-Request-clause-turned : goal.returns-in-Request-clause-turned
returns-in-Request-clause-turned g c =
    let l = g.L.Link in
    let from = c.args.client.now in
    let mid = c.read_request.new.link in
    let to = c.answer_in-note.new.client in
    let read = c.in-Request.ensures in
    let note = c.answer_in-note.result in
    let rule = by_desk g.S.Site g.K.Keeper.tells c.args.conf.now in
    let x = standing c.args.desk.now (g.C.Clock.coming c.args.clock.now) in
    let y = standing c.answer_in-note.new.desk (g.C.Clock.coming c.answer_in-note.new.clock) in
    let stop = stop_after (is_client_fault note.cause) (c.args.more == 0) in
    turned_reply rule l (c.args.more == 0) from to c.args.buf.now c.read_request.new.buf x y note
    (when (c.manner_in-manner.result.close || is_page note.cause || not note.whole) stop) c.replied.result c.replied.ensures
    (record {
      head = Ok c.in-Request.request;
      replies = record {
        read = side l mid;
        passed = record { written = read.written; faults = read.worked };
        replies = subst (λ (m : Manner). rule m c.in-Request.request x y note (between (side l mid) (side l to))) c.manner_in-manner.ensures
            c.answer_in-note.ensures.answers;
        told = c.answer_in-note.ensures.fault;
      };
      ends = ap (λ (m : Manner). when (m.close || is_page note.cause || not note.whole) stop) c.manner_in-manner.ensures;
      takes = takes_request l from mid to c.args.buf.now c.read_request.new.buf read.reads c.answer_in-note.ensures.others
          c.in-Request.request read.request;
    })

pub returns-in-Refused-clause-turned : goal.returns-in-Refused-clause-turned
returns-in-Refused-clause-turned g c =
    let l = g.L.Link in
    let from = c.args.client.now in
    let mid = c.read_request.new.link in
    let to = c.answer_unread.new.client in
    let read = c.in-Refused.ensures in
    let note = c.answer_unread.result in
    let rule = by_desk g.S.Site g.K.Keeper.tells c.args.conf.now in
    let x = standing c.args.desk.now (g.C.Clock.coming c.args.clock.now) in
    turned_reply rule l (c.args.more == 0) from to c.args.buf.now c.read_request.new.buf x x note _ c.replied-in-Refused.result
    c.replied-in-Refused.ensures
    (record {
      head = Err c.in-Refused.fault;
      replies = record {
        read = side l mid;
        passed = record { written = read.written; faults = read.worked };
        replies = (refl, c.answer_unread.ensures.gives);
        told = c.answer_unread.ensures.fault;
      };
      ends = refl;
      takes = takes_refused l from mid to c.args.buf.now c.read_request.new.buf read.reads c.answer_unread.ensures.others
          c.in-Refused.fault read.refused read.moved;
    })

-- no head came, and nothing was written
pub returns-in-Ended-clause-turned : goal.returns-in-Ended-clause-turned
returns-in-Ended-clause-turned g c =
    let l = g.L.Link in
    let mid = c.read_request.new.link in
    let read = c.in-Ended.ensures in
    record {
      same = refl;
      ends = (read.written, read.worked);
      takes = takes_none l c.args.client.now mid mid c.args.buf.now c.read_request.new.buf read.reads (Keeps-refl (l.left mid)) read.moved;
      ended = λ e. (read.ended, read.at_end);
    }

pub returns-in-ClientFault-clause-turned : goal.returns-in-ClientFault-clause-turned
returns-in-ClientFault-clause-turned g c =
    let l = g.L.Link in
    let mid = c.read_request.new.link in
    let read = c.in-ClientFault.ensures in
    record {
      same = refl;
      ends = (read.written, read.client_fault);
      takes = takes_none l c.args.client.now mid mid c.args.buf.now c.read_request.new.buf read.reads (Keeps-refl (l.left mid)) read.moved;
      ended = λ e. absurd (cc);
    }

pub returns-in-NoMemory-clause-turned : goal.returns-in-NoMemory-clause-turned
returns-in-NoMemory-clause-turned g c =
    let l = g.L.Link in
    let mid = c.read_request.new.link in
    let read = c.in-NoMemory.ensures in
    record {
      same = refl;
      ends = (read.written, read.worked);
      takes = takes_none l c.args.client.now mid mid c.args.buf.now c.read_request.new.buf read.reads (Keeps-refl (l.left mid)) read.moved;
      ended = λ e. absurd (cc);
    }
