use mathlib.Core.Logic.{inl, inr}
use Rattle.std.proofs.Common.{◌≡◌, ◌+◌, ◌-◌, ◌&&◌, true, take, drop, sym, subst, rules, arith}
use Rattle.std.specs.Io.KnownBytes.{Appends}
use Rattle.acng_grow.specs.Follows.{part_of}
use Rattle.acng_grow.specs.Looks.{CauseStands}
use Rattle.acng_grow.specs.Sends.{Breaks, BreaksIn, HasGone, last_text, piece_text}
use Rattle.acng_grow.specs.Turns.{BytesStand, EndStands, FollowsFile, FoundStands, IsPast, IsShort}
use Rattle.acng_grow.proofs.Pieces.{gone_none}
use Rattle.acng_grow.proofs.Turned.{more_gone, broke_in_piece, broke_behind, whole_sent, front_sent}
use Rattle.acng_grow.proofs.Turned.{sent_none, sent_some, sent_to_end, short_of}
use Rattle.acng_grow.proofs.lock.follow_first.Goals as goal

pub loop-init : goal.loop-init
loop-init g c =
    let file = g.S.Site.instance c.args.first c.args.asked.now.path in
    let told = g.S.Site.tells && g.F.BodyFile.tells in
    let none : 0 ≡ c.args.from - c.args.from = omega arith in
    record {
      room = search rules;
      from = omega arith;
      small = omega arith;
      within = sent_none c.args.from c.args.to;
      gone = subst (λ k. HasGone c.args.sending (told ≡ true) (part_of file c.args.from c.args.to) k (g.L.Link.written c.args.client.now)
          (g.L.Link.written c.args.client.now)) none
          (gone_none c.args.sending (told ≡ true) (part_of file c.args.from c.args.to) (g.L.Link.written c.args.client.now));
      left = search rules;
      faults = search rules;
    }

pub loop-preserved : goal.loop-preserved
loop-preserved g c =
    let told = g.S.Site.tells && g.F.BodyFile.tells in
    let file = g.S.Site.instance c.args.first c.args.asked.now.path in
    let frame = c.await_piece-last.new.frame in
    let n = c.in-Bytes.count in
    let found : BytesStand (told ≡ true) file c.loop.place c.args.to frame n =
    subst (λ f. FoundStands g.S.Site (told ≡ true) c.args.asked.now file c.loop.place c.args.to frame f) c.in-Bytes.is
    c.await_piece-last.ensures.found in
    let w0 = g.L.Link.written c.args.client.now in
    let w1 = g.L.Link.written c.loop.client in
    let w2 = g.L.Link.written c.send_piece-taken.new.client in
    let all : c.send_piece-taken.result.0 ≡ n = search rules in
    let came : Appends w1 w2 (piece_text c.args.sending (take n (drop 18 frame))) = search rules in
    record {
      room = search rules;
      from = omega (arith, c.loop.invariant.from);
      small = omega (arith, all, found.small);
      within = sent_some c.args.from c.loop.place c.send_piece-taken.result.0 n c.args.to c.loop.invariant.from
          c.send_piece-taken.ensures.within found.within;
      gone = more_gone told c.args.sending file frame c.args.from c.loop.place n c.send_piece-taken.result.0 c.args.to w0 w1 w2 found
          c.loop.invariant.from all c.loop.invariant.gone came;
      left = search rules;
      faults = search rules;
    }

pub returns-in-Err-clause-sends : goal.returns-in-Err-clause-sends
returns-in-Err-clause-sends g c =
    let told = g.S.Site.tells && g.F.BodyFile.tells in
    let file = g.S.Site.instance c.args.first c.args.asked.now.path in
    let frame = c.await_piece-last.new.frame in
    let n = c.in-Bytes.count in
    let found : BytesStand (told ≡ true) file c.loop.place c.args.to frame n =
    subst (λ f. FoundStands g.S.Site (told ≡ true) c.args.asked.now file c.loop.place c.args.to frame f) c.in-Bytes.is
    c.await_piece-last.ensures.found in
    let w0 = g.L.Link.written c.args.client.now in
    let w1 = g.L.Link.written c.loop.client in
    let w2 = g.L.Link.written c.send_piece-taken.new.client in
    let taken = c.send_piece-taken.result.0 in
    let broke : Breaks c.args.sending (take n (drop 18 frame)) taken w1 w2 = search rules in
    let b = broke_in_piece told c.args.sending file frame c.args.from c.loop.place n taken c.args.to w0 w1 w2 found c.loop.invariant.from
    c.loop.invariant.gone broke in
    let count : (c.loop.place - c.args.from) + taken ≡ c.loop.place + taken - c.args.from = omega (arith, c.loop.invariant.from) in
    subst (λ r. FollowsFile (told ≡ true) c.args.sending file c.args.from c.args.to w0 w2 r) (sym c.ended.ensures)
    (record { part = b.whole; is = b.is; goes = inl (subst (λ k. BreaksIn c.args.sending b.whole k w0 w2) count b.broke) })

pub returns-in-Err-send_last-clause-sends : goal.returns-in-Err-send_last-clause-sends
returns-in-Err-send_last-clause-sends g c =
    let told = g.S.Site.tells && g.F.BodyFile.tells in
    let file = g.S.Site.instance c.args.first c.args.asked.now.path in
    let past : IsPast (told ≡ true) file c.loop.place c.args.to =
    subst (λ f. FoundStands g.S.Site (told ≡ true) c.args.asked.now file c.loop.place c.args.to c.await_piece-last.new.frame f) c.in-Whole.is
    c.await_piece-last.ensures.found in
    let w0 = g.L.Link.written c.args.client.now in
    let w1 = g.L.Link.written c.loop.client in
    let w2 = g.L.Link.written c.send_last.new.client in
    let e = c.in-Err-send_last.ensures.bytes in
    let b = broke_behind told c.args.sending file c.args.from c.loop.place e.0 c.args.to w0 w1 w2 c.loop.invariant.gone past e.2 in
    subst (λ r. FollowsFile (told ≡ true) c.args.sending file c.args.from c.args.to w0 w2 r) (sym c.ended-in-Err-send_last.ensures)
    (record { part = b.whole; is = b.is; goes = inr b.broke })

pub returns-in-Whole-clause-sends : goal.returns-in-Whole-clause-sends
returns-in-Whole-clause-sends g c =
    let told = g.S.Site.tells && g.F.BodyFile.tells in
    let file = g.S.Site.instance c.args.first c.args.asked.now.path in
    let past : IsPast (told ≡ true) file c.loop.place c.args.to =
    subst (λ f. FoundStands g.S.Site (told ≡ true) c.args.asked.now file c.loop.place c.args.to c.await_piece-last.new.frame f) c.in-Whole.is
    c.await_piece-last.ensures.found in
    let w0 = g.L.Link.written c.args.client.now in
    let w1 = g.L.Link.written c.loop.client in
    let w2 = g.L.Link.written c.send_last.new.client in
    let came : Appends w1 w2 (last_text c.args.sending) = search rules in
    let b = whole_sent told c.args.sending file (last_text c.args.sending) c.args.from c.loop.place c.args.to w0 w1 w2 c.loop.invariant.gone
    past came in
    subst (λ r. FollowsFile (told ≡ true) c.args.sending file c.args.from c.args.to w0 w2 r) (sym c.ended-in-Whole.ensures)
    (record { part = b.whole; is = b.is; goes = (b.all, b.sends) })

pub returns-in-Whole-clause-ends : goal.returns-in-Whole-clause-ends
returns-in-Whole-clause-ends g c =
    let told = g.S.Site.tells && g.F.BodyFile.tells in
    let file = g.S.Site.instance c.args.first c.args.asked.now.path in
    let past : IsPast (told ≡ true) file c.loop.place c.args.to =
    subst (λ f. FoundStands g.S.Site (told ≡ true) c.args.asked.now file c.loop.place c.args.to c.await_piece-last.new.frame f) c.in-Whole.is
    c.await_piece-last.ensures.found in
    subst (λ r. EndStands g.S.Site c.args.asked.now c.args.from c.args.to r.sent r.stop) (sym c.ended-in-Whole.ensures)
    (sent_to_end c.args.from c.loop.place c.args.to c.loop.invariant.from c.loop.invariant.within past.asked)

pub returns-in-Cut-clause-sends : goal.returns-in-Cut-clause-sends
returns-in-Cut-clause-sends g c =
    let told = g.S.Site.tells && g.F.BodyFile.tells in
    let file = g.S.Site.instance c.args.first c.args.asked.now.path in
    let w0 = g.L.Link.written c.args.client.now in
    let w1 = g.L.Link.written c.loop.client in
    let b = front_sent told c.args.sending (part_of file c.args.from c.args.to) (c.loop.place - c.args.from) w0 w1 c.loop.invariant.gone in
    subst (λ r. FollowsFile (told ≡ true) c.args.sending file c.args.from c.args.to w0 w1 r) (sym c.ended-in-Cut.ensures)
    (record { part = b.whole; is = b.is; goes = (b.few, b.sends) })

pub returns-in-Cut-clause-ends : goal.returns-in-Cut-clause-ends
returns-in-Cut-clause-ends g c =
    let told = g.S.Site.tells && g.F.BodyFile.tells in
    let file = g.S.Site.instance c.args.first c.args.asked.now.path in
    let found : IsShort c.loop.place c.args.to × CauseStands g.S.Site c.args.asked.now c.in-Cut.shown =
    subst (λ f. FoundStands g.S.Site (told ≡ true) c.args.asked.now file c.loop.place c.args.to c.await_piece-last.new.frame f) c.in-Cut.is
    c.await_piece-last.ensures.found in
    subst (λ r. EndStands g.S.Site c.args.asked.now c.args.from c.args.to r.sent r.stop) (sym c.ended-in-Cut.ensures)
    (short_of c.args.from c.loop.place c.args.to c.loop.invariant.from found.0, found.1)

pub returns-in-Slip-clause-sends : goal.returns-in-Slip-clause-sends
returns-in-Slip-clause-sends g c =
    let told = g.S.Site.tells && g.F.BodyFile.tells in
    let file = g.S.Site.instance c.args.first c.args.asked.now.path in
    let w0 = g.L.Link.written c.args.client.now in
    let w1 = g.L.Link.written c.loop.client in
    let b = front_sent told c.args.sending (part_of file c.args.from c.args.to) (c.loop.place - c.args.from) w0 w1 c.loop.invariant.gone in
    subst (λ r. FollowsFile (told ≡ true) c.args.sending file c.args.from c.args.to w0 w1 r) (sym c.ended-in-Slip.ensures)
    (record { part = b.whole; is = b.is; goes = (b.few, b.sends) })

pub returns-in-Slip-clause-ends : goal.returns-in-Slip-clause-ends
returns-in-Slip-clause-ends g c =
    let told = g.S.Site.tells && g.F.BodyFile.tells in
    let file = g.S.Site.instance c.args.first c.args.asked.now.path in
    let found : IsShort c.loop.place c.args.to =
    subst (λ f. FoundStands g.S.Site (told ≡ true) c.args.asked.now file c.loop.place c.args.to c.await_piece-last.new.frame f) c.in-Slip.is
    c.await_piece-last.ensures.found in
    subst (λ r. EndStands g.S.Site c.args.asked.now c.args.from c.args.to r.sent r.stop) (sym c.ended-in-Slip.ensures)
    (short_of c.args.from c.loop.place c.args.to c.loop.invariant.from found)

pub returns-in-Err-clause-ends : goal.returns-in-Err-clause-ends
returns-in-Err-clause-ends g c =
    let told = g.S.Site.tells && g.F.BodyFile.tells in
    let file = g.S.Site.instance c.args.first c.args.asked.now.path in
    let frame = c.await_piece-last.new.frame in
    let found : BytesStand (told ≡ true) file c.loop.place c.args.to frame c.in-Bytes.count =
    subst (λ f. FoundStands g.S.Site (told ≡ true) c.args.asked.now file c.loop.place c.args.to frame f) c.in-Bytes.is
    c.await_piece-last.ensures.found in
    subst (λ r. EndStands g.S.Site c.args.asked.now c.args.from c.args.to r.sent r.stop) (sym c.ended.ensures)
    (sent_some c.args.from c.loop.place c.send_piece-taken.result.0 c.in-Bytes.count c.args.to c.loop.invariant.from
    c.send_piece-taken.ensures.within found.within)
