use mathlib.Core.Logic.{inl, inr}
use Rattle.std.proofs.Common.{◌≡◌, ◌≤◌, ◌<◌, ◌+◌, ◌-◌, true, length, take, drop, sym, ap, subst, ◌∙◌, rules, arith, length-take}
use Rattle.std.proofs.Common.{length-drop}
use Rattle.std.specs.Io.KnownBytes.{Appends}
use Rattle.acng_grow.specs.Grown.{text_of}
use Rattle.acng_grow.specs.Follows.{end_at, is_there, part_of, FollowsAs}
use Rattle.acng_grow.specs.Sends.{Breaks, HasGone, last_text, piece_text}
use Rattle.acng_grow.proofs.Pieces.{gone_more}
use Rattle.acng_grow.proofs.Following.{rests_trans, rests_text, part_most, piece_stands, filled, piece_broke, slip_sent, all_sent, last_broke}
use Rattle.acng_grow.proofs.owned.follow_by.Goals as goal

pub returns-in-Err-clause-sends : goal.returns-in-Err-clause-sends
returns-in-Err-clause-sends g c =
    let told = g.F.BodyFile.tells in
    let body = c.args.body.now in
    let text = text_of body in
    let part = part_of text c.args.from c.args.to in
    let sent = c.loop-sent.sent in
    let most = c.saturating_sub-most.result in
    let bound = ap (λ k. end_at k c.args.to) c.len.ensures.size in
    let top : most ≡ end_at body.seen.size c.args.to - c.args.from =
    c.saturating_sub-most.ensures ∙ ap (λ k. k - c.args.from) (c.end_at.ensures ∙ bound) in
    let size = λ (t : told ≡ true). sym c.len.ensures.size ∙ c.len.ensures.told t in
    let n = c.in-Bytes.count in
    let buf = drop 18 c.take_piece.new.frame in
    let piece = take n buf in
    let cases = c.in-Bytes.ensures.cases in
    let l = length-take n buf in
    let d = length-drop 18 c.take_piece.new.frame in
    let room = c.loop-sent.invariant.room in
    let len : length piece ≡ n = omega (arith, l, d, cases.fits, c.room_for.ensures.fits, c.take_piece.ensures.len, room) in
    let within : sent + n ≤ most = omega (arith, cases.fits, c.room_for.ensures.few, c.loop-sent-test.true) in
    let w0 = g.L.Link.written c.args.client.now in
    let w1 = g.L.Link.written c.loop-sent.client in
    let w2 = g.L.Link.written c.send_piece-taken.new.client in
    let broke : Breaks c.args.sending piece c.send_piece-taken.result.0 w1 w2 = search rules in
    let same = rests_text body c.loop-sent.body c.loop-sent.invariant.rests in
    let b =
    piece_broke told c.args.sending part piece sent c.send_piece-taken.result.0 most w0 w1 w2 c.loop-sent.invariant.gone
    (subst (λ k. 0 < k) (sym len) cases.some)
    (λ t. piece_stands text _ buf c.args.from body.seen.size most sent n c.args.to top (size t) same (c.in-Bytes.ensures.bytes t)
    len within)
    (λ t. part_most text c.args.from body.seen.size most c.args.to top (size t))
    (subst (λ k. sent + k ≤ most) (sym len) within)
    broke in
    subst (λ r. FollowsAs (told ≡ true) c.args.sending body c.args.from c.args.to w0 w2 r) (sym c.ended.ensures)
    (record { part = b.0.whole; count = b.0.count ∙ top; is = b.0.is; goes = inl b.1 })

pub loop-sent-preserved : goal.loop-sent-preserved
loop-sent-preserved g c =
    let told = g.F.BodyFile.tells in
    let body = c.args.body.now in
    let text = text_of body in
    let part = part_of text c.args.from c.args.to in
    let sent = c.loop-sent.sent in
    let most = c.saturating_sub-most.result in
    let bound = ap (λ k. end_at k c.args.to) c.len.ensures.size in
    let top : most ≡ end_at body.seen.size c.args.to - c.args.from =
    c.saturating_sub-most.ensures ∙ ap (λ k. k - c.args.from) (c.end_at.ensures ∙ bound) in
    let size = λ (t : told ≡ true). sym c.len.ensures.size ∙ c.len.ensures.told t in
    let n = c.in-Bytes.count in
    let buf = drop 18 c.take_piece.new.frame in
    let piece = take n buf in
    let cases = c.in-Bytes.ensures.cases in
    let l = length-take n buf in
    let d = length-drop 18 c.take_piece.new.frame in
    let room = c.loop-sent.invariant.room in
    let len : length piece ≡ n = omega (arith, l, d, cases.fits, c.room_for.ensures.fits, c.take_piece.ensures.len, room) in
    let within : sent + n ≤ most = omega (arith, cases.fits, c.room_for.ensures.few, c.loop-sent-test.true) in
    let w0 = g.L.Link.written c.args.client.now in
    let w1 = g.L.Link.written c.loop-sent.client in
    let w2 = g.L.Link.written c.send_piece-taken.new.client in
    let all : c.send_piece-taken.result.0 ≡ n = search rules in
    let came : Appends w1 w2 (piece_text c.args.sending piece) = search rules in
    let same = rests_text body c.loop-sent.body c.loop-sent.invariant.rests in
    let gone : HasGone c.args.sending (told ≡ true) part (sent + length piece) w0 w2 =
    gone_more c.args.sending (told ≡ true) part piece sent w0 w1 w2 c.loop-sent.invariant.gone
    (subst (λ k. 0 < k) (sym len) cases.some)
    (λ t. piece_stands text _ buf c.args.from body.seen.size most sent n c.args.to top (size t) same (c.in-Bytes.ensures.bytes t)
    len within)
    came in
    record {
      rests = rests_trans body c.loop-sent.body c.take_piece.new.body c.loop-sent.invariant.rests c.take_piece.ensures.rests;
      room = search rules;
      few = omega (arith, all, within);
      gone = subst (λ k. HasGone c.args.sending (told ≡ true) part (sent + k) w0 w2) (len ∙ sym all) gone;
      left = search rules;
      faults = search rules;
    }

pub returns-in-Slip-clause-sends : goal.returns-in-Slip-clause-sends
returns-in-Slip-clause-sends g c =
    let told = g.F.BodyFile.tells in
    let body = c.args.body.now in
    let text = text_of body in
    let part = part_of text c.args.from c.args.to in
    let sent = c.loop-sent.sent in
    let most = c.saturating_sub-most.result in
    let bound = ap (λ k. end_at k c.args.to) c.len.ensures.size in
    let top : most ≡ end_at body.seen.size c.args.to - c.args.from =
    c.saturating_sub-most.ensures ∙ ap (λ k. k - c.args.from) (c.end_at.ensures ∙ bound) in
    let size = λ (t : told ≡ true). sym c.len.ensures.size ∙ c.len.ensures.told t in
    let w0 = g.L.Link.written c.args.client.now in
    let w1 = g.L.Link.written c.loop-sent.client in
    let gone = c.loop-sent.invariant.gone in
    let few = c.loop-sent.invariant.few in
    let long = λ (t : told ≡ true). part_most text c.args.from body.seen.size most c.args.to top (size t) in
    let f = filled told c.args.sending part sent most w0 w1 gone long few in
    subst (λ r. FollowsAs (told ≡ true) c.args.sending body c.args.from c.args.to w0 w1 r) (sym c.ended-in-Slip.ensures)
    (record { part = f.whole; count = f.count ∙ top; is = f.is; goes = slip_sent told c.args.sending part sent most w0 w1 gone f few })

pub returns-in-Err-send_last-clause-sends : goal.returns-in-Err-send_last-clause-sends
returns-in-Err-send_last-clause-sends g c =
    let told = g.F.BodyFile.tells in
    let body = c.args.body.now in
    let text = text_of body in
    let part = part_of text c.args.from c.args.to in
    let sent = c.loop-sent.sent in
    let most = c.saturating_sub-most.result in
    let bound = ap (λ k. end_at k c.args.to) c.len.ensures.size in
    let top : most ≡ end_at body.seen.size c.args.to - c.args.from =
    c.saturating_sub-most.ensures ∙ ap (λ k. k - c.args.from) (c.end_at.ensures ∙ bound) in
    let size = λ (t : told ≡ true). sym c.len.ensures.size ∙ c.len.ensures.told t in
    let w0 = g.L.Link.written c.args.client.now in
    let w1 = g.L.Link.written c.loop-sent.client in
    let w2 = g.L.Link.written c.send_last.new.client in
    let gone = c.loop-sent.invariant.gone in
    let few = c.loop-sent.invariant.few in
    let long = λ (t : told ≡ true). part_most text c.args.from body.seen.size most c.args.to top (size t) in
    let f = filled told c.args.sending part sent most w0 w1 gone long few in
    let all : sent ≡ most = omega (arith, few, c.loop-sent-test.false) in
    let b = c.in-Err-send_last.ensures.bytes in
    let after = last_broke told c.args.sending part sent most b.0 w0 w1 w2 gone f all b.2 in
    let rests = c.loop-sent.invariant.rests.seen in
    let at_stage = c.stage.ensures ∙ ap (λ s. s.stage) rests in
    let at_size = c.len-2.ensures.size ∙ ap (λ s. s.size) rests in
    let there : is_there body.seen.stage body.seen.size c.args.from c.args.to ≡ true =
    ap (λ s. is_there s body.seen.size c.args.from c.args.to) (sym at_stage)
    ∙ ap (λ n. is_there c.stage.result n c.args.from c.args.to) (sym at_size)
    ∙ sym c.if-not-is_there.ensures in
    subst (λ r. FollowsAs (told ≡ true) c.args.sending body c.args.from c.args.to w0 w2 r) (sym c.ended-in-Err-send_last.ensures)
    (record { part = f.whole; count = f.count ∙ top; is = f.is; goes = inr (there, after) })

pub returns-clause-sends : goal.returns-clause-sends
returns-clause-sends g c =
    let told = g.F.BodyFile.tells in
    let body = c.args.body.now in
    let text = text_of body in
    let part = part_of text c.args.from c.args.to in
    let sent = c.loop-sent.sent in
    let most = c.saturating_sub-most.result in
    let bound = ap (λ k. end_at k c.args.to) c.len.ensures.size in
    let top : most ≡ end_at body.seen.size c.args.to - c.args.from =
    c.saturating_sub-most.ensures ∙ ap (λ k. k - c.args.from) (c.end_at.ensures ∙ bound) in
    let size = λ (t : told ≡ true). sym c.len.ensures.size ∙ c.len.ensures.told t in
    let w0 = g.L.Link.written c.args.client.now in
    let w1 = g.L.Link.written c.loop-sent.client in
    let w2 = g.L.Link.written c.send_last.new.client in
    let gone = c.loop-sent.invariant.gone in
    let few = c.loop-sent.invariant.few in
    let long = λ (t : told ≡ true). part_most text c.args.from body.seen.size most c.args.to top (size t) in
    let f = filled told c.args.sending part sent most w0 w1 gone long few in
    let all : sent ≡ most = omega (arith, few, c.loop-sent-test.false) in
    let went =
    all_sent told c.args.sending part (last_text c.args.sending) sent most w0 w1 w2 gone f all c.in_default-send_last.ensures.bytes in
    let rests = c.loop-sent.invariant.rests.seen in
    let at_stage = c.stage.ensures ∙ ap (λ s. s.stage) rests in
    let at_size = c.len-2.ensures.size ∙ ap (λ s. s.size) rests in
    let there : is_there body.seen.stage body.seen.size c.args.from c.args.to ≡ true =
    ap (λ s. is_there s body.seen.size c.args.from c.args.to) (sym at_stage)
    ∙ ap (λ n. is_there c.stage.result n c.args.from c.args.to) (sym at_size)
    ∙ sym c.if-not-is_there.ensures in
    subst (λ r. FollowsAs (told ≡ true) c.args.sending body c.args.from c.args.to w0 w2 r) (sym c.ended-2.ensures)
    (record { part = f.whole; count = f.count ∙ top; is = f.is; goes = (there, went.0, went.1) })
