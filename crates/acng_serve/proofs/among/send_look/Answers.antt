use Rattle.std.proofs.Common.{subst, sym}
use Rattle.acng_grow.specs.Stands.{file_of}
use Rattle.acng_reply.specs.Joined.{CutStands, FollowsPart, IsKnown}
use Rattle.acng_reply.specs.Replies.{sent_by}
use Rattle.std.specs.Prelude.{◌&&◌, IsSomeAnd}
use Rattle.acng_grow.specs.Turns.{IsLabelOf}
use Rattle.acng_serve.proofs.Lawfuls.{known, told_note}
use Rattle.acng_serve.proofs.among.send_look.Goals as goal

pub follow_part-sent-requires-clause-known : goal.follow_part-sent-requires-clause-known
follow_part-sent-requires-clause-known g c =
    let s = g.S.Site in
    subst (λ a. IsKnown (s.tells && g.F.BodyFile.tells) c.args.facts.now (file_of s a.path c.args.label)) (sym c.asked.ensures)
    (known s g.F.BodyFile.tells c.args.entry.asked c.args.label c.args.facts.now c.requires.look.label c.requires.look.facts)

pub returns-clause-note : goal.returns-clause-note
returns-clause-note g c =
    let s = g.S.Site in
    let told = s.tells && g.F.BodyFile.tells in
    let e = c.args.entry in
    let io = sent_by g.L.Link c.args.client.now c.follow_part-sent.new.client in
    let w = c.follow_part-sent.result in
    told_note g.row.F-Slip.Denot s g.F.BodyFile.tells c.args.manner c.args.request.now e c.requires.led c.args.label c.args.stage c.args.facts.now
    c.requires.look io w c.of-pick.result c.status.result c.cause_of.result c.part.result c.is_whole-whole.result c.of-pick.ensures.pick
    c.status.ensures c.cause_of.ensures c.part.ensures c.is_whole-whole.ensures
    (subst (λ a. FollowsPart told c.args.manner c.of-pick.result c.args.facts.now (file_of s a.path c.args.label) io w) c.asked.ensures
    c.follow_part-sent.ensures.sends)
    (subst (λ a. CutStands s a w.stop) c.asked.ensures c.follow_part-sent.ensures.cause)
    (subst (λ a. IsSomeAnd w.label (IsLabelOf a c.args.label)) c.asked.ensures c.follow_part-sent.ensures.label)
