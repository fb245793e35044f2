use Rattle.acng_reply.specs.Replies.{sent_by}
use Rattle.acng_serve.proofs.Sendings.{part_told}
use Rattle.acng_serve.proofs.file.send_pick.Goals as goal

pub returns-clause-sends : goal.returns-clause-sends
returns-clause-sends g c =
    part_told c.args.manner c.args.pick c.args.entry c.args.body.now
    (sent_by g.L.Link c.args.client.now c.send_part-sent.new.client) g.F.BodyFile.tells c.requires.unshown
    c.send_part-sent.result c.status.result c.cause_of.result c.part.result c.is_whole-whole.result c.send_part-sent.ensures.label
    c.status.ensures c.cause_of.ensures
    c.part.ensures c.is_whole-whole.ensures c.send_part-sent.ensures.sends
