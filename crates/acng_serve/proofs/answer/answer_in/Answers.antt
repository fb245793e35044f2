use Rattle.acng_reply.specs.Replies.{sent_by}
use Rattle.acng_serve.proofs.Rules.{at-rules}
use Rattle.acng_serve.proofs.answer.answer_in.Goals as goal

pub returns-clause-rules : goal.returns-clause-rules
returns-clause-rules g c =
    at-rules g.S.Site g.K.Keeper.tells c.args.conf.now c.args.manner c.args.request.now c.now-now.result c.args.desk.now c.answer_at.new.desk
    c.answer_at.result (sent_by g.L.Link c.args.client.now c.answer_at.new.client) c.answer_at.ensures.answers
