use Rattle.std.proofs.Common.{None, subst}
use Rattle.acng_reply.specs.declared.manner.Manner.{Manner}
use Rattle.acng_reply.specs.Replies.{sent_by}
use Rattle.acng_serve.specs.Notes.{Gives, lined}
use Rattle.acng_serve.proofs.refuse.answer_unread.Goals as goal

pub returns-clause-gives : goal.returns-clause-gives
returns-clause-gives g c =
    subst (λ (m : Manner). Gives (lined m c.args.cause None None) c.refuse.result
    (sent_by g.L.Link c.args.client.now c.refuse.new.client)) c.unread.ensures c.refuse.ensures.gives
