use Rattle.std.proofs.Common.{inl}
use Rattle.acng_reply.specs.Replies.{sent_by}
use Rattle.acng_serve.proofs.Visiting.{run_note}
use Rattle.acng_serve.proofs.among.answer_run_among.Goals as goal

pub returns-in-Ok-clause-note : goal.returns-in-Ok-clause-note
returns-in-Ok-clause-note g c =
    inl (run_note c.args.manner c.in-Ok.report.page c.in-Ok.report.run c.send_report.result
    (sent_by g.L.Link c.args.client.now c.send_report.new.client) c.send_report.ensures.gives g.K.Keeper.tells c.args.now c.in-Ok.ensures)
