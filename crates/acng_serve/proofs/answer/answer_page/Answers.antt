use Rattle.std.proofs.Common.{inl}
use Rattle.acng_reply.specs.Replies.{sent_by}
use Rattle.acng_serve.proofs.Visiting.{page_gives}
use Rattle.acng_serve.proofs.answer.answer_page.Goals as goal

pub returns-in-Ok-clause-shows : goal.returns-in-Ok-clause-shows
returns-in-Ok-clause-shows g c = record {
  gives = inl (page_gives c.args.manner c.in-Ok.report.page c.in-Ok.report.run c.send_report.result
      (sent_by g.L.Link c.args.client.now c.send_report.new.client) c.send_report.ensures.gives c.args.desk.now.plain
      c.in-Ok.ensures.page c.in-Ok.ensures.run);
  same = c.show.ensures.same;
}
