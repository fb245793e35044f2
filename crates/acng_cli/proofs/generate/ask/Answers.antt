use Rattle.std.proofs.Common.{ap, sym, ◌∙◌, Some}
use Rattle.acng_cli.proofs.Fetches.{asked_by}
use Rattle.acng_cli.proofs.generate.ask.Goals as goal

pub returns-then-is_sent-clause-asked : goal.returns-then-is_sent-clause-asked
returns-then-is_sent-clause-asked g c =
    asked_by g.S.Site c.args.conf.now c.args.file.now c.in_ok-request.request c.in_ok-request.ensures _ _
    (ap Some c.in_ok-clock.ensures) c.args.cache.now c.answer_one-note.new.desk c.answer_one-note.result _ c.answer_one-note.ensures.answers
    (sym c.is_sent.ensures ∙ c.if-is_sent.true)
