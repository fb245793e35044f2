use Rattle.std.proofs.Common.{◌∙◌, refl, sym, ap}
use Rattle.acng_cli.proofs.Tasks.{uses_none, task_reads, plain_status, by_task, by_none}
use Rattle.acng_cli.proofs.maint.run_by.Goals as goal

pub returns-in-Some-clause-ran : goal.returns-in-Some-clause-ran
returns-in-Some-clause-ran g c = by_task _ _ _ _ _ _ _ _ _ _ _ _ _ _ _ _ (sym c.in-Some.is ∙ c.task_of.ensures) c.run_task.ensures.ran

pub returns-in-Some-clause-unread : goal.returns-in-Some-clause-unread
returns-in-Some-clause-unread g c = λ none.
    absurd (task_reads c.args.words.command c.in-Some.task (sym c.task_of.ensures ∙ c.in-Some.is) none)

pub returns-in-None-clause-ran : goal.returns-in-None-clause-ran
returns-in-None-clause-ran g c =
    by_none _ _ _ _ _ _ _ _ _ _ _ _ _ _ _ (sym c.in-None.is ∙ c.task_of.ensures)
    (uses_none c.args.keeper _ _ c.run_plain.result c.ended.result c.ended.ensures refl refl)
    (plain_status _ _ _ _ _ _ _ _ _ _ _ (sym (ap (λ e. e.status) c.ended.ensures)) c.run_plain.ensures.ran)
