use Rattle.std.proofs.Common.{sym, ap, ◌∙◌, ◌≡◌, Some, arith}
use Rattle.acng_answer.proofs.DueLemmas.{due_framed, framed_due}
use Rattle.acng_answer.proofs.stage.first_stage.Goals as goal

pub returns-in-Empty-clause-due : goal.returns-in-Empty-clause-due
returns-in-Empty-clause-due c = λ h is. sym (due_framed h c.args.framed is ∙ ap framed_due c.in-Empty.is)

pub returns-in-Counted-eq0-clause-due : goal.returns-in-Counted-eq0-clause-due
returns-in-Counted-eq0-clause-due c =
    let none : c.in-Counted-eq0.field-0 ≡ 0 = grind (arith, c.in-Counted-eq0.field-0-test) in
    λ h is. sym (due_framed h c.args.framed is ∙ ap framed_due c.in-Counted-eq0.is ∙ ap Some none)

pub returns-in-Counted-clause-due : goal.returns-in-Counted-clause-due
returns-in-Counted-clause-due c = λ h is. sym (due_framed h c.args.framed is ∙ ap framed_due c.in-Counted.is)
