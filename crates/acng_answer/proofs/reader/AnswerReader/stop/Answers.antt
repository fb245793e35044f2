use Rattle.std.proofs.Common.{◌≡◌, ◌-◌, [], true, subst, ap, sym, ◌∙◌, None}
use Rattle.acng_base.specs.Answers.{nothing}
use Rattle.acng_answer.specs.Stages.{outcome_of, due_at}
use Rattle.acng_answer.specs.Reader.{rest}
use Rattle.acng_answer.proofs.EndLemmas.{rest_ends, end_stops, ended_counts}
use Rattle.acng_answer.proofs.reader.AnswerReader.stop.Goals as goal

pub returns-clause-step : goal.returns-clause-step
returns-clause-step c =
    let s = c.self.inside in
    let law : rest c.args.self.now true [] ≡ nothing (outcome_of c.end_of-end.result) =
    subst (λ v. rest v true [] ≡ nothing (outcome_of c.end_of-end.result)) c.self.view_is
    (rest_ends (s.limit - s.at) s.limit s.stage s.held.items s.at c.self.invariant.fits true ∙ ap nothing (sym c.end_of-end.ensures.outcome)) in
    rw c.step.ensures (end_stops c.end_of-end.result (rest c.args.self.now true []) law)
