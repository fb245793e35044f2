use Rattle.std.proofs.Common.{◌≡◌, ◌-◌, [], false, subst}
use Rattle.acng_base.specs.Answers.{Open, nothing}
use Rattle.acng_answer.specs.Reader.{rest}
use Rattle.acng_answer.proofs.EndLemmas.{rest_open}
use Rattle.acng_answer.proofs.reader.AnswerReader.over.Goals as goal

pub returns-in_default : goal.returns-in_default
returns-in_default c =
    let s = c.self.inside in
    record {
      over = tt;
      goes_on = subst (λ v. rest v false [] ≡ nothing Open) c.self.view_is (rest_open (s.limit - s.at) s.limit s.stage s.held.items s.at c.self.invariant.fits c.in_default.not-Ended);
    }
