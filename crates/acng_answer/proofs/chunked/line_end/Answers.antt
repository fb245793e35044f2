use Rattle.std.proofs.Common.{ap, sym, ◌∙◌, ◌+◌, option_map}
use Rattle.acng_answer.proofs.SizeSteps.{line_at}
use Rattle.acng_answer.proofs.chunked.line_end.Goals as goal

pub returns-in-Some-clause-len : goal.returns-in-Some-clause-len
returns-in-Some-clause-len c = ap (option_map (λ k. k + 1)) c.in-Some.ensures ∙ line_at c.args.text.now

pub returns-in-None-clause-len : goal.returns-in-None-clause-len
returns-in-None-clause-len c = ap (option_map (λ k. k + 1)) c.in-None.ensures ∙ line_at c.args.text.now
