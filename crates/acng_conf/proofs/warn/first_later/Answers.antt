use Rattle.std.proofs.Common.{Option, ℕ, length, ap}
use Rattle.std.specs.Option.{unwrap_or}
use Rattle.acng_conf.proofs.warn.first_later.Goals as goal

pub returns-in-Some-clause-at : goal.returns-in-Some-clause-at
returns-in-Some-clause-at c = ap (λ (o : Option ℕ). unwrap_or o (length c.args.warnings.now)) c.in-Some.ensures.at

pub returns-in-None-clause-at : goal.returns-in-None-clause-at
returns-in-None-clause-at c = ap (λ (o : Option ℕ). unwrap_or o (length c.args.warnings.now)) c.in-None.ensures.at
