use Rattle.std.proofs.Common.{Option, ℕ, length, ap}
use Rattle.std.specs.Option.{unwrap_or}
use Rattle.acng_conf.proofs.remap_line.section_len.Goals as goal

pub returns-in-Some-clause-len : goal.returns-in-Some-clause-len
returns-in-Some-clause-len c = ap (λ (o : Option ℕ). unwrap_or o (length c.args.words.now)) c.in-Some.ensures.at

pub returns-in-None-clause-len : goal.returns-in-None-clause-len
returns-in-None-clause-len c = ap (λ (o : Option ℕ). unwrap_or o (length c.args.words.now)) c.in-None.ensures.at
