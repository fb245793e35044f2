use Rattle.std.proofs.Common.{sym, arith}
use Rattle.std.proofs.lemmas.List.{take_all, length-take-le}
use Rattle.acng_conf.proofs.read.front.Goals as goal

pub slice_bounds-result-end : goal.slice_bounds-result-end
slice_bounds-result-end c = sym (length-take-le 4194304 c.args.text.now (omega arith))

pub returns-then-text-gt-MOST_TEXT-clause-short : goal.returns-then-text-gt-MOST_TEXT-clause-short
returns-then-text-gt-MOST_TEXT-clause-short c = omega (arith, length-take-le 4194304 c.args.text.now (omega arith))

pub returns-else-text-gt-MOST_TEXT-clause-front : goal.returns-else-text-gt-MOST_TEXT-clause-front
returns-else-text-gt-MOST_TEXT-clause-front c = sym (take_all 4194304 c.args.text.now (omega arith))
