use Rattle.std.proofs.Common.{sym, ◌∙◌}
use Rattle.acng_base.proofs.Trims.{with_cr_end, without_cr_end}
use Rattle.acng_base.proofs.line.without_cr.Goals as goal

pub returns-then-ends_with_cr : goal.returns-then-ends_with_cr
returns-then-ends_with_cr c = sym (with_cr_end c.args.line.now (sym c.ends_with_cr.ensures ∙ c.if-ends_with_cr.true))

pub returns-else-ends_with_cr : goal.returns-else-ends_with_cr
returns-else-ends_with_cr c = sym (without_cr_end c.args.line.now (sym c.ends_with_cr.ensures ∙ c.if-ends_with_cr.false))
