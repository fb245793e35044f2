use Rattle.std.proofs.Common.{◌∙◌, ap, sym, subst}
use Rattle.acng_reply.specs.Picks.{IsPicked, by_range}
use Rattle.acng_reply.proofs.Parts.{picked}
use Rattle.acng_reply.proofs.pick.Pick.of.Goals as goal

pub returns-clause-within : goal.returns-clause-within
returns-clause-within c =
    subst (IsPicked c.args.facts.now) (sym (c.by_range.ensures ∙ ap by_range c.lawful_range.ensures))
    (picked c.args.request.now c.args.facts.now)
