use Rattle.acng_head.proofs.Cuts.{line_found}
use Rattle.acng_head.proofs.lines.value_of.Goals as goal

pub returns : goal.returns
returns c =
    line_found c.split_at.result (λ x. x.0.now)
    (λ x. x.1.now) c.args.text.now c.args.key.now c.in_ok-after.field-0.now c.in_ok-after.ensures c.split_at.ensures
