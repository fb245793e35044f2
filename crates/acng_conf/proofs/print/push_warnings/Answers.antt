use Rattle.std.proofs.Common.{◌+◌, ◌++◌, sym, ap, ◌∙◌, drop, append_assoc}
use Rattle.acng_conf.specs.Printed.{warning_lines}
use Rattle.acng_conf.proofs.Walks.{row}
use Rattle.acng_conf.proofs.print.push_warnings.Goals as goal

pub loop-warning-preserved : goal.loop-warning-preserved
loop-warning-preserved c =
    let bytes = c.loop-warning.bytes.items in
    let rest = warning_lines (drop (c.loop-warning.warning-index + 1) c.args.warnings.now) in
    c.loop-warning.invariant ∙ ap (λ t. bytes ++ warning_lines t) (row c.args.warnings.now c.loop-warning.warning-index _ c.loop-warning-test.true)
    ∙ sym (append_assoc bytes _ rest) ∙ ap (λ t. t ++ rest) (sym c.in_ok-push_warning.ensures)
