use Rattle.std.proofs.Common.{sym, ap, ◌∙◌}
use Rattle.acng_report.specs.Pages.{around}
use Rattle.acng_report.specs.Tables.{table}
use Rattle.acng_report.proofs.html.print_page.Goals as goal

pub invariant_of-result : goal.invariant_of-result
invariant_of-result c =
    let lines = c.args.lines.now in
    record {
      lines = lines;
      is = c.in_ok-bytes.ensures ∙ ap (around c.args.first.now) (c.as_bytes.ensures ∙ c.in_ok-table.ensures)
          ∙ ap (λ first. around first (table lines)) (sym c.in_ok-first.ensures);
    }
