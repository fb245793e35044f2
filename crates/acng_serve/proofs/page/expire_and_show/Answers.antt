use Rattle.std.proofs.Common.{sym, subst}
use Rattle.acng_expire.specs.Lines.{HasEnded}
use Rattle.acng_serve.proofs.Expiring.{line_ended}
use Rattle.acng_serve.proofs.page.expire_and_show.Goals as goal

-- memory for the page was refused behind the run
pub returns-in-Err-page-clause-ended : goal.returns-in-Err-page-clause-ended
returns-in-Err-page-clause-ended g c =
    subst (λ d. HasEnded g.K.Keeper.tells c.args.now c.args.desk.now d) (sym c.page.ensures.same)
    (line_ended g.K.Keeper.tells c.args.now c.args.desk.now c.expire_line.new.desk c.in-Ok.line c.in-Ok.ensures.line)
