use Rattle.acng_import.proofs.Stepping.{entered_both}
use Rattle.acng_import.proofs.put.put_next.Goals as goal

pub returns-in-Ok-put_at-clause-only : goal.returns-in-Ok-put_at-clause-only
returns-in-Ok-put_at-clause-only g c = λ may has. entered_both (c.copy_of.ensures.only may) (c.put_at.ensures.only may has)

pub returns-in-Err-put_at-clause-only : goal.returns-in-Err-put_at-clause-only
returns-in-Err-put_at-clause-only g c = λ may has. entered_both (c.copy_of.ensures.only may) (c.put_at.ensures.only may has)
