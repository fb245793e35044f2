use Rattle.std.proofs.Common.{◌+◌, inl, sym, subst}
use Rattle.acng_fetch.specs.Loads.{FaultsIn, IsEnded}
use Rattle.acng_fetch.proofs.downloading.download.Goals as goal

pub try_on-requires-clause-stands : goal.try_on-requires-clause-stands
try_on-requires-clause-stands g c =
    let l = c.args.loader.now in
    let stock = g.B.Grows.stock l.body in
    c.in-Ok.ensures.stands stock.first stock.next l.plan (g.B.Grows.full l.body) c.requires.opening c.requires.full

pub close_by-requires-in-Err-try_on-clause-faults : goal.close_by-requires-in-Err-try_on-clause-faults
close_by-requires-in-Err-try_on-clause-faults g c =
    let stock = g.B.Grows.stock c.args.loader.now.body in
    let n = stock.next + stock.left in
    let plan = c.try_on.new.loader.plan in
    (n, subst (λ f. FaultsIn f plan n c.in-Err-try_on.fault) (sym c.try_on.ensures.first) c.in-Err-try_on.ensures.fault)

pub returns-in-Err-try_on-clause-ended : goal.returns-in-Err-try_on-clause-ended
returns-in-Err-try_on-clause-ended g c =
    let stock = g.B.Grows.stock c.args.loader.now.body in
    let n = stock.next + stock.left in
    let plan = c.try_on.new.loader.plan in
    let faults = subst (λ f. FaultsIn f plan n c.in-Err-try_on.fault) (sym c.try_on.ensures.first) c.in-Err-try_on.ensures.fault in
    subst (λ f. IsEnded c.args.order.now f c.close_by-in-Err-try_on.new.loader.plan n) c.try_on.ensures.first
    (c.close_by-in-Err-try_on.ensures.ended n faults)

pub returns-in-Err-clause-ended : goal.returns-in-Err-clause-ended
returns-in-Err-clause-ended g c =
    let stock = g.B.Grows.stock c.args.loader.now.body in
    c.close_by.ensures.ended (stock.next + stock.left) (inl c.requires.opening)
