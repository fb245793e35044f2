use Rattle.std.proofs.Common.{◌∙◌, ap, arith, [], ◌∷◌, ◌++◌, cond}
use Rattle.acng_rows.specs.declared.removal.Removal.TheVariants as removal
use Rattle.acng_rows.proofs.Lists.{off_next}
use Rattle.acng_rows.proofs.find.bodies_off.Goals as goal

pub loop-i-preserved : goal.loop-i-preserved
loop-i-preserved c = off_next removal.Body c.args.ids.now c.args.all.now c.loop-i.i c.get-id.result.0 c.args.list.items
    c.loop-i.list.items c.push_unless.new.list.items
    (omega (arith, c.loop-i-test.true, c.len-i-end.ensures.count)) c.get-id.ensures c.loop-i.invariant
    (c.in_ok-push_unless.ensures ∙ ap (λ b. c.loop-i.list.items ++ cond b [] (removal.Body c.get-id.result.0 ∷ [])) c.has.ensures)
