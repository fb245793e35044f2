use Rattle.std.proofs.Common.{◌∙◌, ap, arith, [], ◌∷◌, ◌++◌, cond}
use Rattle.std.specs.Map.{keys_of}
use Rattle.std.proofs.lemmas.Map.Entries.{length-keys_of}
use Rattle.acng_rows.specs.declared.removal.Removal.TheVariants as removal
use Rattle.acng_rows.proofs.Lists.{off_next}
use Rattle.acng_rows.proofs.find.heads_off.Goals as goal

pub loop-i-preserved : goal.loop-i-preserved
loop-i-preserved c = off_next removal.Head c.args.ids.now (keys_of c.args.heads.now) c.loop-i.i c.get.result.0.0 [] c.loop-i.list.items
    c.push_unless.new.list.items
    (omega (arith, c.loop-i-test.true, c.len-i-end.ensures.count, length-keys_of c.args.heads.now)) c.get.ensures.id c.loop-i.invariant
    (c.in_ok-push_unless.ensures ∙ ap (λ b. c.loop-i.list.items ++ cond b [] (removal.Head c.get.result.0.0 ∷ [])) c.has.ensures)
