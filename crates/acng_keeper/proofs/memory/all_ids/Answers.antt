use Rattle.acng_keeper.proofs.Listed.{gathered}
use Rattle.acng_keeper.proofs.memory.all_ids.Goals as goal

pub returns-clause-listed : goal.returns-clause-listed
returns-clause-listed c =
    gathered c.args.bodies.now c.args.loose.now c.new-all.result c.add_ids.new.all c.add_ids-2.new.all c.in_ok-ids.ids.items
    c.new-all.ensures c.in_ok-add_ids.ensures c.in_ok-add_ids-2.ensures c.in_ok-ids.ensures.same
