use Rattle.std.proofs.Common.{ap}
use Rattle.acng_keeper.specs.Kept.{Kept}
use Rattle.acng_keeper.specs.Stops.{image_at_rest}
use Rattle.acng_keeper.proofs.memory.MemoryKeeper.after_stop.Goals as goal

pub returns-clause-image : goal.returns-clause-image
returns-clause-image c =
    let k : Kept = record {
      heads = c.args.self.heads;
      bodies = c.args.self.bodies;
      loose = c.args.self.loose;
      taken = c.args.self.taken;
      trail = c.args.self.trail.items;
    } in
    image_at_rest k (record k { loose = c.clear.new.self }) c.args.self.next (ap (λ l. record k { loose = l }) c.clear.ensures)
