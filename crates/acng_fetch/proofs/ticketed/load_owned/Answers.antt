use Rattle.std.proofs.Common.{◌≡◌, ◌⊎◌}
use Rattle.acng_desk.specs.Commands.{step, Settle}
use Rattle.acng_desk.specs.House.{spot_at}
use Rattle.acng_desk.specs.Settles.{Falls, end_of, grown_after}
use Rattle.acng_fetch.proofs.LeadLemmas.{either, either_body}
use Rattle.acng_fetch.proofs.ticketed.load_owned.Goals as goal

pub returns-clause-loads : goal.returns-clause-loads
returns-clause-loads g c =
    let t = c.load_into-ticket.result in
    let b = c.load_into-ticket.new.body in
    let old = c.args.desk.now in
    let new = c.settle-settled.new.self in
    let last = c.settle-settled.new.body in
    let end = end_of (spot_at old.plain b.path) t b in
    let made = c.load_into-ticket.ensures in
    record {
      spent = t;
      body = b;
      info = made.info;
      ends = made.ends;
      loaded = made.loaded;
      label = made.label;
      cause = made.cause;
      left = either c.settle-settled.result (new.plain ≡ step (Settle t b) old.plain) (Falls end t b old.plain new.plain)
          c.settle-settled.ensures.plain;
      is = either_body (last ≡ grown_after end b) (last ≡ b)
          (either c.settle-settled.result (last ≡ grown_after end b) ((last ≡ b) ⊎ (last ≡ grown_after end b))
          c.settle-settled.ensures.body);
    }
