use Rattle.std.proofs.Common.{true, subst}
use Rattle.acng_conf.specs.Settings.{rules_of}
use Rattle.acng_keeper.specs.Kept.{nothing}
use Rattle.acng_desk.specs.Starts.{IsStarted, most_rows}
use Rattle.acng_cli.proofs.generate.fetched.Goals as goal

pub returns : goal.returns
returns c = record {
  begun = c.in_ok-cache.cache;
  started =
      subst (λ n. IsStarted true nothing 0 n most_rows (rules_of c.args.conf.now) c.in_ok-cache.cache) c.in_ok-right.ensures
      c.in_ok-cache.ensures;
  asked = c.in_ok-ask_all.ensures;
}
