use Rattle.std.proofs.Common.{◌∙◌}
use Rattle.acng_cli.proofs.Fetches.{asked_step}
use Rattle.acng_cli.proofs.generate.ask_all.Goals as goal

pub loop-i-preserved : goal.loop-i-preserved
loop-i-preserved g c =
    let inside = c.loop-i.invariant in
    record {
      asked = asked_step g.S.Site c.args.conf.now c.args.files.now c.loop-i.i c.index-files-i.result c.loop-i-test.true
          c.index-files-i.is c.args.cache.now c.loop-i.cache c.ask.new.cache inside.asked c.in_ok-ask.ensures.asked;
      idle = c.in_ok-ask.ensures.idle;
      rules = c.in_ok-ask.ensures.rules ∙ inside.rules;
    }
