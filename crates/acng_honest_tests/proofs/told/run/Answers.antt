use Rattle.acng_honest_tests.proofs.Serves.{served}
use Rattle.acng_honest_tests.proofs.told.run.Goals as goal

pub run_single-status-requires-clause-serves : goal.run_single-status-requires-clause-serves
run_single-status-requires-clause-serves c = λ tells settings says. served c.args.conf.now.link.left c.requires.empty settings says
