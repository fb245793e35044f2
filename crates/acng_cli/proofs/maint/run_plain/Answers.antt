use Rattle.acng_cli.proofs.Tasks.{refused_plain}
use Rattle.acng_cli.proofs.maint.run_plain.Goals as goal

pub returns-in_default-clause-ran : goal.returns-in_default-clause-ran
returns-in_default-clause-ran g c =
    refused_plain _ g.W.Sink (g.I.Source.left c.args.conf.now) c.args.lists.now (g.I.Source.faults c.args.conf.now)
    (g.I.Source.faults c.args.conf.now) c.args.command c.print_words.result c.args.out.now c.print_words.new.out
    c.in_default.not-CheckConf c.in_default.not-Gen c.print_words.ensures
