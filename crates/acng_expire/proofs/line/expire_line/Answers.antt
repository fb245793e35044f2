use Rattle.acng_expire.proofs.Lines.{some_end}
use Rattle.acng_expire.proofs.line.expire_line.Goals as goal

pub returns-in-Err-clause-refused : goal.returns-in-Err-clause-refused
returns-in-Err-clause-refused g c =
    some_end g.K.Keeper.tells c.args.now c.args.desk.now c.expire-ended.new.desk c.expire-ended.result c.expire-ended.ensures
