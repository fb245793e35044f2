use Rattle.acng_serve.proofs.Filing.{loads_opened, loads_grown}
use Rattle.acng_serve.proofs.answer.answer_loaded.Goals as goal

pub send_found-requires-clause-opened : goal.send_found-requires-clause-opened
send_found-requires-clause-opened g c =
    loads_opened g.S.Site g.K.Keeper.tells c.args.ticket c.args.desk.now c.load_owned-loaded.new.desk c.load_owned-loaded.new.body
    c.load_owned-loaded.ensures.loads

pub send_found-requires-clause-grown : goal.send_found-requires-clause-grown
send_found-requires-clause-grown g c =
    loads_grown g.S.Site g.K.Keeper.tells c.args.ticket c.args.desk.now c.load_owned-loaded.new.desk c.load_owned-loaded.new.body
    c.load_owned-loaded.ensures.loads
